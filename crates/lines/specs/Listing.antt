-- The listing: raw bytes to text, one equation, from 01's section "The listing". 10 before 9: at the limit of pairs one
-- byte more is refused 10, and what comes after it is not read.
use Rattle.std.specs.Prelude.{ℕ, ◌+◌, cond, List, [], ◌∷◌, ◌++◌, leb, Option}
use Rattle.code.specs.Outcome.{Outcome, answer, refused}
use Rattle.code.specs.Pair.{pair}
use Rattle.event.specs.declared.event.Cea608.{Cea608}
use Rattle.lines.specs.Words.{last_line, line, line_of, refused_words}
use Rattle.receiver.specs.Receiver.{fresh, step}
use Rattle.receiver.specs.declared.state.Cea608State.{Cea608State}

abbrev pub most_pairs : ℕ
most_pairs = 16777216

-- 1 for a pair that was refused
abbrev pub refusals : Outcome (Option Cea608) → ℕ
refusals (answer e) = 0
refusals (refused n) = 1

-- a refusal of the stream by this number, which ends the listing
abbrev pub ends_refused : ℕ → ℕ → ℕ → List ℕ
ends_refused n k q = line k (refused_words n) ++ last_line k (q + 1)

-- what is listed from a state on, with k pairs read and q refused
abbrev pub list_from : Cea608State → ℕ → ℕ → List ℕ → List ℕ
list_from s k q [] = last_line k q
list_from s k q (a ∷ []) = cond (leb most_pairs k) (ends_refused 10 k q) (ends_refused 9 k q)
list_from s k q (a ∷ b ∷ rest) =
    cond (leb most_pairs k) (ends_refused 10 k q)
    (line_of k (step s (pair a b)).0 ++ list_from (step s (pair a b)).1 (k + 1) (q + refusals (step s (pair a b)).0) rest)

unfoldable pub listing : List ℕ → List ℕ
listing bytes = list_from fresh 0 0 bytes
