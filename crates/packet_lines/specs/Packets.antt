-- The text of `packets`: raw bytes to lines, one equation, in the manner of the listing. 10 before 9: at the limit of pairs
-- one byte more is refused 10, and what comes after it is not read.
use Rattle.std.specs.Prelude.{ℕ, ◌+◌, leb, cond, List, [], ◌∷◌, ◌++◌}
use Rattle.code.specs.Outcome.{Outcome, answer, refused}
use Rattle.code.specs.Pair.{pair}
use Rattle.extended.specs.Extended.{Reader, Report, event, fresh, nothing, packet, read}
use Rattle.lines.specs.Listing.{most_pairs}
use Rattle.lines.specs.Words.{line, refused_words}
use Rattle.packet_lines.specs.Words.{last_line, line_of}

-- 1 for a pair that finished a packet
abbrev pub packets_in : Outcome Report → ℕ
packets_in (answer nothing) = 0
packets_in (answer (event e)) = 0
packets_in (answer (packet c t bs)) = 1
packets_in (refused m) = 0

-- 1 for a pair that was refused
abbrev pub refusals : Outcome Report → ℕ
refusals (answer r) = 0
refusals (refused m) = 1

-- a refusal of the stream by this number, which ends the text
abbrev pub ends_refused : ℕ → ℕ → ℕ → ℕ → List ℕ
ends_refused m k n q = line k (refused_words m) ++ last_line k n (q + 1)

-- what is said from a reader on, with k pairs read, n packets finished and q refused
abbrev pub packets_from : Reader → ℕ → ℕ → ℕ → List ℕ → List ℕ
packets_from s k n q [] = last_line k n q
packets_from s k n q (a ∷ []) = cond (leb most_pairs k) (ends_refused 10 k n q) (ends_refused 9 k n q)
packets_from s k n q (a ∷ b ∷ rest) =
    cond (leb most_pairs k) (ends_refused 10 k n q)
    (line_of k (read s (pair a b)).0
    ++ packets_from (read s (pair a b)).1 (k + 1) (n + packets_in (read s (pair a b)).0) (q + refusals (read s (pair a b)).0) rest)

unfoldable pub packet_lines : List ℕ → List ℕ
packet_lines bytes = packets_from fresh 0 0 0 bytes
