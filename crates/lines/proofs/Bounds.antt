-- How long lines of text are: none is longer than a line's memory, and the last ones fit after any other.
-- Assumes nothing.
use mathlib.Core.Bool.{Bool, true, false, cond}
use mathlib.Core.List.{List, [], ◌∷◌, ◌++◌}
use Rattle.std.specs.Prelude.{Option, None, Some}
use mathlib.Core.Path.{◌≡◌, refl, ap, sym, ◌∙◌}
use Prim.Native.Nat.{ℕ, ◌+◌, ◌≤◌, ◌<◌}
use native.Mathlib.Omega.{arith}
use borrow.Author.Tests.{lt-leb}
use lib.Dec.{leb}
use lib.ListN.{length, length-append}
use Rattle.code.specs.Characters.{points}
use Rattle.code.specs.MidRow.{is_underlined, mid_row_number}
use Rattle.code.specs.Outcome.{Outcome, answer, refused}
use Rattle.code.specs.Preamble.{style_of}
use Rattle.event.specs.declared.event.Cea608.{Cea608}
use Rattle.event.specs.declared.event.Cea608.TheVariants as event
use Rattle.event.specs.declared.mode.Mode.{Mode}
use Rattle.event.specs.declared.mode.Mode.TheVariants as mode
use Rattle.lines.specs.Listing.{ends_refused, most_pairs}
use Rattle.code.specs.Read.{is_odd_pair}
use Rattle.code.specs.declared.pair.Pair.{Pair}
use Rattle.receiver.proofs.Step.{even_is_refused_1, odd_is_not_refused}
use Rattle.receiver.specs.Receiver.{Stepped, step}
use Rattle.receiver.specs.declared.state.Cea608State.{Cea608State}
use Rattle.lines.specs.Words.{at_place, at_places, character_word, decimal, event_words, flag_digit, last_line, line, line_of, mode_word, refused_words}

one_digit : (t : Bool) (d : ℕ) → length (cond t (d ∷ []) []) ≤ 1
one_digit true d = omega arith
one_digit false d = omega arith

at_place_lem : (p n : ℕ) → length (at_place p n) ≤ 1
at_place_lem p n = one_digit (leb p n) _

places_short : (ps : List ℕ) (n : ℕ) → length (at_places ps n) ≤ length ps + 1
places_short [] n = omega arith
places_short (p ∷ ps) n = omega (arith, length-append (at_place p n) (at_places ps n), at_place_lem p n, places_short ps n)

-- a place that a number does not reach has no digit
not_reached : (p : ℕ) (ps : List ℕ) (n : ℕ) → n < p → length (at_places (p ∷ ps) n) ≤ length ps + 1
not_reached p ps n less = rw (lt-leb p n less) (places_short ps n)

-- a number has at most ten digits, and one below a hundred millions at most eight
pub decimal_short : (n : ℕ) → length (decimal n) ≤ 10
unfolding decimal
decimal_short n = places_short (1000000000 ∷ 100000000 ∷ 10000000 ∷ 1000000 ∷ 100000 ∷ 10000 ∷ 1000 ∷ 100 ∷ 10 ∷ []) n

pub eight_digits : (n : ℕ) → n < 100000000 → length (decimal n) ≤ 8
unfolding decimal
eight_digits n less =
    let rest : List ℕ = 10000000 ∷ 1000000 ∷ 100000 ∷ 10000 ∷ 1000 ∷ 100 ∷ 10 ∷ [] in
    rw (lt-leb 1000000000 n (omega (arith, less))) (not_reached 100000000 rest n less)

character_short : (c : Option ℕ) → length (character_word c) ≤ 4
character_short None = omega arith
character_short (Some p) = omega arith

mode_short : (m : Mode) → length (mode_word m) ≤ 5
mode_short mode.PopOn = omega arith
mode_short mode.PaintOn = omega arith
mode_short mode.RollUp2 = omega arith
mode_short mode.RollUp3 = omega arith
mode_short mode.RollUp4 = omega arith

-- the words of an event have at most 32 bytes
pub event_short : (e : Cea608) → length (event_words e) ≤ 32
event_short (event.Text t) =
    omega (arith, length-append (character_word t.char1) (0x20 ∷ character_word t.char2), character_short t.char1, character_short t.char2)
event_short (event.NewMode ch m) = omega (arith, mode_short m)
event_short (event.EraseDisplay ch) = omega arith
event_short (event.EraseNonDisplay ch) = omega arith
event_short (event.CarriageReturn ch) = omega arith
event_short (event.Backspace ch) = omega arith
event_short (event.EndOfCaption ch) = omega arith
event_short (event.TabOffset ch n) = omega (arith, decimal_short n)
event_short (event.DeleteToEndOfRow ch) = omega arith
event_short (event.Preamble ch p) =
    omega (arith, decimal_short p.row, decimal_short (style_of p.ty), length-append (decimal p.row) (0x20 ∷ (decimal (style_of p.ty) ++ (0x20 ∷ flag_digit p.underline ∷ []))), length-append (decimal (style_of p.ty)) (0x20 ∷ flag_digit p.underline ∷ []))
event_short (event.MidRowChange ch m) =
    omega (arith, decimal_short (mid_row_number m), length-append (decimal (mid_row_number m)) (0x20 ∷ flag_digit (is_underlined m) ∷ []))

line_short : (k n : ℕ) (words : List ℕ) → k < 100000000 → length words ≤ n → length (line k words) ≤ n + 10
line_short k n words less short =
    omega (arith, short, eight_digits k less, length-append (decimal k) (0x20 ∷ (words ++ (0x0A ∷ []))), length-append words (0x0A ∷ []))

refused_short : (n : ℕ) → n < 100000000 → length (refused_words n) ≤ 16
refused_short n less = omega (arith, eight_digits n less)

-- the line of a pair has at most 42 bytes
pair_line_short : (k : ℕ) (o : Outcome (Option Cea608)) → k < 100000000 → ((n : ℕ) → o ≡ refused n → n < 100000000) → length (line_of k o) ≤ 42
pair_line_short k (answer None) less few = omega arith
pair_line_short k (answer (Some e)) less few = line_short k 32 (event_words e) less (event_short e)
pair_line_short k (refused n) less few = omega (arith, line_short k 16 (refused_words n) less (refused_short n (few n refl)))

same_refusal : {n m : ℕ} → ◌≡◌ {A = Outcome (Option Cea608)} (refused n) (refused m) → n ≡ m
same_refusal e = cc

-- a pair is refused by 1 only
by_one : (s : Cea608State) (p : Pair) (n : ℕ) → (step s p).0 ≡ refused n → n < 100000000
by_one s p n e = by_parity (is_odd_pair p) refl
  where
    by_parity : (t : Bool) → is_odd_pair p ≡ t → n < 100000000
    by_parity true odd = absurd (odd_is_not_refused s p n odd e)
    by_parity false even =
        let one : n ≡ 1 = same_refusal (sym e ∙ ap (λ (r : Stepped). r.0) (even_is_refused_1 s p even)) in
        omega (arith, one)

pub pair_fits : (s : Cea608State) (p : Pair) (k : ℕ) → k < most_pairs → length (line_of k (step s p).0) ≤ 42
pair_fits s p k less = pair_line_short k (step s p).0 (omega (arith, less)) (by_one s p)

last_short : (p q : ℕ) → p < 100000000 → q < 100000000 → length (last_line p q) ≤ 32
last_short p q lp lq =
    omega (arith, eight_digits p lp, eight_digits q lq, length-append (decimal p) (points " refused " ++ (decimal q ++ (0x0A ∷ []))), length-append (decimal q) (0x0A ∷ []))

-- the last lines together at most 54: they fit after the line of a pair
pub nine_short : length (refused_words 9) ≤ 9
unfolding decimal
nine_short = omega arith

pub ten_short : length (refused_words 10) ≤ 10
unfolding decimal
ten_short = omega arith

pub ending_short : (n k q : ℕ) → length (refused_words n) ≤ 10 → k < 100000000 → q + 1 < 100000000 → length (ends_refused n k q) ≤ 54
ending_short n k q short lk lq =
    omega (arith, length-append (line k (refused_words n)) (last_line k (q + 1)), line_short k 10 (refused_words n) lk short, last_short k (q + 1) lk lq)

pub last_line_short : (p q : ℕ) → p < 100000000 → q < 100000000 → length (last_line p q) ≤ 54
last_line_short p q lp lq = omega (arith, last_short p q lp lq)
