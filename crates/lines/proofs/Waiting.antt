-- What waits of a line of text: how much, and the bytes at its places.
-- Assumes nothing.
use mathlib.Core.Bool.{Bool, true, false, cond}
use mathlib.Core.List.{List, ◌∷◌}
use mathlib.Core.Path.{◌≡◌, refl, ap, ap₂, sym, ◌∙◌}
use Prim.Native.Nat.{ℕ, zero, suc, ◌+◌, ◌-◌, ◌≤◌, ◌<◌, min}
use native.Mathlib.Numerals.{add-one}
use native.Mathlib.Omega.{arith}
use borrow.Author.Tests.{le-ltb, leb-false, leb-true, lt-ltb, ltb-false, ltb-true}
use lib.Dec.{leb, ltb}
use lib.ListN.{drop, get_or, length, length-take, take}
use lib.Seq.{drop-cons}
use Rattle.lines.proofs.Memory.{from_length}
use Rattle.lines.specs.Line.{bytes_from, empty_line, has_more, line_length, pending, unwritten, waiting, writes}
use Rattle.lines.specs.declared.line.Line.{Line}

-- the place after the last byte that waits: the length, but at most that of the memory
abbrev last_place : ℕ → ℕ
last_place len = cond (leb line_length len) line_length len

last_is : (len : ℕ) → last_place len ≡ min len line_length
last_is len = by (leb line_length len) refl
  where
    by : (t : Bool) → leb line_length len ≡ t → cond t line_length len ≡ min len line_length
    by true e = omega (arith, leb-true line_length len e)
    by false e = omega (arith, leb-false line_length len e)

-- nothing waits from the end of the memory on
pub none_past_the_memory : (l : Line) → line_length ≤ l.at → has_more l ≡ false
none_past_the_memory l h = le-ltb 0 (waiting l) (omega (arith, last_is l.len))

-- two comparisons that agree
same_test : (a b c d : ℕ) → (a < b → c < d) → (b ≤ a → d ≤ c) → ltb a b ≡ ltb c d
same_test a b c d if_less if_not = same_by (ltb a b) refl
  where
    same_by : (t : Bool) → ltb a b ≡ t → ltb a b ≡ ltb c d
    same_by true e = e ∙ sym (lt-ltb c d (if_less (ltb-true a b e)))
    same_by false e = e ∙ sym (le-ltb c d (if_not (ltb-false a b e)))

-- before it, something waits exactly where the place is before the length
pub more_by_length : (l : Line) → l.at < line_length → ltb l.at l.len ≡ has_more l
more_by_length l small =
    let last = last_is l.len in
    same_test l.at l.len 0 (waiting l)
    (λ less. omega (arith, last))
    (λ more. omega (arith, last))

-- as many bytes as wait, and each is the line's at its place
pub how_many_lem : (l : Line) → length (pending l) ≡ waiting l
how_many_lem l = from_length l.bytes l.at (waiting l)

-- a flush writes no more than there is room for, and leaves something where more waits than that
pub fits : (l : Line) (room : ℕ) → length (writes l room) ≤ room
fits l room = omega (arith, length-take room (pending l))

pub left_where_more : (l : Line) (room : ℕ) → has_more (unwritten l room) ≡ ltb room (waiting l)
left_where_more l room = by_room (ltb room (waiting l)) refl
  where
    by_room : (t : Bool) → ltb room (waiting l) ≡ t → has_more (cond t (record { bytes = l.bytes; at = l.at + room; len = l.len }) empty_line) ≡ t
    by_room true more = lt-ltb 0 (waiting (record { bytes = l.bytes; at = l.at + room; len = l.len })) (omega (arith, ltb-true room (waiting l) more))
    by_room false none = refl

pub empty_where_no_more : (l : Line) (room : ℕ) → ltb room (waiting l) ≡ false → unwritten l room ≡ empty_line
empty_where_no_more l room none = rw none refl

pub nothing_waits : (room : ℕ) → ltb room (waiting empty_line) ≡ false
nothing_waits room = le-ltb room 0 (omega arith)

-- the same as a part of the memory
from_places : (bytes : List ℕ) (at n : ℕ) → at + n ≤ length bytes → bytes_from bytes at n ≡ take n (drop at bytes)
from_places bytes at zero fits = refl
from_places bytes at (suc n) fits =
    let less : at < length bytes = omega (arith, fits) in
    let here : drop at bytes ≡ get_or bytes at 0 ∷ drop (at + 1) bytes = rw (add-one, drop-cons bytes at 0 less) in
    ap (λ (bs : List ℕ). get_or bytes at 0 ∷ bs) (from_places bytes (at + 1) n (omega (arith, fits)))
    ∙ sym (ap (take (suc n)) here)

pub slice_that_waits : (l : Line) (end start : ℕ) → length l.bytes ≡ line_length → end ≡ min l.len line_length → start ≡ min l.at end → take (end - start) (drop start l.bytes) ≡ pending l
slice_that_waits l end start long last first = by (leb l.at end) refl
  where
    how_much : end - start ≡ waiting l
    how_much = omega (arith, last_is l.len, last, first)

    by : (t : Bool) → leb l.at end ≡ t → take (end - start) (drop start l.bytes) ≡ pending l
    by true e =
        let inside = leb-true l.at end e in
        let here : start ≡ l.at = omega (arith, first, inside) in
        ap₂ (λ (n i : ℕ). take n (drop i l.bytes)) how_much here
        ∙ sym (from_places l.bytes l.at (waiting l) (omega (arith, long, last, inside, how_much, here)))
    by false e =
        let none : waiting l ≡ 0 = omega (arith, leb-false l.at end e, last, last_is l.len) in
        ap (λ (n : ℕ). take n (drop start l.bytes)) (how_much ∙ none) ∙ sym (ap (bytes_from l.bytes l.at) none)
