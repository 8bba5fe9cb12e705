-- Contents: what a byte more makes of them, and their sum byte by byte.
-- Assumes nothing.
use Prim.Native.Nat.{ℕ, ◌+◌, ◌%◌, ◌≤◌, ◌<◌}
use borrow.Author.Tests.{le-leb, leb-true, ne_eqb}
use lib.Dec.{eqb}
use lib.ListN.{length, length-append}
use mathlib.Core.Bool.{Bool, true, false, cond}
use mathlib.Core.List.{List, [], ◌∷◌, ◌++◌}
use mathlib.Core.Path.{◌≡◌, refl, ap}
use native.Mathlib.Omega.{arith}
use Rattle.extended.specs.Packet.{most_contents, sum_of, unless_filler}
use Rattle.extended.specs.State.{added, added_all, has_room}
use Rattle.extended.specs.declared.packet.Contents.{Contents}
use Rattle.std.specs.List.{fold}

-- a byte is one content byte, or none where it is filler
one_or_none : (t : Bool) (b : ℕ) → length (cond t [] (b ∷ [])) ≤ 1
one_or_none true b = omega arith
one_or_none false b = omega arith

pub at_most_one : (b : ℕ) → length (unless_filler b) ≤ 1
at_most_one b = one_or_none (eqb b 0) b

-- one byte more: as the code adds it, in a byte
abbrev pub plus : ℕ → ℕ → ℕ
plus sum b = (sum + b) % 256 % 128

sum_from : (a : ℕ) (bytes : List ℕ) → a < 128 → fold plus a bytes ≡ (a + sum_of bytes) % 128
sum_from a [] small = omega (arith, small)
sum_from a (b ∷ bs) small = omega (arith, sum_from (plus a b) bs (omega arith))

pub sum_by_fold : (bytes : List ℕ) → fold plus 0 bytes ≡ sum_of bytes % 128
sum_by_fold bytes = omega (arith, sum_from 0 bytes (omega arith))

-- modulo 128
pub sum_of_rests : (s b : ℕ) → (s % 128 + b % 128) % 128 ≡ (s + b) % 128
sum_of_rests s b = omega arith

-- so the rest of a packet's sum does not change where the contents are added up modulo 128
pub rest_of_all : (start kind contents end sum : ℕ) → (start + kind + contents % 128 + end + sum) % 128 ≡ (start + kind + contents + end + sum) % 128
rest_of_all start kind contents end sum = omega arith

-- bytes after bytes
pub added_in_turn : (c : Contents) (xs ys : List ℕ) → added_all c (xs ++ ys) ≡ added_all (added_all c xs) ys
added_in_turn c [] ys = refl
added_in_turn c (x ∷ xs) ys = added_in_turn (added c x) xs ys

longer_by : (c : Contents) (xs : List ℕ) → (added_all c xs).length ≡ c.length + length xs
longer_by c [] = omega arith
longer_by c (x ∷ xs) = omega (arith, longer_by (added c x) xs)

-- room for both is room for the first, and then for the second
pub room_for_first : (c : Contents) (xs ys : List ℕ) → has_room c (xs ++ ys) ≡ true → has_room c xs ≡ true
room_for_first c xs ys room =
    le-leb (c.length + length xs) most_contents (omega (arith, leb-true (c.length + length (xs ++ ys)) most_contents room, length-append xs ys))

pub room_for_second : (c : Contents) (xs ys : List ℕ) → has_room c (xs ++ ys) ≡ true → has_room (added_all c xs) ys ≡ true
room_for_second c xs ys room =
    le-leb ((added_all c xs).length + length ys) most_contents (omega (arith, leb-true (c.length + length (xs ++ ys)) most_contents room, length-append xs ys, longer_by c xs))

-- room for a byte that is not filler
pub room_for_one : (c : Contents) (b : ℕ) → has_room c (unless_filler b) ≡ true → (b ≡ 0 → ⊥) → c.length < most_contents
room_for_one c b room no_filler =
    omega (arith, leb-true (c.length + length (unless_filler b)) most_contents room, ap (λ (t : Bool). length (cond t [] (b ∷ []))) (ne_eqb b 0 no_filler))
