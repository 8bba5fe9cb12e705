-- The sum of a packet: of the 128 bytes that it can be exactly one is right, and it differs where one content byte does.
-- Assumes nothing.
use Prim.Native.Nat.{ℕ, ◌+◌, ◌-◌, ◌%◌, ◌<◌}
use borrow.Author.Tests.{eq-eqb, eqb-true}
use mathlib.Core.Bool.{true}
use mathlib.Core.List.{List, [], ◌∷◌, ◌++◌}
use mathlib.Core.Path.{◌≡◌}
use native.Mathlib.Omega.{arith}
use Rattle.extended.specs.Class.{end_byte, start_byte}
use Rattle.extended.specs.Packet.{is_right_sum, sum_of}
use Rattle.extended.specs.declared.class.Class.{Class}

-- start, type, contents and 0F
abbrev before_sum : Class → ℕ → List ℕ → ℕ
before_sum c t contents = start_byte c + t + sum_of contents + end_byte

-- the sum that a sender puts behind them
abbrev pub right_sum : Class → ℕ → List ℕ → ℕ
right_sum c t contents = (128 - before_sum c t contents % 128) % 128

pub there_is_a_sum : (c : Class) (t : ℕ) (contents : List ℕ) → is_right_sum c t contents (right_sum c t contents) ≡ true
there_is_a_sum c t contents = eq-eqb ((before_sum c t contents + right_sum c t contents) % 128) 0 (omega arith)

pub one_sum_is_right : (c : Class) (t : ℕ) (contents : List ℕ) (x y : ℕ) → x < 128 → y < 128 → is_right_sum c t contents x ≡ true → is_right_sum c t contents y ≡ true → x ≡ y
one_sum_is_right c t contents x y small_x small_y right_x right_y =
    omega (arith, small_x, small_y, eqb-true ((before_sum c t contents + x) % 128) 0 right_x, eqb-true ((before_sum c t contents + y) % 128) 0 right_y)

sum_of_parts : (xs : List ℕ) (b : ℕ) (ys : List ℕ) → sum_of (xs ++ (b ∷ ys)) ≡ sum_of xs + b + sum_of ys
sum_of_parts [] b ys = omega arith
sum_of_parts (x ∷ xs) b ys = omega (arith, sum_of_parts xs b ys)

-- two packets that differ in one content byte do not have the same sum
pub a_hit_shows : (c : Class) (t : ℕ) (xs ys : List ℕ) (a b x : ℕ) → a < 128 → b < 128 → is_right_sum c t (xs ++ (a ∷ ys)) x ≡ true → is_right_sum c t (xs ++ (b ∷ ys)) x ≡ true → a ≡ b
a_hit_shows c t xs ys a b x small_a small_b right_a right_b =
    omega (arith, small_a, small_b, sum_of_parts xs a ys, sum_of_parts xs b ys, eqb-true ((before_sum c t (xs ++ (a ∷ ys)) + x) % 128) 0 right_a, eqb-true ((before_sum c t (xs ++ (b ∷ ys)) + x) % 128) 0 right_b)
