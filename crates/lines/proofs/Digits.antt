-- The digits of numbers: below a hundred million they are those of the ten thousands, and four of the rest.
-- Assumes nothing.
use mathlib.Core.Bool.{Bool, true, false, cond}
use mathlib.Core.List.{List, [], ◌∷◌, ◌++◌, append_assoc}
use mathlib.Core.Path.{◌≡◌, refl, ap, ap₂, sym, ◌∙◌}
use Prim.Native.Nat.{ℕ, ◌+◌, ◌/◌, ◌%◌, ◌≤◌, ◌<◌}
use native.Mathlib.Omega.{arith}
use borrow.Author.Tests.{le-leb, leb-false, leb-true, lt-leb}
use lib.Dec.{leb}
use Rattle.lines.specs.Words.{at_place, decimal, hex_digit, low_four, up_to_four}

-- two tests that hold together are one
same_test : (a b x y : ℕ) → (a ≤ b → x ≤ y) → (x ≤ y → a ≤ b) → leb a b ≡ leb x y
same_test a b x y to from = by (leb a b) refl
  where
    by : (t : Bool) → leb a b ≡ t → leb a b ≡ leb x y
    by true e = e ∙ sym (le-leb x y (to (leb-true a b e)))
    by false e =
        let less : b < a = leb-false a b e in
        e ∙ sym (by_other (leb x y) refl less)
      where
        by_other : (t : Bool) → leb x y ≡ t → b < a → leb x y ≡ false
        by_other true f less = absurd (let back : a ≤ b = from (leb-true x y f) in omega (arith, back, less))
        by_other false f less = f

abbrev placed : Bool → ℕ → List ℕ
placed t d = cond t ((0x30 + d) ∷ []) []

seventh : (n : ℕ) → at_place 1000 (n / 10000) ≡ at_place 10000000 n
seventh n = ap₂ placed (same_test 1000 (n / 10000) 10000000 n (λ h. omega arith) (λ h. omega arith)) (omega arith)

sixth : (n : ℕ) → at_place 100 (n / 10000) ≡ at_place 1000000 n
sixth n = ap₂ placed (same_test 100 (n / 10000) 1000000 n (λ h. omega arith) (λ h. omega arith)) (omega arith)

fifth : (n : ℕ) → at_place 10 (n / 10000) ≡ at_place 100000 n
fifth n = ap₂ placed (same_test 10 (n / 10000) 100000 n (λ h. omega arith) (λ h. omega arith)) (omega arith)

pub short_number : (n : ℕ) → n < 10000 → up_to_four n ≡ decimal n
unfolding decimal
short_number n less =
    rw (lt-leb 1000000000 n (omega (arith, less)), lt-leb 100000000 n (omega (arith, less)), lt-leb 10000000 n (omega (arith, less)), lt-leb 1000000 n (omega (arith, less)), lt-leb 100000 n (omega (arith, less)), lt-leb 10000 n (omega (arith, less))) refl

pub long_number : (n : ℕ) → 10000 ≤ n → n < 100000000 → up_to_four (n / 10000) ++ low_four n ≡ decimal n
unfolding decimal
long_number n from less =
    simp (append_assoc, seventh n, sixth n, fifth n, lt-leb 1000000000 n (omega (arith, less)), lt-leb 100000000 n (omega (arith, less)), le-leb 10000 n (omega (arith, from)), le-leb 1000 n (omega (arith, from)), le-leb 100 n (omega (arith, from)), le-leb 10 n (omega (arith, from)))

-- a remainder by 16 is its own remainder
pub once : (n : ℕ) → hex_digit (n % 16 % 16) ≡ hex_digit (n % 16)
once n =
    let same : n % 16 % 16 ≡ n % 16 = omega arith in
    ap hex_digit same
