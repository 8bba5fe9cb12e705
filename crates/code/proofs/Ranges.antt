-- A number within a range, and one outside it; the ranges of a first byte.
-- Assumes nothing.
use mathlib.Core.Bool.{Bool, true, false, cond}
use mathlib.Core.Path.{◌≡◌, refl}
use Prim.Native.Nat.{ℕ, ◌≤◌, ◌<◌}
use borrow.Author.Tests.{le-leb, leb-true, lt-leb}
use lib.Dec.{leb}
use native.Mathlib.Omega.{arith}
use Rattle.code.proofs.Both.{both_true}
use Rattle.code.specs.Range.{within}
use Rattle.code.specs.Read.{is_command}

pub inside : (low high n : ℕ) → low ≤ n → n ≤ high → within low high n ≡ true
inside low high n from to = rw (le-leb low n from, le-leb n high to) refl

outside_by : (low high n : ℕ) (t : Bool) → leb low n ≡ t → (low ≤ n → high < n) → within low high n ≡ false
outside_by low high n true e past = rw (e, lt-leb n high (past (leb-true low n e))) refl
outside_by low high n false e past = rw e refl

pub outside : (low high n : ℕ) → (low ≤ n → high < n) → within low high n ≡ false
outside low high n past = outside_by low high n (leb low n) refl past

pub bounds : (low high n : ℕ) → within low high n ≡ true → (low ≤ n) × (n ≤ high)
bounds low high n e =
    let both = both_true (leb low n) (leb n high) e in
    (leb-true low n both.0, leb-true n high both.1)

-- the first byte of a control code
pub command_range : (a : ℕ) → is_command a ≡ true → (16 ≤ a) × (a < 32)
command_range a e = let range = bounds 0x10 0x1F a e in (range.0, omega arith)

-- without the channel bit it is 10 to 17, and so is whichever of two such bytes a test picks
pub still_between : (t : Bool) (x p : ℕ) → (16 ≤ x) × (x < 24) → (16 ≤ p) × (p < 24) → (16 ≤ cond t x p) × (cond t x p < 24)
still_between true x p other own = other
still_between false x p other own = own
