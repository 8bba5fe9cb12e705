-- The answer is unique: the outcome of each answer that can refuse is injective.
-- Assumes nothing.
use mathlib.Core.Path.{◌≡◌, refl, ap, sym}
use Prim.Native.Nat.{ℕ}
use native.Mathlib.Omega.{arith}
use Rattle.std.specs.Prelude.{Ok, Err}
use Rattle.code.proofs.OneAnswer.{Injective, outcome_injective}
use Rattle.code.specs.declared.code.Code.{Code}
use Rattle.event.specs.Id.{from_value_outcome}
use Rattle.event.specs.IntoCode.{codes, into_code_outcome, turned_down}
use Rattle.event.specs.declared.into_code.IntoCodeError.{IntoCodeError}
use Rattle.event.specs.declared.into_code.IntoCodeError.TheVariants as into

pub from_value_injective : Injective from_value_outcome
from_value_injective = outcome_injective (λ e. 6) (λ d f e. refl)

same_codes : {a b x y : Code} → codes a b ≡ codes x y → ◌≡◌ {A = Code × Code} (a, b) (x, y)
same_codes e = cc

turned_apart : Injective turned_down
turned_apart into.NoSuchRow into.NoSuchRow e = refl
turned_apart into.NoSuchRow into.NoSuchTab e = let z : ◌≡◌ {A = ℕ} 3 4 = cc in absurd (omega arith)
turned_apart into.NoSuchRow into.NoSuchFirst e = let z : ◌≡◌ {A = ℕ} 0 1 = cc in absurd (omega arith)
turned_apart into.NoSuchRow into.NoSuchSecond e = let z : ◌≡◌ {A = ℕ} 0 1 = cc in absurd (omega arith)
turned_apart into.NoSuchTab into.NoSuchRow e = let z : ◌≡◌ {A = ℕ} 3 4 = cc in absurd (omega arith)
turned_apart into.NoSuchTab into.NoSuchTab e = refl
turned_apart into.NoSuchTab into.NoSuchFirst e = let z : ◌≡◌ {A = ℕ} 0 1 = cc in absurd (omega arith)
turned_apart into.NoSuchTab into.NoSuchSecond e = let z : ◌≡◌ {A = ℕ} 0 1 = cc in absurd (omega arith)
turned_apart into.NoSuchFirst into.NoSuchRow e = let z : ◌≡◌ {A = ℕ} 0 1 = cc in absurd (omega arith)
turned_apart into.NoSuchFirst into.NoSuchTab e = let z : ◌≡◌ {A = ℕ} 0 1 = cc in absurd (omega arith)
turned_apart into.NoSuchFirst into.NoSuchFirst e = refl
turned_apart into.NoSuchFirst into.NoSuchSecond e = let z : ◌≡◌ {A = ℕ} 0 1 = cc in absurd (omega arith)
turned_apart into.NoSuchSecond into.NoSuchRow e = let z : ◌≡◌ {A = ℕ} 0 1 = cc in absurd (omega arith)
turned_apart into.NoSuchSecond into.NoSuchTab e = let z : ◌≡◌ {A = ℕ} 0 1 = cc in absurd (omega arith)
turned_apart into.NoSuchSecond into.NoSuchFirst e = let z : ◌≡◌ {A = ℕ} 0 1 = cc in absurd (omega arith)
turned_apart into.NoSuchSecond into.NoSuchSecond e = refl

never_codes : (x : Code × Code) (e : IntoCodeError) → codes x.0 x.1 ≡ turned_down e → ⊥
never_codes x into.NoSuchRow e = let z : ◌≡◌ {A = ℕ} 0 1 = cc in omega arith
never_codes x into.NoSuchTab e = let z : ◌≡◌ {A = ℕ} 0 1 = cc in omega arith
never_codes x into.NoSuchFirst e = let z : ◌≡◌ {A = ℕ} 0 1 = cc in omega arith
never_codes x into.NoSuchSecond e = let z : ◌≡◌ {A = ℕ} 0 1 = cc in omega arith

pub into_code_injective : Injective into_code_outcome
into_code_injective (Ok x) (Ok y) e = ap Ok (same_codes e)
into_code_injective (Ok x) (Err f) e = absurd (never_codes x f e)
into_code_injective (Err d) (Ok y) e = absurd (never_codes y d (sym e))
into_code_injective (Err d) (Err f) e = ap Err (turned_apart d f e)
