-- The answer is unique: a promise says that the answer's outcome is the definition's, and the outcome is injective where
-- refusals have numbers of their own. So two answers that meet one promise are equal. (Where a promise equates the answer
-- itself with its definition, that is plain.)
-- Assumes nothing.
use mathlib.Core.Path.{◌≡◌, refl, ap, ap₂, sym, ◌∙◌}
use Prim.Native.Nat.{ℕ}
use native.Mathlib.Omega.{arith}
use Rattle.std.specs.Prelude.{Ok, Err}
use Rattle.code.specs.Code.{from_char_outcome}
use Rattle.code.specs.Control.{tab_offset_outcome}
use Rattle.code.specs.Outcome.{Outcome, answer, outcome, refused}
use Rattle.code.specs.Preamble.{from_indent_outcome, new_preamble_outcome}
use Rattle.code.specs.Read.{from_data_outcome}
use Rattle.code.specs.Write.{domain_outcome, row_bytes_outcome, write_refusal, written_outcome}
use Rattle.code.specs.declared.write.WriteError.TheVariants.{UnknownByte, NoSuchRow}

abbrev pub Injective : {A B : Type 0} → (A → B) → Type 0
Injective {A} outcome = (r s : A) → outcome r ≡ outcome s → r ≡ s

-- two answers that meet one promise are equal
pub answer_is_unique : {A B : Type 0} (outcome : A → B) → Injective outcome → (d : B) (r s : A) → outcome r ≡ d → outcome s ≡ d → r ≡ s
answer_is_unique outcome injective d r s p q = injective r s (p ∙ sym q)

-- a value is not a refusal, and equal answers have equal values
pub clash : {A : Type 0} {x : A} {n : ℕ} → answer x ≡ refused n → ⊥
clash e = let z : ◌≡◌ {A = ℕ} 0 1 = cc in omega arith

pub same : {A : Type 0} {x y : A} → answer x ≡ answer y → x ≡ y
same e = cc

same_refusal : {A : Type 0} {m n : ℕ} → ◌≡◌ {A = Outcome A} (refused m) (refused n) → m ≡ n
same_refusal e = cc

-- refusals with numbers of their own leave nothing to choose
pub outcome_injective : {A E : Type 0} (refusal : E → ℕ) → Injective refusal → Injective (outcome {A = A} refusal)
outcome_injective refusal apart (Ok x) (Ok y) e = ap Ok (same e)
outcome_injective refusal apart (Ok x) (Err f) e = absurd (clash e)
outcome_injective refusal apart (Err d) (Ok y) e = absurd (clash (sym e))
outcome_injective refusal apart (Err d) (Err f) e = ap Err (apart d f (same_refusal e))

-- and so does an outcome with a state beside it
pub beside_injective : {S A B : Type 0} (told : A → B) → Injective told → Injective {B = B × S} (λ (r : S × A). (told r.1, r.0))
beside_injective {S} {A} {B} told apart r s e =
    ap₂ {C = S × A} (λ (a : A) (x : S). (x, a)) (apart r.1 s.1 (ap (λ (w : B × S). w.0) e)) (ap (λ (w : B × S). w.1) e)

write_refusals_apart : Injective write_refusal
write_refusals_apart UnknownByte UnknownByte e = refl
write_refusals_apart UnknownByte NoSuchRow e = absurd (omega arith)
write_refusals_apart NoSuchRow UnknownByte e = absurd (omega arith)
write_refusals_apart NoSuchRow NoSuchRow e = refl

pub from_data_injective : Injective from_data_outcome
from_data_injective = outcome_injective (λ e. 1) (λ d f e. refl)

pub written_injective : Injective written_outcome
written_injective = outcome_injective write_refusal write_refusals_apart

pub from_char_injective : Injective from_char_outcome
from_char_injective = outcome_injective (λ e. 5) (λ d f e. refl)

pub tab_offset_injective : Injective tab_offset_outcome
tab_offset_injective = outcome_injective (λ e. 4) (λ d f e. refl)

pub from_indent_injective : Injective from_indent_outcome
from_indent_injective = outcome_injective (λ e. 8) (λ d f e. refl)

pub new_preamble_injective : Injective new_preamble_outcome
new_preamble_injective = outcome_injective (λ e. 3) (λ d f e. refl)

pub domain_injective : Injective domain_outcome
domain_injective = outcome_injective write_refusal write_refusals_apart

pub row_bytes_injective : Injective row_bytes_outcome
row_bytes_injective = outcome_injective (λ e. 3) (λ d f e. refl)
