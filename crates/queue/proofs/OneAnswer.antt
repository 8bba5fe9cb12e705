-- The answer is unique: each refusal has a number of its own, and the promise has the record beside the answer as it is.
-- Assumes nothing.
use mathlib.Core.Bool.{cond}
use mathlib.Core.Path.{◌≡◌, refl, ap, sym, ◌∙◌}
use Prim.Native.Nat.{ℕ}
use lib.Dec.{eqb}
use Rattle.code.proofs.OneAnswer.{Injective, beside_injective, outcome_injective}
use Rattle.queue.specs.Entry.{entry_outcome}
use Rattle.queue.specs.Ring.{count_outcome, formed_outcome, pop_outcome, push_answer_outcome, push_outcome, push_refusal}
use Rattle.queue.specs.declared.push.PushError.{PushError}
use Rattle.queue.specs.declared.push.PushError.TheVariants as push_error

-- an error, recovered from its number
abbrev push_error_of : ℕ → PushError
push_error_of n =
    cond (eqb n 2) push_error.UnknownByte
    (cond (eqb n 3) push_error.NoSuchRow
    (cond (eqb n 18) push_error.NotACommand (cond (eqb n 7) push_error.Full push_error.IllFormed)))

push_error_found : (e : PushError) → push_error_of (push_refusal e) ≡ e
push_error_found push_error.UnknownByte = refl
push_error_found push_error.NoSuchRow = refl
push_error_found push_error.NotACommand = refl
push_error_found push_error.Full = refl
push_error_found push_error.IllFormed = refl

push_refusals_apart : Injective push_refusal
push_refusals_apart d f e = sym (push_error_found d) ∙ ap push_error_of e ∙ push_error_found f

pub push_answer_injective : Injective push_answer_outcome
push_answer_injective = outcome_injective push_refusal push_refusals_apart

pub push_injective : Injective push_outcome
push_injective = beside_injective push_answer_outcome push_answer_injective

pub formed_injective : {A : Type 0} → Injective (formed_outcome {A = A})
formed_injective = outcome_injective (λ e. 12) (λ d f e. refl)

pub pop_injective : Injective pop_outcome
pop_injective = beside_injective formed_outcome formed_injective

pub count_injective : Injective count_outcome
count_injective = beside_injective formed_outcome formed_injective

-- what a push stores
pub entry_injective : Injective entry_outcome
entry_injective = outcome_injective push_refusal push_refusals_apart
