-- The answer is unique: each refusal has a number of its own, and the promise has the state beside the answer, and of a
-- drain the output, as they are.
-- Assumes nothing.
use mathlib.Core.List.{List}
use mathlib.Core.Path.{refl, ap, ap₂}
use Prim.Native.Nat.{ℕ}
use native.Mathlib.Omega.{arith}
use Rattle.std.specs.Prelude.{Result}
use Rattle.code.proofs.OneAnswer.{Injective, beside_injective, outcome_injective}
use Rattle.code.specs.Outcome.{Outcome}
use Rattle.queue.proofs.OneAnswer.{formed_injective, push_answer_injective}
use Rattle.queue.specs.Ring.{formed_outcome, push_answer_outcome}
use Rattle.sender.specs.Drain.{drain_answer_outcome, drain_outcome, drain_refusal}
use Rattle.sender.specs.Sender.{count_outcome, idle_outcome, push_outcome, send_outcome}
use Rattle.sender.specs.declared.drain.DrainError.{DrainError}
use Rattle.sender.specs.declared.drain.DrainError.TheVariants.{StartPastEnd, IllFormed}
use Rattle.sender.specs.declared.sender.Sender.{Sender}

-- a push, a send and a count, whose answers are the queue's
pub push_injective : Injective push_outcome
push_injective = beside_injective push_answer_outcome push_answer_injective

pub send_injective : Injective send_outcome
send_injective = beside_injective formed_outcome formed_injective

pub count_injective : Injective count_outcome
count_injective = beside_injective formed_outcome formed_injective

-- whether idle
pub idle_injective : Injective idle_outcome
idle_injective = beside_injective formed_outcome formed_injective

drain_refusals_apart : Injective drain_refusal
drain_refusals_apart StartPastEnd StartPastEnd e = refl
drain_refusals_apart StartPastEnd IllFormed e = absurd (omega arith)
drain_refusals_apart IllFormed StartPastEnd e = absurd (omega arith)
drain_refusals_apart IllFormed IllFormed e = refl

-- a drain's outcome has the output too
pub drain_injective : Injective (λ (r : (Sender × Result ℕ DrainError) × List ℕ). drain_outcome r.0 r.1)
drain_injective r s e =
    ap₂ {C = (Sender × Result ℕ DrainError) × List ℕ} (λ (x : Sender × Result ℕ DrainError) (out : List ℕ). (x, out))
    (beside_injective drain_answer_outcome (outcome_injective drain_refusal drain_refusals_apart) r.0 s.0
    (ap (λ (w : Outcome ℕ × Sender × List ℕ). (w.0, w.1)) e))
    (ap (λ (w : Outcome ℕ × Sender × List ℕ). w.2) e)
