-- The answer is unique: of `decode`, the outcome of the answer is injective, and the promise has the state as it is.
-- Assumes nothing.
use mathlib.Core.Path.{refl}
use Rattle.code.proofs.OneAnswer.{Injective, beside_injective, outcome_injective}
use Rattle.receiver.specs.Heard.{heard_outcome}
use Rattle.receiver.specs.Receiver.{decoded_outcome}

pub decoded_injective : Injective decoded_outcome
decoded_injective = beside_injective heard_outcome (outcome_injective (λ e. 1) (λ d f e. refl))
