-- The answer is unique: what a pair gives, its contents and the state are told by the outcome that the promise equates.
-- Assumes nothing.
use lib.Dec.{eqb}
use mathlib.Core.Bool.{cond}
use mathlib.Core.Path.{◌≡◌, refl, ap, sym, ◌∙◌}
use Rattle.std.specs.Prelude.{Option, Result, Ok, Err}
use Rattle.code.proofs.OneAnswer.{Injective}
use Rattle.code.specs.Outcome.{Outcome, answer, refused}
use Rattle.extended.specs.State.{Step, given_outcome, received_outcome}
use Rattle.extended.specs.declared.state.ExtendedError.TheVariants as error
use Rattle.extended.specs.declared.state.ExtendedError.{ExtendedError}
use Rattle.extended.specs.declared.state.ExtendedState.{ExtendedState}
use Rattle.extended.specs.declared.state.Given.{Given}

-- the answer that an outcome tells
abbrev told : Outcome (Option Given) → Result (Option Given) ExtendedError
told (answer g) = Ok g
told (refused n) = Err (cond (eqb n 1) error.InvalidParity (cond (eqb n 13) error.NotOpen (cond (eqb n 14) error.TooLong error.WrongSum)))

told_again : (r : Result (Option Given) ExtendedError) → told (given_outcome r) ≡ r
told_again (Ok g) = refl
told_again (Err error.InvalidParity) = refl
told_again (Err error.NotOpen) = refl
told_again (Err error.TooLong) = refl
told_again (Err error.WrongSum) = refl

abbrev Received : Type 0
Received = ExtendedState × Result (Option Given) ExtendedError

abbrev received_by : Step → Received
received_by r = (r.0, told r.1)

received_again : (r : Received) → received_by (received_outcome r) ≡ r
received_again r = ap (λ (g : Result (Option Given) ExtendedError). (r.0, g)) (told_again r.1)

pub received_injective : Injective received_outcome
received_injective r s e = sym (received_again r) ∙ ap received_by e ∙ received_again s
