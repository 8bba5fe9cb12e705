-- What the functions inside `push` find, as outcomes of the definitions, in the port's own words: the number of a code that
-- may be queued, and the number that a push stores; NUL has none, and none is stored; or the refusal.
use Rattle.std.specs.Prelude.{ℕ, Bool, true, false, cond, Option, None, Some, Result, Ok, Err}
use Rattle.code.specs.Outcome.{Outcome, answer, outcome, refused}
use Rattle.code.specs.declared.code.Code.{Code}
use Rattle.queue.specs.Number.{number_of}
use Rattle.queue.specs.Queue.{admit}
use Rattle.queue.specs.Ring.{formed_by, push_refusal}
use Rattle.queue.specs.declared.push.PushError.{PushError}
use Rattle.queue.specs.declared.queueable.QueueableError.{QueueableError}
use Rattle.queue.specs.declared.queueable.QueueableError.TheVariants as queueable_error

abbrev pub queueable_refusal : QueueableError → ℕ
queueable_refusal queueable_error.UnknownByte = 2
queueable_refusal queueable_error.NoSuchRow = 3
queueable_refusal queueable_error.NotACommand = 18

-- of a code that is not NUL, and of any code
abbrev pub number_outcome : Result ℕ QueueableError → Outcome (Option ℕ)
number_outcome (Ok n) = answer (Some n)
number_outcome (Err e) = refused (queueable_refusal e)

abbrev pub verdict_outcome : Result (Option ℕ) QueueableError → Outcome (Option ℕ)
verdict_outcome r = outcome queueable_refusal r

abbrev pub entry_outcome : Result (Option ℕ) PushError → Outcome (Option ℕ)
entry_outcome r = outcome push_refusal r

-- the number of a code, where it is stored
abbrev pub if_stored : Option ℕ → Outcome Bool → Outcome (Option ℕ)
if_stored n (answer true) = answer n
if_stored n (answer false) = answer None
if_stored n (refused k) = refused k

unfoldable pub entry_for : ℕ → ℕ → Option ℕ → Code → Outcome (Option ℕ)
entry_for start waiting held c =
    cond (formed_by start waiting held) (if_stored (number_of c) (admit c waiting)) (refused 12)
