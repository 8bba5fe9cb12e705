-- What may be queued: a code that can be written, 01's refusals 2 and 3, and that is no text dressed as a command, T-04's
-- refusal 18. Pushing, waiting, being held, and so 12, all rest on it.
use Rattle.std.specs.Prelude.{Bool, true, false, cond, ◌&&◌, not, List, [], ◌∷◌}
use Rattle.code.specs.Outcome.{Outcome, answer, is_answer, refused}
use Rattle.code.specs.Read.{is_command}
use Rattle.code.specs.Write.{in_domain}
use Rattle.code.specs.declared.code.Code.{Code}
use Rattle.code.specs.declared.code.Code.TheVariants as code
use Rattle.code.specs.declared.control.Control.{Control}
use Rattle.code.specs.declared.control.Control.TheVariants as control

-- text dressed as a command: a two-byte `Unknown` whose first byte, as it is stored and before channel and field are
-- added, is not 10 to 1F
abbrev pub is_dressed_control : Control → Bool
is_dressed_control (control.MidRow m) = false
is_dressed_control (control.Symbol s) = false
is_dressed_control (control.Command c) = false
is_dressed_control (control.Tab t) = false
is_dressed_control (control.Preamble p) = false
is_dressed_control (control.Unknown a b) = not (is_command a)

abbrev pub is_dressed : Code → Bool
is_dressed code.Nul = false
is_dressed (code.Control c) = is_dressed_control c.control
is_dressed (code.Letter l) = false
is_dressed (code.Unknown b) = false

abbrev pub none_dressed : List Code → Bool
none_dressed [] = true
none_dressed (c ∷ cs) = not (is_dressed c) && none_dressed cs

abbrev pub unless_dressed : Bool → Outcome Unit → Outcome Unit
unless_dressed dressed (answer u) = cond dressed (refused 18) (answer tt)
unless_dressed dressed (refused n) = refused n

-- 2 or 3, then 18
unfoldable pub queueable : Code → Outcome Unit
queueable c = unless_dressed (is_dressed c) (in_domain c)

abbrev pub is_queueable : Code → Bool
is_queueable c = is_answer (queueable c)
