-- The codes that encode an event, for a field. They follow the crate: a control code of that field and NUL, or the
-- codes of two characters, NUL for one that is absent. The refusals are 01's: 3 for a row above 14, 4 for a tab count
-- other than 1, 2, 3, and 5 for a character that no code has, the first looked up before the second. A refusal gives no
-- code at all.
use Rattle.std.specs.Prelude.{Result, Ok, Err, None, Option, Some, ℕ}
use Rattle.event.specs.declared.into_code.IntoCodeError.{IntoCodeError}
use Rattle.event.specs.declared.into_code.IntoCodeError.TheVariants.{NoSuchRow, NoSuchTab, NoSuchFirst, NoSuchSecond}
use Rattle.code.specs.Code.{from_char}
use Rattle.code.specs.Control.{control_code, tab_offset}
use Rattle.code.specs.Outcome.{Outcome, answer, refused}
use Rattle.code.specs.Preamble.{in_row}
use Rattle.code.specs.declared.channel.Channel.{Channel}
use Rattle.code.specs.declared.channel.Field.{Field}
use Rattle.code.specs.declared.code.Code.{Code}
use Rattle.code.specs.declared.code.Code.TheVariants as code
use Rattle.code.specs.declared.control.Command.{Command}
use Rattle.code.specs.declared.control.Command.TheVariants as command
use Rattle.code.specs.declared.control.Control.{Control}
use Rattle.code.specs.declared.control.Control.TheVariants as control
use Rattle.code.specs.declared.preamble.PreambleAddressCode.{PreambleAddressCode}
use Rattle.event.specs.Mode.{command_of}
use Rattle.event.specs.declared.event.Cea608.{Cea608}
use Rattle.event.specs.declared.event.Cea608.TheVariants as event
use Rattle.event.specs.declared.event.Text.{Text}

-- two codes, or 01's number of a refusal, which can be for the first or for the second character
pub data Turned : Type 0 where
  codes : Code → Code → Turned
  refusal : ℕ → Turned
  no_first : ℕ → Turned
  no_second : ℕ → Turned

-- a control code and NUL
abbrev pub alone : Field → Channel → Control → Turned
alone f ch c = codes (code.Control (control_code f ch c)) code.Nul

abbrev pub command_alone : Field → Channel → Command → Turned
command_alone f ch c = alone f ch (control.Command c)

abbrev pub or_refusal : Field → Channel → Outcome Control → Turned
or_refusal f ch (answer c) = alone f ch c
or_refusal f ch (refused n) = refusal n

abbrev pub tab_codes : Field → Channel → ℕ → Turned
tab_codes f ch n = or_refusal f ch (tab_offset n)

abbrev pub preamble_codes : Field → Channel → PreambleAddressCode → Turned
preamble_codes f ch p = or_refusal f ch (in_row p.row (control.Preamble p))

-- a character's code, NUL for none
abbrev pub character_code : Option ℕ → Channel → Outcome Code
character_code (Some c) ch = from_char c ch
character_code None ch = answer code.Nul

abbrev pub with_second : Code → Outcome Code → Turned
with_second x (answer y) = codes x y
with_second x (refused n) = no_second n

abbrev pub in_order : Outcome Code → Outcome Code → Turned
in_order (answer x) second = with_second x second
in_order (refused n) second = no_first n

abbrev pub text_codes : Text → Turned
text_codes t = in_order (character_code t.char1 t.channel) (character_code t.char2 t.channel)

unfoldable pub codes_of : Cea608 → Field → Turned
codes_of (event.Text t) f = text_codes t
codes_of (event.NewMode ch m) f = command_alone f ch (command_of m)
codes_of (event.EraseDisplay ch) f = command_alone f ch command.EraseDisplayedMemory
codes_of (event.EraseNonDisplay ch) f = command_alone f ch command.EraseNonDisplayedMemory
codes_of (event.CarriageReturn ch) f = command_alone f ch command.CarriageReturn
codes_of (event.Backspace ch) f = command_alone f ch command.Backspace
codes_of (event.EndOfCaption ch) f = command_alone f ch command.EndOfCaption
codes_of (event.TabOffset ch n) f = tab_codes f ch n
codes_of (event.DeleteToEndOfRow ch) f = command_alone f ch command.DeleteToEndOfRow
codes_of (event.Preamble ch p) f = preamble_codes f ch p
codes_of (event.MidRowChange ch m) f = alone f ch (control.MidRow m)

abbrev pub turned_down : IntoCodeError → Turned
turned_down NoSuchRow = refusal 3
turned_down NoSuchTab = refusal 4
turned_down NoSuchFirst = no_first 5
turned_down NoSuchSecond = no_second 5

abbrev pub into_code_outcome : Result (Code × Code) IntoCodeError → Turned
into_code_outcome (Ok x) = codes x.0 x.1
into_code_outcome (Err e) = turned_down e
