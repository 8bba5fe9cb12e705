-- The events that codes encode. What a command does is from 47 CFR 79.101 (f) and (h); that alarms, flash, the text
-- commands, `Unknown` and a symbol without a character give none is from 01.
use Rattle.std.specs.Prelude.{ℕ, false, Option, None, Some, Result}
use Rattle.code.specs.Code.{char_of, control_needs_backspace, symbol_char}
use Rattle.code.specs.Control.{tab_number}
use Rattle.code.specs.Outcome.{Outcome, outcome}
use Rattle.code.specs.declared.read.InvalidParity.{InvalidParity}
use Rattle.code.specs.declared.channel.Channel.{Channel}
use Rattle.code.specs.declared.code.Code.{Code}
use Rattle.code.specs.declared.control.Command.{Command}
use Rattle.code.specs.declared.control.Command.TheVariants as command
use Rattle.code.specs.declared.control.Control.{Control}
use Rattle.code.specs.declared.control.Control.TheVariants as control
use Rattle.code.specs.declared.control.ControlCode.{ControlCode}
use Rattle.code.specs.declared.symbol.Symbol.{Symbol}
use Rattle.event.specs.declared.event.Cea608.{Cea608}
use Rattle.event.specs.declared.event.Cea608.TheVariants as event
use Rattle.event.specs.Mode.{mode_of}
use Rattle.event.specs.declared.mode.Mode.{Mode}

-- six commands have an event of their own
abbrev pub own_event : Channel → Command → Option Cea608
own_event ch command.ResumeCaptionLoading = None
own_event ch command.Backspace = Some (event.Backspace ch)
own_event ch command.AlarmOff = None
own_event ch command.AlarmOn = None
own_event ch command.DeleteToEndOfRow = Some (event.DeleteToEndOfRow ch)
own_event ch command.RollUp2 = None
own_event ch command.RollUp3 = None
own_event ch command.RollUp4 = None
own_event ch command.FlashOn = None
own_event ch command.ResumeDirectionCaptioning = None
own_event ch command.TextRestart = None
own_event ch command.ResumeTextDisplay = None
own_event ch command.EraseDisplayedMemory = Some (event.EraseDisplay ch)
own_event ch command.CarriageReturn = Some (event.CarriageReturn ch)
own_event ch command.EraseNonDisplayedMemory = Some (event.EraseNonDisplay ch)
own_event ch command.EndOfCaption = Some (event.EndOfCaption ch)

-- any other begins a mode or gives nothing
abbrev pub new_mode : Channel → Option Mode → Option Cea608
new_mode ch None = None
new_mode ch (Some m) = Some (event.NewMode ch m)

abbrev pub or_new_mode : Channel → Option Cea608 → Option Mode → Option Cea608
or_new_mode ch (Some e) m = Some e
or_new_mode ch None m = new_mode ch m

abbrev pub command_event : Channel → Command → Option Cea608
command_event ch c = or_new_mode ch (own_event ch c) (mode_of c)

-- a symbol's character, which takes the place of the one before it where the symbol is an extended one
abbrev pub symbol_text : Channel → Symbol → Option ℕ → Option Cea608
symbol_text ch s None = None
symbol_text ch s (Some c) =
    Some
    (event.Text
    (record {
      needs_backspace = control_needs_backspace (control.Symbol s);
      char1 = Some c;
      char2 = None;
      channel = ch;
    }))

abbrev pub symbol_event : Channel → Symbol → Option Cea608
symbol_event ch s = symbol_text ch s (symbol_char s)

abbrev pub control_event : Channel → Control → Option Cea608
control_event ch (control.MidRow m) = Some (event.MidRowChange ch m)
control_event ch (control.Symbol s) = symbol_event ch s
control_event ch (control.Command c) = command_event ch c
control_event ch (control.Tab t) = Some (event.TabOffset ch (tab_number t))
control_event ch (control.Preamble p) = Some (event.Preamble ch p)
control_event ch (control.Unknown a b) = None

unfoldable pub event_of : ControlCode → Option Cea608
event_of c = control_event c.channel c.control

-- one or two characters, or nothing where there is none
abbrev pub plain_text : Channel → Option ℕ → Option ℕ → Cea608
plain_text ch one two = event.Text (record { needs_backspace = false; char1 = one; char2 = two; channel = ch })

abbrev pub text_of : Channel → Option ℕ → Option ℕ → Option Cea608
text_of ch (Some c) two = Some (plain_text ch (Some c) two)
text_of ch None (Some d) = Some (plain_text ch None (Some d))
text_of ch None None = None

unfoldable pub text_event : Channel → Code → Code → Option Cea608
text_event ch x y = text_of ch (char_of x) (char_of y)

abbrev pub heard_outcome : Result (Option Cea608) InvalidParity → Outcome (Option Cea608)
heard_outcome r = outcome (λ e. 1) r
