-- The presentation modes and the commands that begin them, from 47 CFR 79.101 (f): resume caption loading begins
-- pop-on, resume direct captioning paint-on, and the three roll-up commands windows of two, three and four rows. End of
-- caption puts a receiver into pop-on too; that it begins no mode here follows the crate.
use Rattle.std.specs.Prelude.{ℕ, Bool, Option, None, Some, is_some}
use Rattle.code.specs.declared.control.Command.{Command}
use Rattle.code.specs.declared.control.Command.TheVariants as command
use Rattle.event.specs.declared.mode.Mode.{Mode}
use Rattle.event.specs.declared.mode.Mode.TheVariants.{PopOn, PaintOn, RollUp2, RollUp3, RollUp4}

abbrev pub command_of : Mode → Command
command_of PopOn = command.ResumeCaptionLoading
command_of PaintOn = command.ResumeDirectionCaptioning
command_of RollUp2 = command.RollUp2
command_of RollUp3 = command.RollUp3
command_of RollUp4 = command.RollUp4

unfoldable pub mode_of : Command → Option Mode
mode_of command.ResumeCaptionLoading = Some PopOn
mode_of command.Backspace = None
mode_of command.AlarmOff = None
mode_of command.AlarmOn = None
mode_of command.DeleteToEndOfRow = None
mode_of command.RollUp2 = Some RollUp2
mode_of command.RollUp3 = Some RollUp3
mode_of command.RollUp4 = Some RollUp4
mode_of command.FlashOn = None
mode_of command.ResumeDirectionCaptioning = Some PaintOn
mode_of command.TextRestart = None
mode_of command.ResumeTextDisplay = None
mode_of command.EraseDisplayedMemory = None
mode_of command.CarriageReturn = None
mode_of command.EraseNonDisplayedMemory = None
mode_of command.EndOfCaption = None

abbrev pub rollup_rows : Mode → Option ℕ
rollup_rows PopOn = None
rollup_rows PaintOn = None
rollup_rows RollUp2 = Some 2
rollup_rows RollUp3 = Some 3
rollup_rows RollUp4 = Some 4

-- a mode is a roll-up mode where it has rows
abbrev pub is_rollup : Mode → Bool
is_rollup m = is_some (rollup_rows m)
