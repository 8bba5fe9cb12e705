-- A mode's command begins that mode, and no other command does.
-- Assumes nothing.
use Rattle.std.specs.Prelude.{Some}
use Rattle.std.proofs.lemmas.Option.{none-some, same_Some}
use mathlib.Core.Path.{◌≡◌, refl, ap}
use Rattle.code.specs.declared.control.Command.{Command}
use Rattle.code.specs.declared.control.Command.TheVariants as command
use Rattle.event.specs.Mode.{command_of, mode_of}
use Rattle.event.specs.declared.mode.Mode.{Mode}
use Rattle.event.specs.declared.mode.Mode.TheVariants.{PopOn, PaintOn, RollUp2, RollUp3, RollUp4}

pub mode_back : (m : Mode) → mode_of (command_of m) ≡ Some m
unfolding mode_of
mode_back PopOn = refl
mode_back PaintOn = refl
mode_back RollUp2 = refl
mode_back RollUp3 = refl
mode_back RollUp4 = refl

pub command_back : (c : Command) (m : Mode) → mode_of c ≡ Some m → c ≡ command_of m
unfolding mode_of
command_back command.ResumeCaptionLoading m e = ap command_of (same_Some PopOn m e)
command_back command.Backspace m e = absurd (none-some m e)
command_back command.AlarmOff m e = absurd (none-some m e)
command_back command.AlarmOn m e = absurd (none-some m e)
command_back command.DeleteToEndOfRow m e = absurd (none-some m e)
command_back command.RollUp2 m e = ap command_of (same_Some RollUp2 m e)
command_back command.RollUp3 m e = ap command_of (same_Some RollUp3 m e)
command_back command.RollUp4 m e = ap command_of (same_Some RollUp4 m e)
command_back command.FlashOn m e = absurd (none-some m e)
command_back command.ResumeDirectionCaptioning m e = ap command_of (same_Some PaintOn m e)
command_back command.TextRestart m e = absurd (none-some m e)
command_back command.ResumeTextDisplay m e = absurd (none-some m e)
command_back command.EraseDisplayedMemory m e = absurd (none-some m e)
command_back command.CarriageReturn m e = absurd (none-some m e)
command_back command.EraseNonDisplayedMemory m e = absurd (none-some m e)
command_back command.EndOfCaption m e = absurd (none-some m e)
