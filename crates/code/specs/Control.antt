-- Control codes: the miscellaneous commands and the tab offsets, in the order of 47 CFR 79.101 (i). The field that a
-- code may name is from CTA-608 as 01 has it; refusal 4 is 01's.
use Rattle.std.specs.Prelude.{Result, Option, Some, ℕ, Bool, cond, List, [], ◌∷◌, eqb, get_or}
use Rattle.code.specs.declared.control.NoSuchTab.{NoSuchTab}
use Rattle.code.specs.Outcome.{Outcome, answer, outcome, refused}
use Rattle.code.specs.Range.{within}
use Rattle.code.specs.declared.channel.Channel.{Channel}
use Rattle.code.specs.declared.channel.Field.{Field}
use Rattle.code.specs.declared.control.Command.{Command}
use Rattle.code.specs.declared.control.Command.TheVariants.{ResumeCaptionLoading, Backspace, AlarmOff, AlarmOn, DeleteToEndOfRow, RollUp2, RollUp3, RollUp4, FlashOn, ResumeDirectionCaptioning, TextRestart, ResumeTextDisplay, EraseDisplayedMemory, CarriageReturn, EraseNonDisplayedMemory, EndOfCaption}
use Rattle.code.specs.declared.control.Control.{Control}
use Rattle.code.specs.declared.control.Control.TheVariants as control
use Rattle.code.specs.declared.control.ControlCode.{ControlCode}
use Rattle.code.specs.declared.control.Tab.{Tab}
use Rattle.code.specs.declared.control.Tab.TheVariants.{TabOffset1, TabOffset2, TabOffset3}

-- 14 20 to 14 2F
abbrev pub commands : List Command
commands =
    ResumeCaptionLoading ∷ Backspace ∷ AlarmOff ∷ AlarmOn ∷ DeleteToEndOfRow ∷ RollUp2 ∷ RollUp3 ∷ RollUp4 ∷ FlashOn
    ∷ ResumeDirectionCaptioning ∷ TextRestart ∷ ResumeTextDisplay ∷ EraseDisplayedMemory ∷ CarriageReturn
    ∷ EraseNonDisplayedMemory ∷ EndOfCaption ∷ []

abbrev pub command_at : ℕ → Command
command_at n = get_or commands n ResumeCaptionLoading

abbrev pub command_number : Command → ℕ
command_number ResumeCaptionLoading = 0
command_number Backspace = 1
command_number AlarmOff = 2
command_number AlarmOn = 3
command_number DeleteToEndOfRow = 4
command_number RollUp2 = 5
command_number RollUp3 = 6
command_number RollUp4 = 7
command_number FlashOn = 8
command_number ResumeDirectionCaptioning = 9
command_number TextRestart = 10
command_number ResumeTextDisplay = 11
command_number EraseDisplayedMemory = 12
command_number CarriageReturn = 13
command_number EraseNonDisplayedMemory = 14
command_number EndOfCaption = 15

-- 17 21 to 17 23: a tab by the columns that it moves, 1 to 3
abbrev pub tab_of : ℕ → Tab
tab_of n = cond (eqb n 1) TabOffset1 (cond (eqb n 2) TabOffset2 TabOffset3)

abbrev pub tab_number : Tab → ℕ
tab_number TabOffset1 = 1
tab_number TabOffset2 = 2
tab_number TabOffset3 = 3

-- 4: a count other than 1, 2, 3
abbrev pub tab_offset : ℕ → Outcome Control
tab_offset n = cond (within 1 3 n) (answer (control.Tab (tab_of n))) (refused 4)

abbrev pub tab_offset_outcome : Result Control NoSuchTab → Outcome Control
tab_offset_outcome r = outcome (λ e. 4) r

-- where one of 20 to 2F follows, 14 names field one and 15 field two
abbrev pub names_field : ℕ → Bool
names_field b = within 0x20 0x2F b

abbrev pub control_code : Field → Channel → Control → ControlCode
control_code f ch c = record { field = Some f; channel = ch; control = c }

abbrev pub channel_in : ControlCode → Channel
channel_in c = c.channel

abbrev pub field_in : ControlCode → Option Field
field_in c = c.field

abbrev pub control_in : ControlCode → Control
control_in c = c.control
