-- What else is known of pairs, beside those that `KnownPairs` of `event` has with their events: the commands and the symbol
-- that have no event, the channel and the field that pairs leave, and the channel that text is for. From the tables of
-- 47 CFR 79.101, and from 01.
use Rattle.std.specs.Prelude.{None, Option, Some, ℕ, List, [], ◌∷◌}
use Rattle.code.specs.Channel.{channel_one, channel_two, field_one, field_two}
use Rattle.code.specs.Column.{column_at}
use Rattle.code.specs.Pair.{pair}
use Rattle.code.specs.declared.channel.Channel.{Channel}
use Rattle.code.specs.declared.channel.Field.{Field}
use Rattle.code.specs.declared.control.Command.{Command}
use Rattle.code.specs.declared.control.Command.TheVariants.{AlarmOff, AlarmOn, FlashOn, TextRestart, ResumeTextDisplay}
use Rattle.code.specs.declared.control.Control.{Control}
use Rattle.code.specs.declared.control.Control.TheVariants as control
use Rattle.code.specs.declared.control.ControlCode.{ControlCode}
use Rattle.code.specs.declared.pair.Pair.{Pair}
use Rattle.code.specs.declared.symbol.SymbolRow.TheVariants.{Special}
use Rattle.receiver.specs.Receiver.{state}
use Rattle.receiver.specs.declared.state.Cea608State.{Cea608State}
use Rattle.receiver.specs.declared.state.LastChannel.TheVariants as channel

-- a receiver to which channel one was named
abbrev pub on_channel_one : Cea608State
on_channel_one = state None (channel.Known channel_one) None

-- pairs that have no event, each with its control code
pub record Silent : Type 0 where
  pub pair : Pair
  pub code : ControlCode

abbrev silent : ℕ → ℕ → Option Field → Control → Silent
silent a b f c = record { pair = pair a b; code = record { field = f; channel = channel_one; control = c } }

abbrev silent_command : ℕ → Command → Silent
silent_command b c = silent 0x94 b (Some field_one) (control.Command c)

-- alarm off and on, flash, text restart, resume text display; the transparent space, at 39 of the special characters
abbrev pub silent_pairs : List Silent
silent_pairs =
    silent_command 0xA2 AlarmOff ∷ silent_command 0x23 AlarmOn ∷ silent_command 0xA8 FlashOn ∷ silent_command 0x2A TextRestart
    ∷ silent_command 0xAB ResumeTextDisplay
    ∷ silent 0x91 0xB9 None (control.Symbol (record { row = Special; column = column_at 9 })) ∷ []

-- pairs, and the channel and the field that a fresh receiver has after them
pub record Leaves : Type 0 where
  pub pairs : List Pair
  pub channel : Channel
  pub field : Field

abbrev leaves : List Pair → Channel → Field → Leaves
leaves ps ch f = record { pairs = ps; channel = ch; field = f }

-- erase displayed memory for the four services; then a preamble, which names the channel and no field; flash, which has no
-- event and names both; and text, which names neither
abbrev pub known_to_leave : List Leaves
known_to_leave =
    leaves (pair 0x94 0x2C ∷ []) channel_one field_one ∷ leaves (pair 0x1C 0x2C ∷ []) channel_two field_one
    ∷ leaves (pair 0x15 0x2C ∷ []) channel_one field_two ∷ leaves (pair 0x9D 0x2C ∷ []) channel_two field_two
    ∷ leaves (pair 0x15 0x2C ∷ pair 0x1C 0x70 ∷ []) channel_two field_two
    ∷ leaves (pair 0x15 0x2C ∷ pair 0x1C 0xA8 ∷ []) channel_two field_one
    ∷ leaves (pair 0x1C 0x2C ∷ pair 0xC8 0xE9 ∷ []) channel_two field_one ∷ []
