-- What is known of every pair that is read as a command by its two stripped bytes: its channel, its field, what an
-- `Unknown` holds, and whether it needs a backspace. From 01's "Pairs and codes"; `every_command` in proofs/ByBytes.antt is
-- the law. The bytes are spelled here, and not taken from the definitions that they hold.
use Rattle.std.specs.Prelude.{None, Option, Some, ℕ, ◌+◌, Bool, cond, ◌&&◌, ◌||◌, ◌≡◌, eqb}
use Rattle.code.specs.declared.channel.Field.{Field}
use Rattle.code.specs.Channel.{channel_one, channel_two, field_one, field_two}
use Rattle.code.specs.Code.{needs_backspace}
use Rattle.code.specs.Range.{within}
use Rattle.code.specs.declared.channel.Channel.{Channel}
use Rattle.code.specs.declared.code.Code.TheVariants as code
use Rattle.code.specs.declared.control.Control.TheVariants as control
use Rattle.code.specs.declared.control.ControlCode.{ControlCode}

-- 10 to 17 are channel one's, 18 to 1F channel two's
abbrev pub channel_by_byte : ℕ → Channel
channel_by_byte a = cond (within 0x10 0x17 a) channel_one channel_two

-- a first byte on either channel: 14 is 14 or 1C
abbrev pub on_either : ℕ → ℕ → Bool
on_either p a = eqb a p || eqb a (p + 8)

-- where 20 to 2F follow, 14 names field one and 15 field two; nothing else names a field
abbrev pub field_by_bytes : ℕ → ℕ → Option Field
field_by_bytes a b =
    cond (within 0x20 0x2F b) (cond (on_either 0x14 a) (Some field_one) (cond (on_either 0x15 a) (Some field_two) None)) None

-- the mid-row codes, 11 20 to 11 2F, and the extended characters, 12 20 to 12 3F and 13 20 to 13 3F
abbrev pub backspace_by_bytes : ℕ → ℕ → Bool
backspace_by_bytes a b =
    (on_either 0x11 a && within 0x20 0x2F b) || ((on_either 0x12 a || on_either 0x13 a) && within 0x20 0x3F b)

-- a command that was read from two bytes; an `Unknown` holds both, with the channel bit, and names no field
pub record CommandOf (a b : ℕ) (c : ControlCode) : Type 0 where
  pub channel : c.channel ≡ channel_by_byte a
  pub field : c.field ≡ field_by_bytes a b
  pub unknown : (x y : ℕ) → c.control ≡ control.Unknown x y → (x ≡ a) × (y ≡ b) × (c.field ≡ None)
  pub backspace : needs_backspace (code.Control c) ≡ backspace_by_bytes a b
