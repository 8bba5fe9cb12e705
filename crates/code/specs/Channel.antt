-- The number of a data channel, from 47 CFR 79.101 (i)(5), and of a field, from 01.
use Rattle.std.specs.Prelude.{ℕ, true, false, cond}
use Rattle.code.specs.declared.channel.Channel.{Channel}
use Rattle.code.specs.declared.channel.Field.{Field}

-- as in the crate, true is one and false two: the reverse of bit 0x08 of a first byte, which is set for two
abbrev pub channel_id : Channel → ℕ
channel_id c = cond c.0 1 2

abbrev pub field_id : Field → ℕ
field_id f = cond f.0 1 2

abbrev pub channel_one : Channel
channel_one = record { 0 = true }

abbrev pub channel_two : Channel
channel_two = record { 0 = false }

abbrev pub field_one : Field
field_one = record { 0 = true }

abbrev pub field_two : Field
field_two = record { 0 = false }
