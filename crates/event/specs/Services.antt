-- The number of a service by its field and its channel, from 01: 1 and 2 are channels one and two of field one, 3 and 4 of
-- field two.
use Rattle.std.specs.Prelude.{ℕ, ◌+◌, ◌*◌, ◌-◌}
use Rattle.code.specs.Channel.{channel_id, field_id}
use Rattle.code.specs.declared.channel.Channel.{Channel}
use Rattle.code.specs.declared.channel.Field.{Field}

abbrev pub service_number : Field → Channel → ℕ
service_number f ch = 2 * (field_id f - 1) + channel_id ch
