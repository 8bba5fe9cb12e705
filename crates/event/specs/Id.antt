-- The caption services and refusal 6, from 01: 1 and 2 are channels one and two of field one, 3 and 4 of field two.
use Rattle.std.specs.Prelude.{Result, ℕ, cond, ℤ, pos, negsuc, eqb}
use Rattle.event.specs.declared.id.NoSuchId.{NoSuchId}
use Rattle.code.specs.Channel.{channel_one, channel_two, field_one, field_two}
use Rattle.code.specs.Outcome.{Outcome, answer, outcome, refused}
use Rattle.code.specs.Range.{within}
use Rattle.code.specs.declared.channel.Channel.{Channel}
use Rattle.code.specs.declared.channel.Field.{Field}
use Rattle.event.specs.declared.id.Id.{Id}
use Rattle.event.specs.declared.id.Id.TheVariants.{CC1, CC2, CC3, CC4}

abbrev pub id_of : Field → Channel → Id
id_of f ch = cond f.0 (cond ch.0 CC1 CC2) (cond ch.0 CC3 CC4)

abbrev pub field_of_id : Id → Field
field_of_id CC1 = field_one
field_of_id CC2 = field_one
field_of_id CC3 = field_two
field_of_id CC4 = field_two

abbrev pub channel_of_id : Id → Channel
channel_of_id CC1 = channel_one
channel_of_id CC2 = channel_two
channel_of_id CC3 = channel_one
channel_of_id CC4 = channel_two

-- the services by their numbers, 1 to 4; 6: a value outside these
abbrev pub service_of : ℕ → Id
service_of n = cond (eqb n 1) CC1 (cond (eqb n 2) CC2 (cond (eqb n 3) CC3 CC4))

abbrev pub from_value : ℤ → Outcome Id
from_value (pos n) = cond (within 1 4 n) (answer (service_of n)) (refused 6)
from_value (negsuc n) = refused 6

abbrev pub from_value_outcome : Result Id NoSuchId → Outcome Id
from_value_outcome r = outcome (λ e. 6) r
