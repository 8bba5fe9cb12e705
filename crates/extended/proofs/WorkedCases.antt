-- Streams worked out by hand, computed from the definition.
-- Assumes nothing.
use lib.Count.{ones, ones_in}
use mathlib.Core.List.{map}
use mathlib.Core.Path.{◌≡◌, refl}
use Rattle.code.specs.Characters.{standard}
use Rattle.code.specs.Code.{char_of}
use Rattle.code.specs.Read.{control_code_of, meaning, read_pair}
use Rattle.event.specs.Mode.{mode_of}
use Rattle.extended.specs.Extended.{read}
use Rattle.extended.specs.Part.{part_of}
use Rattle.extended.specs.Reading.{answers}
use Rattle.extended.specs.WorkedCases.{Case, cases}
use Rattle.receiver.specs.Heard.{event_of, text_event}
use Rattle.receiver.specs.Receiver as receiver

pub worked_cases : map (λ (c : Case). answers c.from c.pairs) cases ≡ map (λ (c : Case). c.gives) cases
unfolding read part_of receiver.step read_pair ones ones_in event_of text_event mode_of char_of meaning control_code_of standard
worked_cases = refl
