-- 01's pairs tried by hand that are to be proved, in one statement. antt computes it from the definitions.
-- Assumes nothing.
use mathlib.Core.List.{map}
use mathlib.Core.Path.{◌≡◌, refl}
use lib.Count.{ones, ones_in}
use Rattle.code.specs.Read.{control_code_of, meaning, read_pair}
use Rattle.code.specs.Write.{control_bytes, in_domain, on_line, write_code}
use Rattle.queue.specs.Number.{code_of}
use Rattle.queue.specs.Queue.{admit, pair_of, pop}
use Rattle.queue.specs.Queueable.{queueable}
use Rattle.queue.specs.Ring.{pop_ring, push_ring, well_formed}
use Rattle.receiver.specs.Receiver.{step}
use Rattle.receiver.specs.Heard.{event_of, text_event}
use Rattle.event.specs.Mode.{mode_of}
use Rattle.code.specs.Code.{char_of}
use Rattle.agreement.specs.TriedByHand.{Case, cases, try}

pub tried_by_hand : map (λ (c : Case). try c.tried) cases ≡ map (λ (c : Case). c.gives) cases
unfolding read_pair ones ones_in write_code in_domain queueable admit pair_of code_of pop push_ring pop_ring well_formed step event_of text_event mode_of char_of on_line control_bytes meaning control_code_of
tried_by_hand = refl
