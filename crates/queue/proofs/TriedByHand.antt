-- 01's pairs tried by hand, those of the queue that are not marked P: H i !, and the 65th code with NUL after it, with
-- every reply; and a mid-row code, before which a space goes out. antt computes each from the definitions of the list; the
-- ring answers the same. Those marked P are in `TriedByHand` of `agreement`, one list of all layers.
-- Assumes nothing.
use Rattle.std.specs.Prelude.{None}
use mathlib.Core.Bool.{false}
use mathlib.Core.List.{List, [], ◌∷◌, ◌++◌}
use mathlib.Core.Path.{◌≡◌, refl, ◌∙◌}
use lib.Count.{ones, ones_in}
use lib.ListN.{replicate}
use Rattle.code.specs.Channel.{channel_one}
use Rattle.code.specs.MidRow.{italic}
use Rattle.code.specs.Outcome.{answer, refused}
use Rattle.code.specs.Read.{single}
use Rattle.code.specs.Pair.{pair}
use Rattle.code.specs.Write.{control_bytes, in_domain, on_line, write_code}
use Rattle.code.specs.declared.code.Code.{Code}
use Rattle.code.specs.declared.code.Code.TheVariants as code
use Rattle.code.specs.declared.control.Control.TheVariants as control
use Rattle.queue.proofs.FirstInFirstOut.{ring_answers_as_the_list}
use Rattle.queue.proofs.Refines.{fresh_good}
use Rattle.queue.specs.Calls.{acceptance, Call, counting, list_replies, popping, pushing, Reply, ring_replies, to_count, to_pop, to_push}
use Rattle.queue.specs.Queue.{admit, empty, pair_of, pop}
use Rattle.queue.specs.Queueable.{queueable}
use Rattle.queue.specs.Ring.{fresh_ring}
use Rattle.code.specs.KnownCodes.{letter_h, letter_i}

abbrev exclamation : Code
exclamation = single 0x21

abbrev italics : Code
italics = code.Control (record { field = None; channel = channel_one; control = control.MidRow (italic false) })

-- the replies due to each sequence of calls, those to the pushes included
abbrev Tried : (List Call → List Reply) → Type 0
Tried replies =
    (replies (pushing letter_h ∷ pushing letter_i ∷ pushing exclamation ∷ popping ∷ popping ∷ []) ≡ acceptance ∷ acceptance ∷ acceptance ∷ to_pop (answer (pair 0xC8 0xE9)) ∷ to_pop (answer (pair 0xA1 0x80)) ∷ [])
    × (replies (replicate 64 (pushing letter_h) ++ (pushing letter_h ∷ pushing code.Nul ∷ counting ∷ [])) ≡ replicate 64 acceptance ++ (to_push (refused 7) ∷ acceptance ∷ to_count (answer 64) ∷ []))
    × (replies (pushing italics ∷ popping ∷ popping ∷ []) ≡ acceptance ∷ to_pop (answer (pair 0x20 0x80)) ∷ to_pop (answer (pair 0x91 0xAE)) ∷ [])

pub tried_by_hand : Tried (λ (cs : List Call). list_replies cs empty)
unfolding ones ones_in write_code on_line control_bytes in_domain queueable admit pair_of pop
tried_by_hand = (refl, refl, refl)

-- equal replies pass alike, and from a fresh queue on the ring replies as the list does
tried_as : (f g : List Call → List Reply) → ((cs : List Call) → g cs ≡ f cs) → Tried f → Tried g
tried_as f g alike told = (alike _ ∙ told.0, alike _ ∙ told.1, alike _ ∙ told.2)

pub tried_on_the_ring : Tried (λ (cs : List Call). ring_replies cs fresh_ring)
tried_on_the_ring =
    tried_as (λ (cs : List Call). list_replies cs empty) (λ (cs : List Call). ring_replies cs fresh_ring)
    (λ (cs : List Call). ring_answers_as_the_list cs fresh_ring fresh_good) tried_by_hand
