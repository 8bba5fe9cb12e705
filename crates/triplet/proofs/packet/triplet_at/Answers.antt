-- The chunk at a place is the three bytes there, and the packet was judged.
use Rattle.std.proofs.Common.{◌≡◌, ◌∙◌, ap, sym, arith, slice_get}
use Rattle.std.proofs.lemmas.Grind.{common_steps}
use Rattle.std.proofs.lemmas.Iterator.Consumers.{nth_from_yields_List}
use Rattle.std.specs.Option.{option_map}
use Rattle.triplet.specs.Packet.{triplets_of}
use Rattle.triplet.proofs.Bytes.{chunks_are_threes, of_three, read_is_judged, triplet_there}
use Rattle.triplet.proofs.packet.triplet_at.Goals as goal

pub returns : goal.returns
returns c =
    let bytes = nth_from_yields_List c.nth-there.result _ c.args.place c.nth-there.ensures.ran (chunks_are_threes c.args.packet.now c.chunks_exact.ensures.rest c.chunks_exact.ensures.size) in
    let same : c.map.result ≡ option_map of_three (option_map (λ y. y.now) c.nth-there.result) = grind (arith, common_steps) in
    let there : slice_get (triplets_of c.args.packet.now) c.args.place ≡ c.map.result = triplet_there c.args.packet.now c.args.place ∙ ap (option_map of_three) (sym bytes) ∙ sym same in
    grind (arith, read_is_judged)
