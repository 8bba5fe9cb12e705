-- All chunks of three bytes have the marker where every whole triplet has it.
use Rattle.std.proofs.Common.{get_or, rules, ◌∙◌}
use Rattle.std.proofs.lemmas.Iterator.Search.{all_from_yields_List}
use borrow.Author.Tests.{tests}
use Rattle.triplet.specs.Triplet.{has_marker}
use Rattle.triplet.proofs.Bytes.{chunks_are_threes, each_has_marker}
use Rattle.triplet.proofs.packet.markers_right.Goals as goal

pub returns : goal.returns
returns c =
    all_from_yields_List (λ bytes. has_marker (get_or bytes 0 0)) _ _ _ c.all.ensures.ran (chunks_are_threes c.args.bytes.now c.chunks_exact.ensures.rest c.chunks_exact.ensures.size) (λ x b q k. search (rules, tests))
    ∙ each_has_marker c.args.bytes.now
