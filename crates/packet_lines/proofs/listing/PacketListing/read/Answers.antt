-- A byte is taken, or the listing stops, or the input is over.
use Rattle.std.proofs.Common.{refl, rules, sym, ap, ◌∙◌}
use Rattle.packet_lines.proofs.Reading.{one_more_byte, over_at_the_end, over_where_it_stops}
use Rattle.packet_lines.specs.Pieces.{stops}
use Rattle.packet_lines.proofs.listing.PacketListing.read.Goals.{else-loop-byte-test, then-loop-byte-test+then-stops}
use Rattle.packet_lines.proofs.listing.PacketListing.read.Goals as goal

pub loop-byte-preserved : goal.loop-byte-preserved
loop-byte-preserved c =
    one_more_byte c.loop-byte.invariant c.loop-byte-test.true
    (sym (c.stops.ensures ∙ ap (stops c.loop-byte.listing) c.room.ensures) ∙ c.if-stops.false) c.absorb.ensures

pub returns : goal.returns
returns c =
    elim c.loop-byte-test.branch [
      | else-loop-byte-test w ↦ over_at_the_end c.args.output.now c.loop-byte.invariant refl (search rules) w.loop-byte-test.false
      | then-loop-byte-test+then-stops w ↦ over_where_it_stops c.args.output.now c.loop-byte.invariant refl (search rules) w.loop-byte-test.true (sym (w.stops.ensures ∙ ap (stops c.loop-byte.listing) w.room.ensures) ∙ w.if-stops.true)
    ]
