use Rattle.std.proofs.Common.{sym, ◌∙◌}
use Rattle.lines.proofs.Reading.{is_between, reads_all, stops_ended, stops_full, with_byte_too, with_pairs}
use Rattle.lines.proofs.listing.Listing.read_into.Goals.{then-has_more-via-then-has_more, then-has_more-via-else-has_more+then-listing}
use Rattle.lines.proofs.listing.Listing.read_into.Goals as goal

pub returns-then-has_more : goal.returns-then-has_more
returns-then-has_more c =
    let flushed = c.flush-listing.ensures in
    elim c.then-has_more.branch [
      | then-has_more-via-then-has_more w ↦ stops_full c.loop-taken.invariant flushed.flushes flushed.leaves c.loop-taken-test.true (sym c.has_more.ensures ∙ w.if-has_more.true)
      | then-has_more-via-else-has_more+then-listing w ↦ stops_ended c.loop-taken.invariant flushed.flushes flushed.leaves c.loop-taken-test.true w.if-listing.true
    ]

pub read_pairs-requires : goal.read_pairs-requires
read_pairs-requires c =
    let flushed = c.flush-listing.ensures in
    is_between c.loop-taken.invariant flushed.flushes flushed.leaves (sym c.has_more.ensures ∙ c.if-has_more.false) c.if-listing.false

pub loop-taken-preserved-then-taken-input : goal.loop-taken-preserved-then-taken-input
loop-taken-preserved-then-taken-input c =
    let flushed = c.flush-listing.ensures in
    with_byte_too c.loop-taken.invariant flushed.flushes flushed.leaves (sym c.has_more.ensures ∙ c.if-has_more.false) c.if-listing.false c.read_pairs.ensures c.if-taken-input.true _ c.absorb-listing.ensures

pub loop-taken-preserved : goal.loop-taken-preserved
loop-taken-preserved c =
    let flushed = c.flush-listing.ensures in
    with_pairs c.loop-taken.invariant flushed.flushes flushed.leaves (sym c.has_more.ensures ∙ c.if-has_more.false) c.if-listing.false c.read_pairs.ensures

pub returns : goal.returns
returns c = reads_all c.loop-taken.invariant c.flush.ensures.flushes c.flush.ensures.leaves c.loop-taken-test.false
