-- One pair more, with room for the next or not.
use Rattle.std.proofs.Common.{arith, ap, ◌∙◌}
use Rattle.lines.proofs.Ends.{counts_one}
use Rattle.lines.proofs.WholePairs.{no_more_pairs, one_more_pair}
use Rattle.lines.specs.Pieces.{one_more_if}
use Rattle.lines.proofs.listing.Listing.list_pairs.Goals as goal

pub loop-taken-preserved : goal.loop-taken-preserved
loop-taken-preserved c =
    one_more_pair c.loop-taken.invariant c.decode-heard.ensures c.put_line_of.ensures (c.one_more_if-refused.ensures ∙ ap (λ t. one_more_if t c.loop-taken.refused) c.is_err.ensures.value ∙ counts_one _ c.loop-taken.refused)
    (omega (arith, c.loop-taken.invariant.has.0), omega (arith, c.room.ensures), omega arith)

pub returns : goal.returns
returns c =
    no_more_pairs c.loop-taken.invariant c.decode-heard.ensures c.put_line_of.ensures (c.one_more_if-refused.ensures ∙ ap (λ t. one_more_if t c.loop-taken.refused) c.is_err.ensures.value ∙ counts_one _ c.loop-taken.refused) _ c.between_pairs.ensures
