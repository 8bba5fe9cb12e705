-- 12 and 11 are tested first, and the rest is what the writer of pairs did to the part that it was lent (`Lent`).
use Rattle.std.proofs.Common.{sym}
use Rattle.sender.proofs.Lent.{ill_formed_drain, lent_part_is_drained, start_past_end}
use Rattle.sender.proofs.sender.Sender.drain.Goals as goal

pub returns-then-not-is_well_formed : goal.returns-then-not-is_well_formed
returns-then-not-is_well_formed c = sym (ill_formed_drain _ _ _ _ (sym c.if-not-is_well_formed.ensures))

pub returns-then-out-start : goal.returns-then-out-start
returns-then-out-start c =
    sym (start_past_end _ _ _ _ (sym c.if-not-is_well_formed.ensures) c.if-out-start.true)

pub returns : goal.returns
returns c =
    lent_part_is_drained c.args.self c.args.out.now c.args.start c.args.limit c.write_pairs-sends.result.0 c.write_pairs-sends.result.1 c.write_pairs-sends.new.part (sym c.if-not-is_well_formed.ensures) c.if-out-start.false c.write_pairs-sends.ensures
