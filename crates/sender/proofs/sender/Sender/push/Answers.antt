-- The queue stored the code in place.
use Rattle.std.proofs.Common.{sym, ◌∙◌}
use Rattle.sender.proofs.RepeatsFit.{pushed_by_queue}
use Rattle.sender.proofs.sender.Sender.push.Goals as goal

pub returns : goal.returns
returns c =
    pushed_by_queue c.args.self c.args.code (c.store-answer.new.self, c.store-answer.result)
    (sym c.is_well_formed.ensures ∙ c.if-not-is_well_formed.false) c.store-answer.ensures
