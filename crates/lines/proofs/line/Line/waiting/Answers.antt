use Rattle.std.proofs.Common.{rules}
use Rattle.lines.proofs.Waiting.{slice_that_waits}
use Rattle.lines.proofs.line.Line.waiting.Goals as goal

pub returns : goal.returns
returns c =
    slice_that_waits c.args.self.now c.min-end.result c.min.result (search rules) c.min-end.ensures c.min.ensures
