-- All that waits, or as much as there is room for.
use Rattle.std.proofs.Common.{arith}
use Rattle.lines.proofs.Flushing.{flushes_all, flushes_some}
use Rattle.lines.proofs.line.Line.flush.Goals as goal

pub returns-then-waiting-count : goal.returns-then-waiting-count
returns-then-waiting-count c =
    flushes_all c.args.self c.waiting-waiting.ensures c.min-count.result (omega (arith, c.min-count.ensures, c.room.ensures)) c.put_word.ensures c.if-waiting-count.true _ c.new.ensures

pub returns : goal.returns
returns c =
    flushes_some c.args.self c.waiting-waiting.ensures c.min-count.result (omega (arith, c.min-count.ensures, c.room.ensures)) c.put_word.ensures c.if-waiting-count.false
