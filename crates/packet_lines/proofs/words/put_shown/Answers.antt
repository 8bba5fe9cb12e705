-- The character of one byte more.
use Rattle.packet_lines.proofs.Bytewise.{shown_more}
use Rattle.packet_lines.proofs.words.put_shown.Goals as goal

pub loop-byte-preserved : goal.loop-byte-preserved
loop-byte-preserved c = shown_more c.args.bytes.now c.loop-byte.byte-index c.loop-byte-test.true c.loop-byte.invariant c.shown.ensures c.put.ensures
