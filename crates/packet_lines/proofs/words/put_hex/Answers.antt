-- The digits of one byte more.
use Rattle.packet_lines.proofs.Bytewise.{hex_more}
use Rattle.packet_lines.proofs.words.put_hex.Goals as goal

pub loop-byte-preserved : goal.loop-byte-preserved
loop-byte-preserved c = hex_more c.args.bytes.now c.loop-byte.byte-index c.loop-byte-test.true c.loop-byte.invariant c.put_hex_byte.ensures
