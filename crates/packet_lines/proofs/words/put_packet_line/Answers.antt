-- Word by word.
use Rattle.lines.proofs.Puts.{◌then◌}
use Rattle.packet_lines.proofs.words.put_packet_line.Goals as goal

pub returns : goal.returns
returns c = c.put_decimal.ensures then c.put_word.ensures then c.put_packet.ensures then c.put.ensures
