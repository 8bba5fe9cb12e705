-- Word by word.
use Rattle.lines.proofs.Puts.{◌then◌}
use Rattle.packet_lines.proofs.words.put_last_line.Goals as goal

pub returns : goal.returns
returns c = c.put_count.ensures then c.put_count-2.ensures then c.put_count-3.ensures then c.put.ensures
