-- Word by word.
use Rattle.lines.proofs.Puts.{◌then◌}
use Rattle.lines.proofs.words.put_last_line.Goals as goal

pub returns : goal.returns
returns c =
    c.put_word.ensures then c.put_decimal.ensures then c.put_word-2.ensures then c.put_decimal-2.ensures then c.put.ensures
