-- The ten thousands, and four digits of the rest (`Digits`).
use Rattle.lines.proofs.Digits.{long_number, short_number}
use Rattle.lines.proofs.Puts.{same_bytes, ◌then◌}
use Rattle.lines.proofs.put.Writer.put_number.Goals as goal

pub returns-then-number-lt10000 : goal.returns-then-number-lt10000
returns-then-number-lt10000 c = same_bytes (short_number c.args.number c.if-number-lt10000.true) c.put_short.ensures

pub returns : goal.returns
returns c =
    same_bytes (long_number c.args.number c.if-number-lt10000.false c.requires.0) (c.put_short-2.ensures then same_bytes c.last_four.ensures c.put_bytes.ensures)
