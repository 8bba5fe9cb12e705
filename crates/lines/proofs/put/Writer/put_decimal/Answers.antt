-- The places of ten one after the other, and the last digit.
use Rattle.lines.proofs.Puts.{◌then◌}
use Rattle.lines.specs.Words.{decimal}
use Rattle.lines.proofs.put.Writer.put_decimal.Goals as goal

pub returns : goal.returns
unfolding decimal
returns c =
    c.put_place.ensures
    then c.put_place-2.ensures
    then c.put_place-3.ensures
    then c.put_place-4.ensures
    then c.put_place-5.ensures
    then c.put_place-6.ensures
    then c.put_place-7.ensures
    then c.put_place-8.ensures
    then c.put_place-9.ensures
    then c.put.ensures
