-- What the reading comes to from here is what it came to at the start (`Reading`), with the places inside the input and the
-- output. The measure is what is left of the input.
use Rattle.std.proofs.Common.{◌-◌, length}
use Rattle.lines.proofs.Reading.{Reached}
use Rattle.lines.proofs.listing.Listing.read_into.Given as goal

abbrev pub invariant-loop-taken : goal.invariant-loop-taken
invariant-loop-taken l = Reached l.input l.initial.listing l.initial.out l.taken l.listing l.out

abbrev pub decreases-loop-taken : goal.decreases-loop-taken
decreases-loop-taken l = length l.input - l.taken
