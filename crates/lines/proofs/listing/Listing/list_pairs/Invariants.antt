-- There is a pair to list; what the reading comes to from here is what it came to at the start (`WholePairs`); and where nothing
-- was taken yet, nothing changed. The measure is what is left of the input.
use Rattle.std.proofs.Common.{◌-◌, length}
use Rattle.lines.proofs.WholePairs.{Midst}
use Rattle.lines.proofs.listing.Listing.list_pairs.Given as goal

abbrev pub invariant-loop-taken : goal.invariant-loop-taken
invariant-loop-taken l = Midst l.input l.from l.fn.self l.initial.out l.taken l.receiver l.pairs l.refused l.out

abbrev pub decreases-loop-taken : goal.decreases-loop-taken
decreases-loop-taken l = length l.input - l.taken
