-- What was read stays inside of the input, which keeps its length. The measure is what is left of it.
use Rattle.std.proofs.Common.{◌-◌, ◌≤◌, ◌≡◌, length}
use Rattle.replay.proofs.read_full.Given as goal

abbrev pub invariant-loop-got : goal.invariant-loop-got
invariant-loop-got l = (l.got ≤ length l.input) × (length l.input ≡ length l.initial.input)

abbrev pub decreases-loop-got : goal.decreases-loop-got
decreases-loop-got l = length l.input - l.got
