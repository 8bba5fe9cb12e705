-- What the writer comes to from here is what it came to at the start (`Filling`), from a well-formed state.
use Rattle.std.proofs.Common.{true, ◌≡◌, ◌*◌}
use Rattle.sender.proofs.Filling.{comes_to}
use Rattle.sender.specs.ByParts.{filling}
use Rattle.sender.specs.Sender.{well_formed}
use Rattle.sender.proofs.sender.Sender.write_pairs.Given as goal

abbrev pub invariant-loop-sends : goal.invariant-loop-sends
invariant-loop-sends l =
    (comes_to l.limit l.sends l.self l.part (2 * l.sends) ≡ filling l.fn.self l.fn.part l.limit)
    × (well_formed l.self ≡ true)
