-- What is left ends in the same state as the whole, and what was written comes before its text. The measure is what is left.
use Rattle.std.proofs.Common.{◌≡◌, ◌++◌, ℕ, List, length}
use Rattle.std.specs.Io.KnownBytes.{Appends}
use Rattle.packet_lines.specs.Blocks.{whole_piece}
use Rattle.packets.specs.Blocks.{after_block, block_text}
use Rattle.packets.proofs.PacketsLister.list.Given as goal

abbrev pub invariant-loop-rest : goal.invariant-loop-rest
invariant-loop-rest g l =
    ((whole_piece l.listing l.rest).next ≡ (after_block l.fn.self l.block).0)
    × (text : List ℕ)
    × Appends (g.W.Write.contents l.fn.output) (g.W.Write.contents l.output) text
    × (text ++ (whole_piece l.listing l.rest).text ≡ block_text l.fn.self l.block)

abbrev pub decreases-loop-rest : goal.decreases-loop-rest
decreases-loop-rest g l = length l.rest
