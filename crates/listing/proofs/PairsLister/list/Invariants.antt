-- What is left ends in the same state as the whole, and what was written comes before its text. The measure is the text that
-- is still to come of what is left.
use Rattle.std.proofs.Common.{◌≡◌, ◌++◌, ℕ, List, length}
use Rattle.std.specs.Io.KnownBytes.{Appends}
use Rattle.lines.specs.Pieces.{whole_piece}
use Rattle.listing.specs.Blocks.{after_block, block_text}
use Rattle.listing.proofs.PairsLister.list.Given as goal

abbrev pub invariant-loop-listing : goal.invariant-loop-listing
invariant-loop-listing g l =
    ((whole_piece l.listing l.rest).next ≡ (after_block l.fn.self l.block).0)
    × (text : List ℕ)
    × Appends (g.W.Write.contents l.fn.output) (g.W.Write.contents l.output) text
    × (text ++ (whole_piece l.listing l.rest).text ≡ block_text l.fn.self l.block)

abbrev pub decreases-loop-listing : goal.decreases-loop-listing
decreases-loop-listing g l = length (whole_piece l.listing l.rest).text
