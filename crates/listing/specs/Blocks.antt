-- A stream in blocks, as the program lists it. A block of no bytes is the end.
use Rattle.std.specs.Prelude.{ℕ, Bool, List, [], ◌∷◌}
use Rattle.lines.specs.Loops as loops
use Rattle.lines.specs.Pieces as pieces
use Rattle.lines.specs.declared.listing.Listing.{Listing}
use Rattle.listing.specs.declared.Pairs.{Pairs}

abbrev pub fresh : Pairs
fresh = record { 0 = pieces.fresh_listing }

-- the state after a block
abbrev pub after_block : Pairs → List ℕ → Pairs
after_block p block = record { 0 = loops.after_block p.0 block }

-- the text of a block
abbrev text_of : Listing → List ℕ → List ℕ
text_of l [] = (pieces.whole_piece (pieces.ended_listing l) []).text
text_of l (a ∷ rest) = (pieces.whole_piece l (a ∷ rest)).text

abbrev pub block_text : Pairs → List ℕ → List ℕ
block_text p block = text_of p.0 block

abbrev pub done : Pairs → Bool
done p = pieces.is_done p.0
