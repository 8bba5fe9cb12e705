-- A stream in blocks, as the program reads it, each block through to its end before the next: the port's own words.
use Rattle.std.specs.Prelude.{ℕ, ◌+◌, true, cond, ◌≡◌}
use mathlib.Core.List.{List, [], ◌∷◌, ◌++◌, flatten}
use Rattle.packet_lines.specs.Packets.{packet_lines}
use Rattle.packet_lines.specs.Pieces.{Piece, after_byte, fresh_listing, of_byte, of_end, said_only, stays}
use Rattle.packet_lines.specs.declared.listing.PacketListing.{PacketListing}

-- a piece with room for all: each byte is taken, unless the listing has ended
abbrev pub whole_piece : PacketListing → List ℕ → Piece
whole_piece l [] = stays l
whole_piece l (a ∷ rest) = cond l.ended (stays l) (after_byte (of_byte l a) (whole_piece (of_byte l a).next rest))

abbrev pub whole_end : PacketListing → Piece
whole_end l = cond l.ended (stays l) (said_only (of_end l))

-- the state after a block; one of no bytes is the end of the stream
abbrev pub after_block : PacketListing → List ℕ → PacketListing
after_block l [] = (whole_end l).next
after_block l (a ∷ rest) = (whole_piece l (a ∷ rest)).next

-- one piece after the other
abbrev pub joined : Piece → Piece → Piece
joined p q = record { taken = p.taken + q.taken; text = p.text ++ q.text; next = q.next }

abbrev pub in_blocks : List (List ℕ) → PacketListing → Piece
in_blocks [] l = stays l
in_blocks (b ∷ bs) l = joined (whole_piece l b) (in_blocks bs (whole_piece l b).next)

-- after these blocks and the end the listing is done, and what was written is the text of all of them together
pub record CompletesInBlocks (blocks : List (List ℕ)) : Type 0 where
  pub ends_done : (after_block (in_blocks blocks fresh_listing).next []).ended ≡ true
  pub writes_all : (in_blocks blocks fresh_listing).text ++ (whole_end (in_blocks blocks fresh_listing).next).text ≡ packet_lines (flatten blocks)
