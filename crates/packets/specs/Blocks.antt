-- A stream in blocks, as the program lists it. A block of no bytes is the end.
use Rattle.std.specs.Prelude.{ℕ, Bool, List, [], ◌∷◌}
use Rattle.packet_lines.specs.Blocks as blocks
use Rattle.packet_lines.specs.Pieces as pieces
use Rattle.packet_lines.specs.declared.listing.PacketListing.{PacketListing}
use Rattle.packets.specs.declared.Packets.{Packets}

abbrev pub fresh : Packets
fresh = record { 0 = pieces.fresh_listing }

-- the state after a block
abbrev pub after_block : Packets → List ℕ → Packets
after_block p block = record { 0 = blocks.after_block p.0 block }

-- the text of a block
abbrev text_of : PacketListing → List ℕ → List ℕ
text_of l [] = (blocks.whole_end l).text
text_of l (a ∷ rest) = (blocks.whole_piece l (a ∷ rest)).text

abbrev pub block_text : Packets → List ℕ → List ℕ
block_text p block = text_of p.0 block

abbrev pub done : Packets → Bool
done p = pieces.is_done p.0
