-- The laws of the packets in blocks: they are the same wherever the stream is cut, the end ends it, and nothing comes after it.
use Prim.Native.Nat.{ℕ}
use mathlib.Core.Bool.{Bool, cond}
use mathlib.Core.List.{List, [], ◌∷◌, ◌++◌}
use mathlib.Core.Path.{◌≡◌, refl, ap, ap₂, ◌∙◌}
use Rattle.packet_lines.proofs.Called.{where_ended}
use Rattle.packet_lines.proofs.Blocks.{end_is_done, read_in_blocks}
use Rattle.packet_lines.specs.Blocks.{in_blocks, whole_end, whole_piece}
use Rattle.packet_lines.specs.Packets.{packet_lines}
use Rattle.packet_lines.specs.Pieces.{Piece, of_end, said_only, stays}
use Rattle.packet_lines.specs.declared.listing.PacketListing.{PacketListing}
use Rattle.packets.specs.Blocks.{after_block, block_text, done, fresh}
use Rattle.packets.specs.declared.Packets.{Packets}
use Rattle.streams.specs.Blocks.{EndsDone, IsAnyCutting, SomeBytes, StaysDone, after_blocks, blocks_text}

-- blocks that have bytes, as `packet_lines` has them
as_blocks : (blocks : List (List ℕ)) (p : Packets) → SomeBytes blocks → ((after_blocks after_block p blocks).0 ≡ (in_blocks blocks p.0).next) × (blocks_text after_block block_text p blocks ≡ (in_blocks blocks p.0).text)
as_blocks [] p some = (refl, refl)
as_blocks ([] ∷ bs) p some = absurd some
as_blocks ((a ∷ rest) ∷ bs) p some =
    let next = as_blocks bs (after_block p (a ∷ rest)) some in (
      next.0,
      ap (λ (xs : List ℕ). (whole_piece p.0 (a ∷ rest)).text ++ xs) next.1,
    )

pub any_cutting : IsAnyCutting after_block block_text fresh packet_lines
any_cutting blocks some =
    let all = as_blocks blocks fresh some in
    ap₂ (λ (xs : List ℕ) (l : PacketListing). xs ++ (whole_end l).text) all.1 all.0 ∙ (read_in_blocks blocks).writes_all

pub ends_done : EndsDone after_block done
ends_done p = end_is_done p.0

pub stays_done : StaysDone after_block block_text done
stays_done p [] e =
    let so = ap (λ (t : Bool). cond t (stays p.0) (said_only (of_end p.0))) e in
    (ap (λ (x : Piece). x.text) so, ap (λ (x : Piece). x.next.ended) so ∙ e)
stays_done p (a ∷ rest) e =
    let so = where_ended p.0 (a ∷ rest) e in
    (ap (λ (x : Piece). x.text) so, ap (λ (x : Piece). x.next.ended) so ∙ e)
