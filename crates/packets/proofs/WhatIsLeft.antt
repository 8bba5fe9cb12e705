-- A call of `read`, and what is left of its input after it: it is less, ends in the same state, and what was written comes
-- before its text. And a block of no bytes, which is the end.
-- Assumes nothing.
use Prim.Native.Nat.{ℕ, ◌+◌, ◌-◌, ◌≤◌, ◌<◌}
use lib.ListN.{drop, length, length-drop, take}
use mathlib.Core.Bool.{false}
use mathlib.Core.List.{List, [], ◌∷◌, ◌++◌}
use mathlib.Core.Path.{◌≡◌, refl, ap, ap₂, ◌∙◌}
use native.Mathlib.Omega.{arith}
use Rattle.code.proofs.LentPart.{lent_part}
use Rattle.lines.proofs.ProgressLemmas.{output_begins_with}
use Rattle.packet_lines.proofs.Called as called
use Rattle.packet_lines.specs.Blocks.{whole_end, whole_piece}
use Rattle.packet_lines.specs.Pieces.{Piece, Read, any_text, end_of, end_packets, piece_of, read_outcome, read_packets}
use Rattle.packet_lines.specs.declared.listing.PacketListing.{PacketListing}
use Rattle.lines.specs.declared.listing.Progress.{Progress}
use Rattle.packets.specs.Blocks.{after_block, block_text}
use Rattle.packets.specs.declared.Packets.{Packets}

module _ (l : PacketListing) (input output : List ℕ) (p : PacketListing × Progress) (after : List ℕ) (promised : read_outcome p after ≡ read_packets l input output) where
  abbrev left : List ℕ
  left = take (length input - p.1.taken) (drop p.1.taken input)

  left_is : left ≡ drop p.1.taken input
  left_is = lent_part input p.1.taken

  pub ends_the_same : (whole_piece p.0 left).next ≡ (whole_piece l input).next
  ends_the_same =
      ap (λ (xs : List ℕ). (whole_piece p.0 xs).next) left_is ∙ called.ends_the_same l input output p after promised

  pub says_the_same : take p.1.written after ++ (whole_piece p.0 left).text ≡ (whole_piece l input).text
  unfolding read_packets
  says_the_same =
      ap₂ (λ (xs ys : List ℕ). xs ++ ys)
      (ap₂ (λ (n : ℕ) (xs : List ℕ). take n xs) (ap (λ (x : Read). x.1) promised) (ap (λ (x : Read). x.3) promised) ∙ output_begins_with (piece_of l input (length output)).text output)
      (ap (λ (xs : List ℕ). (whole_piece p.0 xs).text) left_is ∙ ap₂ (λ (x : PacketListing) (n : ℕ). (whole_piece x (drop n input)).text) (ap (λ (x : Read). x.2) promised) (ap (λ (x : Read). x.0) promised))
      ∙ ap (λ (x : Piece). x.text) (called.calls_add_up input l (length output))

  pub is_less : l.ended ≡ false → any_text ≤ length output → 0 < length input → length left < length input
  is_less on room some =
      omega (arith, some, ap length left_is, length-drop p.1.taken input, called.takes_some l input output p after promised on room some)

pub end_says : (l : PacketListing) (output : List ℕ) (p : PacketListing × Progress) (after : List ℕ) → read_outcome p after ≡ end_packets l output → any_text ≤ length output → take p.1.written after ≡ (whole_end l).text
unfolding end_packets
end_says l output p after promised room =
    ap₂ (λ (n : ℕ) (xs : List ℕ). take n xs) (ap (λ (x : Read). x.1) promised) (ap (λ (x : Read). x.3) promised)
    ∙ output_begins_with (end_of l (length output)).text output
    ∙ ap (λ (x : Piece). x.text) (called.end_fits l (length output) room)

pub after_no_bytes : (p : Packets) (block : List ℕ) → length block ≡ 0 → (whole_end p.0).next ≡ (after_block p block).0
after_no_bytes p [] none = refl
after_no_bytes p (a ∷ rest) none = absurd (omega (arith, none))

pub no_bytes_say : (p : Packets) (block : List ℕ) → length block ≡ 0 → (whole_end p.0).text ≡ block_text p block
no_bytes_say p [] none = refl
no_bytes_say p (a ∷ rest) none = absurd (omega (arith, none))
