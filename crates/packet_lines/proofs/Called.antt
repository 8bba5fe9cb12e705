-- What a caller knows after a call of `read` or `end`, from its promise: it stays inside the input and the output; what is
-- left ends in the same state; a byte is taken where there is room for any text, and there the end ends.
-- Assumes nothing.
use Prim.Native.Nat.{ℕ, ◌-◌, ◌≤◌, ◌<◌}
use borrow.Author.Tests.{le-ltb}
use lib.Dec.{ltb}
use lib.ListN.{drop, length, length-append, length-drop}
use mathlib.Core.Bool.{Bool, true, false, cond}
use mathlib.Core.List.{List, [], ◌∷◌, ◌++◌, append_assoc}
use mathlib.Core.Path.{◌≡◌, refl, ap, ap₂, sym, ◌∙◌}
use native.Mathlib.Omega.{arith}
use Rattle.lines.proofs.AnyCutting.{drop_more}
use Rattle.packet_lines.proofs.ProgressLemmas.{a_byte_is_taken, end_within_room, no_more_than_offered, no_more_than_room}
use Rattle.packet_lines.specs.Blocks.{joined, whole_end, whole_piece}
use Rattle.packet_lines.specs.Pieces.{Piece, Read, Turn, after_byte, any_text, end_of, end_packets, of_byte, of_end, piece_of, read_as, read_outcome, read_packets, said_only, stays}
use Rattle.packet_lines.specs.declared.listing.PacketListing.{PacketListing}
use Rattle.lines.specs.declared.listing.Progress.{Progress}

-- where the listing has ended, no byte is taken and nothing is said
pub where_ended : (l : PacketListing) (input : List ℕ) → l.ended ≡ true → whole_piece l input ≡ stays l
where_ended l [] e = refl
where_ended l (a ∷ rest) e =
    ap (λ (t : Bool). cond t (stays l) (after_byte (of_byte l a) (whole_piece (of_byte l a).next rest))) e

same_piece : {p q : Piece} → p.taken ≡ q.taken → p.text ≡ q.text → p.next ≡ q.next → p ≡ q
same_piece a b c = λ i. record { taken = a i; text = b i; next = c i }

after_nothing : (l : PacketListing) (q : Piece) → joined (stays l) q ≡ q
after_nothing l q = same_piece (omega arith) refl refl

after_byte_joined : (t : Turn) (p q : Piece) → joined (after_byte t p) q ≡ after_byte t (joined p q)
after_byte_joined t p q = same_piece (omega arith) (append_assoc t.text p.text q.text) refl

-- an input is the same in one piece, and in two
pub calls_add_up : (input : List ℕ) (l : PacketListing) (room : ℕ) → joined (piece_of l input room) (whole_piece (piece_of l input room).next (drop (piece_of l input room).taken input)) ≡ whole_piece l input
calls_add_up [] l room = refl
calls_add_up (a ∷ rest) l room =
    unless_stopped l.ended refl (ltb room any_text) (calls_add_up rest (of_byte l a).next (room - length (of_byte l a).text))
  where
    later : Piece
    later = piece_of (of_byte l a).next rest (room - length (of_byte l a).text)

    unless_stopped : (ended : Bool) → l.ended ≡ ended → (full : Bool) → joined later (whole_piece later.next (drop later.taken rest)) ≡ whole_piece (of_byte l a).next rest → joined (cond (cond ended true full) (stays l) (after_byte (of_byte l a) later)) (whole_piece (cond (cond ended true full) (stays l) (after_byte (of_byte l a) later)).next (drop (cond (cond ended true full) (stays l) (after_byte (of_byte l a) later)).taken (a ∷ rest))) ≡ whole_piece l (a ∷ rest)
    unless_stopped true e full next = after_nothing l (whole_piece l (a ∷ rest))
    unless_stopped false e true next = after_nothing l (whole_piece l (a ∷ rest))
    unless_stopped false e false next =
        ap (λ (xs : List ℕ). joined (after_byte (of_byte l a) later) (whole_piece later.next xs)) (drop_more later.taken a rest)
        ∙ after_byte_joined (of_byte l a) later (whole_piece later.next (drop later.taken rest))
        ∙ ap (after_byte (of_byte l a)) next
        ∙ sym (ap (λ (t : Bool). cond t (stays l) (after_byte (of_byte l a) (whole_piece (of_byte l a).next rest))) e)

-- with room for any text the end is whole
pub end_fits : (l : PacketListing) (room : ℕ) → any_text ≤ room → end_of l room ≡ whole_end l
end_fits l room fits =
    ap (λ (full : Bool). cond (cond l.ended true full) (stays l) (said_only (of_end l))) (le-ltb room any_text fits) ∙ by l.ended
  where
    by : (t : Bool) → cond (cond t true false) (stays l) (said_only (of_end l)) ≡ cond t (stays l) (said_only (of_end l))
    by true = refl
    by false = refl

-- an output that begins with text is as long as before, where the text fits
same_length : (text output : List ℕ) → length text ≤ length output → length (text ++ drop (length text) output) ≡ length output
same_length text output fits =
    omega (arith, fits, length-append text (drop (length text) output), length-drop (length text) output)

module _ (l : PacketListing) (input output : List ℕ) (p : PacketListing × Progress) (after : List ℕ) (promised : read_outcome p after ≡ read_packets l input output) where
  abbrev piece : Piece
  piece = piece_of l input (length output)

  as_a_piece : read_outcome p after ≡ read_as piece output
  unfolding read_packets
  as_a_piece = promised

  takes : p.1.taken ≡ piece.taken
  takes = ap (λ (x : Read). x.0) as_a_piece

  pub takes_no_more : p.1.taken ≤ length input
  takes_no_more = omega (arith, takes, no_more_than_offered input l (length output))

  pub writes_no_more : p.1.written ≤ length output
  writes_no_more = omega (arith, ap (λ (x : Read). x.1) as_a_piece, no_more_than_room input l (length output))

  pub same_room : length after ≡ length output
  same_room =
      ap (λ (x : Read). length x.3) as_a_piece ∙ same_length piece.text output (no_more_than_room input l (length output))

  pub takes_some : l.ended ≡ false → any_text ≤ length output → 0 < length input → 0 < p.1.taken
  takes_some on room some = omega (arith, takes, of input some)
    where
      of : (xs : List ℕ) → 0 < length xs → 0 < (piece_of l xs (length output)).taken
      of [] none = absurd (omega (arith, none))
      of (a ∷ rest) more = a_byte_is_taken l a rest (length output) on room

  pub ends_the_same : (whole_piece p.0 (drop p.1.taken input)).next ≡ (whole_piece l input).next
  ends_the_same =
      ap₂ (λ (x : PacketListing) (n : ℕ). (whole_piece x (drop n input)).next) (ap (λ (x : Read). x.2) as_a_piece) takes
      ∙ ap (λ (x : Piece). x.next) (calls_add_up input l (length output))

module _ (l : PacketListing) (output : List ℕ) (p : PacketListing × Progress) (after : List ℕ) (promised : read_outcome p after ≡ end_packets l output) where
  as_the_end : read_outcome p after ≡ read_as (end_of l (length output)) output
  unfolding end_packets
  as_the_end = promised

  pub end_writes_no_more : p.1.written ≤ length output
  end_writes_no_more = omega (arith, ap (λ (x : Read). x.1) as_the_end, end_within_room l (length output))

  pub end_same_room : length after ≡ length output
  end_same_room =
      ap (λ (x : Read). length x.3) as_the_end ∙ same_length (end_of l (length output)).text output (end_within_room l (length output))

  pub end_leaves : any_text ≤ length output → p.0 ≡ (whole_end l).next
  end_leaves room =
      ap (λ (x : Read). x.2) as_the_end ∙ ap (λ (x : Piece). x.next) (end_fits l (length output) room)
