-- Whatever the cutting of the input and whatever the room of the outputs, what was written so far and what is still to be said
-- are together the definition's text.
-- Assumes nothing.
use Prim.Native.Nat.{ℕ}
use lib.ListN.{drop, length, take, take-append-drop}
use mathlib.Core.Bool.{true, false, true≢false}
use mathlib.Core.List.{List, [], ◌++◌, append_assoc, append-nil}
use mathlib.Core.Logic.{⊎_elim}
use mathlib.Core.Path.{◌≡◌, ap, sym, subst, ◌∙◌}
use Rattle.extended.proofs.Refines.{fresh_keeps_fresh}
use Rattle.extended.specs.Extended.{Reader}
use Rattle.lines.proofs.AnyCutting.{offered_first}
use Rattle.lines.proofs.ProgressLemmas.{output_begins_with}
use Rattle.packet_lines.proofs.ProgressLemmas.{no_more_than_offered}
use Rattle.packet_lines.proofs.Turns.{Ends, Sound, a_piece_says, an_end_says, done_is_silent, fresh_sound}
use Rattle.packet_lines.specs.Calls as calls
use Rattle.packet_lines.specs.Calls.{Calls, Finished, Run, began, called, says_yet}
use Rattle.packet_lines.specs.Packets.{packet_lines, packets_from}
use Rattle.packet_lines.specs.Pieces.{Piece, Read, end_of, end_packets, piece_of, read_outcome, read_packets}
use Rattle.lines.specs.declared.listing.Progress.{Progress}
use Rattle.packet_lines.specs.declared.listing.PacketListing.{PacketListing}

-- what every run keeps: what it wrote, then what its state has still to say, is the text of the whole
record Kept (bytes : List ℕ) (r : Run) : Type 0 where
  sound : Sound r.listing
  text : packet_lines bytes ≡ r.text ++ says_yet r.listing r.left

began_kept : (bytes : List ℕ) → Kept bytes (began bytes)
unfolding packet_lines
began_kept bytes = record { sound = fresh_sound; text = ap (λ (s : Reader). packets_from s 0 0 0 bytes) (sym fresh_keeps_fresh) }

-- a call that promised this piece
abbrev after_piece : Run → Piece → Run
after_piece r p = record { text = r.text ++ p.text; listing = p.next; left = drop p.taken r.left }

as_a_piece : (r : Run) (output : List ℕ) (q : PacketListing × Progress) (after : List ℕ) (p : Piece) → read_outcome q after ≡ (p.taken, length p.text, p.next, p.text ++ drop (length p.text) output) → called q after r ≡ after_piece r p
as_a_piece r output q after p promised =
    ap {B = Run} (λ (x : Read). record { text = r.text ++ take x.1 x.3; listing = x.2; left = drop x.0 r.left }) promised
    ∙ ap {B = Run} (λ (xs : List ℕ). record { text = r.text ++ xs; listing = p.next; left = drop p.taken r.left }) (output_begins_with p.text output)

piece_kept : (bytes : List ℕ) (r : Run) → Kept bytes r → (p : Piece) → Ends r.listing r.left p → Kept bytes (after_piece r p)
piece_kept bytes r k p goes = record {
  sound = goes.1;
  text =
      k.text
      ∙ ap (λ (xs : List ℕ). r.text ++ xs) goes.0
      ∙ sym (append_assoc r.text p.text (says_yet p.next (drop p.taken r.left)));
}

read_kept : (bytes : List ℕ) (r : Run) (n : ℕ) (output : List ℕ) (q : PacketListing × Progress) (after : List ℕ) → read_outcome q after ≡ read_packets r.listing (take n r.left) output → Kept bytes r → Kept bytes (called q after r)
unfolding read_packets
read_kept bytes r n output q after promised k =
    let offered = take n r.left in
    let p = piece_of r.listing offered (length output) in
    let goes = a_piece_says offered r.listing k.sound (drop n r.left) (length output) in
    let left = offered_first p.taken n r.left (no_more_than_offered offered r.listing (length output)) in
    subst (Kept bytes) (sym (as_a_piece r output q after p promised))
    (piece_kept bytes r k p (
      ap (says_yet r.listing) (sym (take-append-drop n r.left))
          ∙ goes.0
          ∙ ap (λ (xs : List ℕ). p.text ++ says_yet p.next xs) left,
      goes.1,
    ))

end_kept : (bytes : List ℕ) (r : Run) (output : List ℕ) (q : PacketListing × Progress) (after : List ℕ) → Finished r → read_outcome q after ≡ end_packets r.listing output → Kept bytes r → Kept bytes (called q after r)
unfolding end_packets
end_kept bytes r output q after finished promised k =
    let none : r.listing.ended ≡ false → r.left ≡ [] = λ on. ⊎_elim (λ e. e) (λ e. absurd (true≢false (sym e ∙ on))) finished in
    subst (Kept bytes) (sym (as_a_piece r output q after (end_of r.listing (length output)) promised))
    (piece_kept bytes r k (end_of r.listing (length output)) (an_end_says r.listing k.sound r.left (length output) none))

calls_kept : (bytes : List ℕ) {r last : Run} → Calls r last → Kept bytes r → Kept bytes last
calls_kept bytes calls.none k = k
calls_kept bytes (calls.reads {r} n output p after promised then) k =
    calls_kept bytes then (read_kept bytes r n output p after promised k)
calls_kept bytes (calls.ends {r} output p after finished promised then) k =
    calls_kept bytes then (end_kept bytes r output p after finished promised k)

-- the theorem: after any calls, with any pieces of the input and any outputs, what was written so far and what is still to be
-- said are the definition's text, no byte lost and none repeated
pub any_cutting : (bytes : List ℕ) (last : Run) → Calls (began bytes) last → packet_lines bytes ≡ last.text ++ says_yet last.listing last.left
any_cutting bytes last cs = (calls_kept bytes cs (began_kept bytes)).text

-- so a run that has ended has written that text
pub ended_is_whole : (bytes : List ℕ) (last : Run) → Calls (began bytes) last → last.listing.ended ≡ true → last.text ≡ packet_lines bytes
ended_is_whole bytes last cs e =
    sym (any_cutting bytes last cs ∙ ap (λ (xs : List ℕ). last.text ++ xs) (done_is_silent last.listing last.left e) ∙ append-nil last.text)
