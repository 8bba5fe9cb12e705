-- A stream that is read in blocks, each through to its end before the next, and then ended: the listing is done, and what was
-- written is the definition's text.
-- Assumes nothing.
use Prim.Native.Nat.{ℕ, suc}
use lib.ListN.{drop, drop_of_length-le, length}
use mathlib.Core.Bool.{Bool, true, false, cond}
use mathlib.Core.List.{List, [], ◌∷◌, ◌++◌, append_assoc, flatten}
use mathlib.Core.Logic.{◌⊎◌, inl, inr, ⊎_elim}
use mathlib.Core.Path.{◌≡◌, refl, ap, sym, ◌∙◌}
use native.Mathlib.Omega.{arith}
use Rattle.extended.proofs.Refines.{fresh_keeps_fresh}
use Rattle.extended.specs.Extended.{Reader}
use Rattle.packet_lines.proofs.Turns.{Goes, Sound, a_byte_sound, after_a_byte, done_is_silent, fresh_sound, the_end_says}
use Rattle.packet_lines.specs.Blocks.{CompletesInBlocks, in_blocks, whole_end, whole_piece}
use Rattle.packet_lines.specs.Calls.{says_yet}
use Rattle.packet_lines.specs.Packets.{packet_lines, packets_from}
use Rattle.packet_lines.specs.Pieces.{Piece, after_byte, fresh_listing, of_byte, of_end, said_only, stays}
use Rattle.packet_lines.specs.declared.listing.PacketListing.{PacketListing}

-- one block: what it says, and that every byte of it is taken unless the listing has ended
goes : (input : List ℕ) (l : PacketListing) → Sound l → (more : List ℕ) → Goes l input more (whole_piece l input)
goes [] l sound more = (refl, sound)
goes (a ∷ rest) l sound more =
    unless_ended l.ended refl (λ (on : l.ended ≡ false). goes rest (of_byte l a).next (a_byte_sound l on (sound on) a) more)
  where
    unless_ended : (t : Bool) → l.ended ≡ t → (l.ended ≡ false → Goes (of_byte l a).next rest more (whole_piece (of_byte l a).next rest)) → Goes l (a ∷ rest) more (cond t (stays l) (after_byte (of_byte l a) (whole_piece (of_byte l a).next rest)))
    unless_ended true e next = (refl, sound)
    unless_ended false e next = after_a_byte l e sound a rest more (whole_piece (of_byte l a).next rest) (next e)

abbrev Through : Piece → ℕ → Type 0
Through p n = (p.taken ≡ n) ⊎ (p.next.ended ≡ true)

through : (input : List ℕ) (l : PacketListing) → Through (whole_piece l input) (length input)
through [] l = inl refl
through (a ∷ rest) l = unless_ended l.ended refl (through rest (of_byte l a).next)
  where
    unless_ended : (t : Bool) → l.ended ≡ t → Through (whole_piece (of_byte l a).next rest) (length rest) → Through (cond t (stays l) (after_byte (of_byte l a) (whole_piece (of_byte l a).next rest))) (suc (length rest))
    unless_ended true e next = inr e
    unless_ended false e next = ⊎_elim (λ all. inl (omega (arith, all))) inr next

-- what is left of the block says nothing more
rest_of_block : (input : List ℕ) (l : PacketListing) (more : List ℕ) → says_yet (whole_piece l input).next (drop (whole_piece l input).taken input ++ more) ≡ says_yet (whole_piece l input).next more
rest_of_block input l more =
    let p = whole_piece l input in
    ⊎_elim
    (λ (all : p.taken ≡ length input). ap (λ (xs : List ℕ). says_yet p.next (xs ++ more)) (drop_of_length-le input {i = p.taken} (omega (arith, all))))
    (λ (e : p.next.ended ≡ true). done_is_silent p.next (drop p.taken input ++ more) e ∙ sym (done_is_silent p.next more e))
    (through input l)

blocks_say : (blocks : List (List ℕ)) (l : PacketListing) → Sound l → (says_yet l (flatten blocks) ≡ (in_blocks blocks l).text ++ says_yet (in_blocks blocks l).next []) × Sound (in_blocks blocks l).next
unfolding flatten
blocks_say [] l sound = (refl, sound)
blocks_say (b ∷ bs) l sound =
    let p = whole_piece l b in
    let first = goes b l sound (flatten bs) in
    let then = blocks_say bs p.next first.1 in (
      first.0
          ∙ ap (λ (xs : List ℕ). p.text ++ xs) (rest_of_block b l (flatten bs) ∙ then.0)
          ∙ sym (append_assoc p.text (in_blocks bs p.next).text (says_yet (in_blocks bs p.next).next [])),
      then.1,
    )

-- the end of the stream
end_says : (l : PacketListing) → Sound l → says_yet l [] ≡ (whole_end l).text
end_says l sound = by l.ended refl
  where
    by : (t : Bool) → l.ended ≡ t → says_yet l [] ≡ (cond t (stays l) (said_only (of_end l))).text
    by true e = done_is_silent l [] e
    by false e = the_end_says l e (sound e)

pub end_is_done : (l : PacketListing) → (whole_end l).next.ended ≡ true
end_is_done l = by l.ended refl
  where
    by : (t : Bool) → l.ended ≡ t → (cond t (stays l) (said_only (of_end l))).next.ended ≡ true
    by true e = e
    by false e = refl

pub read_in_blocks : (blocks : List (List ℕ)) → CompletesInBlocks blocks
unfolding packet_lines
read_in_blocks blocks =
    let all = blocks_say blocks fresh_listing fresh_sound in
    let p = in_blocks blocks fresh_listing in
    record {
      ends_done = end_is_done p.next;
      writes_all = ap (λ (xs : List ℕ). p.text ++ xs) (sym (end_says p.next all.1)) ∙ sym all.0 ∙ ap (λ (s : Reader). packets_from s 0 0 0 (flatten blocks)) fresh_keeps_fresh;
    }
