-- Calls make progress: with room for any text a listing that has not ended takes a byte that is offered, and the end ends it.
-- No call takes more than is offered or writes more than there is room for.
-- Assumes nothing.
use Prim.Native.Nat.{ℕ, suc, ◌-◌, ◌≤◌, ◌<◌}
use borrow.Author.Tests.{le-ltb, ltb-false}
use lib.Dec.{ltb}
use lib.ListN.{length, length-append}
use mathlib.Core.Bool.{Bool, true, false, cond, true≢false}
use mathlib.Core.List.{List, [], ◌∷◌}
use mathlib.Core.Path.{◌≡◌, refl, ap, ap₂}
use native.Mathlib.Omega.{arith}
use Rattle.packet_lines.proofs.Bounds.{a_byte_fits, the_end_fits}
use Rattle.packet_lines.specs.Pieces.{after_byte, any_text, end_of, of_byte, of_end, piece_of, said_only, stays, stops}
use Rattle.packet_lines.specs.declared.listing.PacketListing.{PacketListing}

-- with room for any text nothing stops a listing that has not ended
has_room_lem : (l : PacketListing) (room : ℕ) → l.ended ≡ false → any_text ≤ room → stops l room ≡ false
has_room_lem l room on fits = ap₂ (λ (t u : Bool). cond t true u) on (le-ltb room any_text fits)

pub a_byte_is_taken : (l : PacketListing) (a : ℕ) (rest : List ℕ) (room : ℕ) → l.ended ≡ false → any_text ≤ room → 0 < (piece_of l (a ∷ rest) room).taken
a_byte_is_taken l a rest room on fits = by (stops l room) (has_room_lem l room on fits)
  where
    by : (t : Bool) → t ≡ false → 0 < (cond t (stays l) (after_byte (of_byte l a) (piece_of (of_byte l a).next rest (room - length (of_byte l a).text)))).taken
    by true e = absurd (true≢false e)
    by false e = omega arith

pub the_end_ends : (l : PacketListing) (room : ℕ) → any_text ≤ room → (end_of l room).next.ended ≡ true
the_end_ends l room fits = by l.ended refl
  where
    by : (t : Bool) → l.ended ≡ t → (cond (cond t true (ltb room any_text)) (stays l) (said_only (of_end l))).next.ended ≡ true
    by true e = e
    by false e = ap (λ (t : Bool). (cond t (stays l) (said_only (of_end l))).next.ended) (le-ltb room any_text fits)

pub no_more_than_offered : (input : List ℕ) (l : PacketListing) (room : ℕ) → (piece_of l input room).taken ≤ length input
no_more_than_offered [] l room = omega arith
no_more_than_offered (a ∷ rest) l room =
    unless_stopped (stops l room) (no_more_than_offered rest (of_byte l a).next (room - length (of_byte l a).text))
  where
    unless_stopped : (t : Bool) → (piece_of (of_byte l a).next rest (room - length (of_byte l a).text)).taken ≤ length rest → (cond t (stays l) (after_byte (of_byte l a) (piece_of (of_byte l a).next rest (room - length (of_byte l a).text)))).taken ≤ suc (length rest)
    unless_stopped true few = omega arith
    unless_stopped false few = omega (arith, few)

-- where a byte is taken the listing has not ended, and there is room
pub goes_on_lem : (l : PacketListing) (room : ℕ) → stops l room ≡ false → (l.ended ≡ false) × (any_text ≤ room)
goes_on_lem l room h = by l.ended refl h
  where
    by : (t : Bool) → l.ended ≡ t → cond t true (ltb room any_text) ≡ false → (l.ended ≡ false) × (any_text ≤ room)
    by true e h = absurd (true≢false h)
    by false e h = (e, ltb-false room any_text h)

pub no_more_than_room : (input : List ℕ) (l : PacketListing) (room : ℕ) → length (piece_of l input room).text ≤ room
no_more_than_room [] l room = omega arith
no_more_than_room (a ∷ rest) l room =
    unless_stopped (stops l room) refl (no_more_than_room rest (of_byte l a).next (room - length (of_byte l a).text))
  where
    unless_stopped : (t : Bool) → stops l room ≡ t → length (piece_of (of_byte l a).next rest (room - length (of_byte l a).text)).text ≤ room - length (of_byte l a).text → length (cond t (stays l) (after_byte (of_byte l a) (piece_of (of_byte l a).next rest (room - length (of_byte l a).text)))).text ≤ room
    unless_stopped true e few = omega arith
    unless_stopped false e few =
        omega (arith, few, (goes_on_lem l room e).1, a_byte_fits l a, length-append (of_byte l a).text (piece_of (of_byte l a).next rest (room - length (of_byte l a).text)).text)

pub end_within_room : (l : PacketListing) (room : ℕ) → length (end_of l room).text ≤ room
end_within_room l room = by (stops l room) refl
  where
    by : (t : Bool) → stops l room ≡ t → length (cond t (stays l) (said_only (of_end l))).text ≤ room
    by true e = omega arith
    by false e = omega (arith, the_end_fits l, (goes_on_lem l room e).1)
