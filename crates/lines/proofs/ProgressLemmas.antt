-- A call of `read` makes progress: with room for a byte and a byte of input, a listing that is not done takes one or writes
-- one, and what waits is written without input too. It takes no more than is offered and writes no more than there is room
-- for, and the output begins with what it wrote.
-- Assumes nothing.
use mathlib.Core.Bool.{Bool, true, false, cond, true≢false}
use mathlib.Core.List.{List, [], ◌∷◌}
use mathlib.Core.Path.{◌≡◌, refl}
use Prim.Native.Nat.{ℕ, zero, suc, ◌+◌, ◌-◌, ◌≤◌, ◌<◌}
use native.Mathlib.Omega.{arith}
use borrow.Author.Tests.{ltb-false, ltb-true}
use lib.Dec.{ltb}
use lib.ListN.{drop, length, length-append, take}
use lib.Seq.{take-append_seam}
use Rattle.lines.specs.Line.{bytes_from, has_more, over, unwritten, waiting, writes}
use Rattle.lines.specs.Pieces.{Piece, absorbed, after_byte, flushed_only, is_done, piece_of, with_line}
use Rattle.lines.specs.declared.line.Line.{Line}
use Rattle.lines.specs.declared.listing.Listing.{Listing}

-- where something waits and there is room, something is written
some_bytes : (bytes : List ℕ) (at n room : ℕ) → 0 < n → 0 < room → 0 < length (take room (bytes_from bytes at n))
some_bytes bytes at zero room some fits = absurd (omega (arith, some))
some_bytes bytes at (suc n) zero some fits = absurd (omega (arith, fits))
some_bytes bytes at (suc n) (suc room) some fits = omega arith

some_written : (l : Line) (room : ℕ) → has_more l ≡ true → 0 < room → 0 < length (writes l room)
some_written l room more fits = some_bytes l.bytes l.at (waiting l) room (ltb-true 0 (waiting l) more) fits

pub what_waits_is_written : (l : Listing) (room : ℕ) → has_more l.line ≡ true → 0 < room → 0 < length (piece_of l [] room).text
what_waits_is_written l room more fits = some_written l.line room more fits

module _ (l : Listing) (a : ℕ) (rest : List ℕ) (room : ℕ) (fits : 0 < room) where
  abbrev next : Piece
  next = piece_of (absorbed (with_line l (unwritten l.line room)) a) rest (room - length (writes l.line room))

  abbrev Moves : Piece → Type 0
  Moves p = 0 < p.taken + length p.text

  -- a byte is taken where nothing stops it, and where something waits that is written
  moves : (more : Bool) → has_more l.line ≡ more → (ended : Bool) → cond more false ended ≡ false → (full : Bool) → ltb room (waiting l.line) ≡ full → Moves (cond (cond ended true full) (flushed_only l room) (after_byte (writes l.line room) next))
  moves true m true busy full f = omega (arith, some_written l.line room m fits)
  moves true m false busy true f = omega (arith, some_written l.line room m fits)
  moves true m false busy false f = omega arith
  moves false m true busy full f = absurd (true≢false busy)
  moves false m false busy true f =
      absurd (omega (arith, ltb-false 0 (waiting l.line) m, ltb-true room (waiting l.line) f))
  moves false m false busy false f = omega arith

  pub a_piece_makes_progress : is_done l ≡ false → 0 < (piece_of l (a ∷ rest) room).taken + length (piece_of l (a ∷ rest) room).text
  a_piece_makes_progress busy = moves (has_more l.line) refl l.ended busy (ltb room (waiting l.line)) refl

take_fits : (n : ℕ) (xs : List ℕ) → length (take n xs) ≤ n
take_fits zero xs = omega arith
take_fits (suc n) [] = omega arith
take_fits (suc n) (x ∷ xs) = omega (arith, take_fits n xs)

pub no_more_than_room : (input : List ℕ) (l : Listing) (room : ℕ) → length (piece_of l input room).text ≤ room
no_more_than_room [] l room = take_fits room _
no_more_than_room (a ∷ rest) l room =
    unless_stopped (cond l.ended true (ltb room (waiting l.line)))
    (no_more_than_room rest (absorbed (with_line l (unwritten l.line room)) a) (room - length (writes l.line room)))
  where
    unless_stopped : (t : Bool) → length (piece_of (absorbed (with_line l (unwritten l.line room)) a) rest (room - length (writes l.line room))).text ≤ room - length (writes l.line room) → length (cond t (flushed_only l room) (after_byte (writes l.line room) (piece_of (absorbed (with_line l (unwritten l.line room)) a) rest (room - length (writes l.line room))))).text ≤ room
    unless_stopped true few = take_fits room _
    unless_stopped false few =
        omega (arith, few, take_fits room (bytes_from l.line.bytes l.line.at (waiting l.line)), length-append (writes l.line room) (piece_of (absorbed (with_line l (unwritten l.line room)) a) rest (room - length (writes l.line room))).text)

-- the output begins with what was written
pub output_begins_with : (text output : List ℕ) → take (length text) (over text output) ≡ text
output_begins_with text output = take-append_seam text (drop (length text) output)
