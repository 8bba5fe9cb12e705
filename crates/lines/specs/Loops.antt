-- Loops over `read`, in the port's own words: what a caller has after a call, after calls that each offer all that is left,
-- and after a stream in blocks, as the program reads it.
use Rattle.std.specs.Prelude.{ℕ, ◌+◌, ◌<◌, true, ◌≡◌, drop, length, take}
use mathlib.Core.List.{List, [], ◌∷◌, ◌++◌, flatten}
use Rattle.lines.specs.Cutting.{Finished, Run, after_piece, cut_once}
use Rattle.lines.specs.Listing.{listing}
use Rattle.lines.specs.Pieces.{Piece, ended_listing, fresh_listing, is_done, read_listing, read_outcome, whole_piece}
use Rattle.lines.specs.declared.listing.Listing.{Listing}
use Rattle.lines.specs.declared.listing.Progress.{Progress}

-- after a call that answered so and left this output: what it wrote is kept, and what it did not take is left
abbrev pub called : Listing × Progress → List ℕ → Run → Run
called p output r = record {
  text = r.text ++ take p.1.written output;
  listing = p.0;
  left = drop p.1.taken r.left;
}

-- calls in a row as `read` promises them, each with any part of what is left and any output
pub data Calls : Run → Run → Type 0 where
  ends : {r : Run} → Calls r r
  calls : {r last : Run} (n : ℕ) (output : List ℕ) (p : Listing × Progress) (after : List ℕ) → read_outcome p after ≡ read_listing r.listing (take n r.left) output → Calls (called p after r) last → Calls r last

-- calls that each offer all that is left, by the room of their outputs
abbrev pub call_all : List ℕ → Run → Run
call_all [] r = r
call_all (room ∷ rooms) r = call_all rooms (cut_once (record { offered = length r.left; room = room }) r)

-- room for a byte in each
abbrev pub SomeRoom : List ℕ → Type 0
SomeRoom [] = Unit
SomeRoom (room ∷ rooms) = (0 < room) × SomeRoom rooms

-- one call with room for all
abbrev pub through : Run → Run
through r = after_piece r (whole_piece r.listing r.left)

-- so many calls come to the same: one for each byte of text that what is left still makes, and one
abbrev pub calls_left : Run → ℕ
calls_left r = length (whole_piece r.listing r.left).text + 1

-- the input ends, and no more is offered
abbrev pub closed : Run → Run
closed r = record { text = r.text; listing = ended_listing r.listing; left = [] }

-- A loop over an input, by what it has where the input is over and in the end: every byte is taken, unless the limit of
-- pairs has ended the listing; the listing is done; and its text was written.
pub record Completes (bytes : List ℕ) (read last : Run) : Type 0 where
  pub takes_all : Finished read
  pub ends_done : is_done last.listing ≡ true
  pub writes_all : last.text ≡ listing bytes

-- one piece after the other
abbrev pub joined : Piece → Piece → Piece
joined p q = record { taken = p.taken + q.taken; text = p.text ++ q.text; next = q.next }

-- a stream in blocks, each read through before the next
abbrev pub in_blocks : List (List ℕ) → Listing → Piece
in_blocks [] l = record { taken = 0; text = []; next = l }
in_blocks (b ∷ bs) l = joined (whole_piece l b) (in_blocks bs (whole_piece l b).next)

-- the state after a block that a program got; one of no bytes is the end of the stream
abbrev pub after_block : Listing → List ℕ → Listing
after_block l [] = (whole_piece (ended_listing l) []).next
after_block l (a ∷ rest) = (whole_piece l (a ∷ rest)).next

-- after these blocks and the end the listing is done, and what was written is the listing of all of them together
pub record CompletesInBlocks (blocks : List (List ℕ)) : Type 0 where
  pub ends_done : is_done (after_block (in_blocks blocks fresh_listing).next []) ≡ true
  pub writes_all : (in_blocks blocks fresh_listing).text ++ (whole_piece (ended_listing (in_blocks blocks fresh_listing).next) []).text ≡ listing (flatten blocks)
