-- The listing of a stream that comes in pieces of any size and goes into outputs of any size: what is not taken is
-- offered again, and what was not written waits. The port's own words.
use Rattle.std.specs.Prelude.{Option, None, Some, ℕ, true, cond, List, [], ◌∷◌, ◌++◌, ◌⊎◌, ◌≡◌, drop, take}
use Rattle.lines.specs.Line.{pending}
use Rattle.lines.specs.Listing.{list_from}
use Rattle.lines.specs.Pieces.{Piece, ended_listing, piece_of}
use Rattle.lines.specs.declared.listing.Listing.{Listing}

-- the first byte of a pair whose second has not come
abbrev pub half_bytes : Option ℕ → List ℕ
half_bytes None = []
half_bytes (Some a) = a ∷ []

-- what a state has still to write, with the input that is left
abbrev pub says_yet : Listing → List ℕ → List ℕ
says_yet l input =
    pending l.line ++ cond l.ended [] (list_from l.receiver l.pairs l.refused (half_bytes l.half ++ input))

-- a cut: how many bytes of what is left are offered, and how many can be written
pub record Cut : Type 0 where
  pub offered : ℕ
  pub room : ℕ

-- what was written so far, the state, and what is left of the input
pub record Run : Type 0 where
  pub text : List ℕ
  pub listing : Listing
  pub left : List ℕ

abbrev pub began : Listing → List ℕ → Run
began l input = record { text = []; listing = l; left = input }

abbrev pub after_piece : Run → Piece → Run
after_piece r p = record { text = r.text ++ p.text; listing = p.next; left = drop p.taken r.left }

abbrev pub cut_once : Cut → Run → Run
cut_once c r = after_piece r (piece_of r.listing (take c.offered r.left) c.room)

abbrev pub cut_all : List Cut → Run → Run
cut_all [] r = r
cut_all (c ∷ cs) r = cut_all cs (cut_once c r)

-- the end of the input, once nothing is left of it
abbrev pub at_end : Run → Run
at_end r = record { text = r.text; listing = ended_listing r.listing; left = r.left }

-- nothing is left of the input, or the limit of pairs has ended the listing by itself
abbrev pub Finished : Run → Type 0
Finished r = (r.left ≡ []) ⊎ (r.listing.ended ≡ true)
