-- The listing in pieces, in the port's own words: what a byte and the end do to a state, and how much is taken and
-- written. Any state may be handed in; one that no call leaves is listed as it stands.
use Rattle.std.specs.Prelude.{ℕ, ◌+◌, ◌-◌, Bool, true, false, cond, List, [], ◌∷◌, ◌++◌, leb, ltb, length, Option, None, Some}
use Rattle.code.specs.Outcome.{Outcome, answer, refused}
use Rattle.code.specs.Pair.{pair}
use Rattle.event.specs.declared.event.Cea608.{Cea608}
use Rattle.lines.specs.Line.{empty_line, has_more, over, pending, says, unwritten, waiting, writes}
use Rattle.lines.specs.Listing.{most_pairs}
use Rattle.lines.specs.Words.{last_line, line, line_of, refused_words}
use Rattle.lines.specs.declared.line.Line.{Line}
use Rattle.lines.specs.declared.listing.EndError.{EndError}
use Rattle.lines.specs.declared.listing.EndError.TheVariants as end
use Rattle.lines.specs.declared.listing.Listing.{Listing}
use Rattle.lines.specs.declared.listing.Progress.{Progress}
use Rattle.receiver.specs.Receiver.{Stepped, fresh, step}
use Rattle.receiver.specs.declared.state.Cea608State.{Cea608State}

-- between two pairs, with nothing that waits
abbrev pub between_pairs : Cea608State → ℕ → ℕ → Listing
between_pairs s k q = record { receiver = s; half = None; pairs = k; refused = q; ended = false; line = empty_line }

abbrev pub fresh_listing : Listing
fresh_listing = between_pairs fresh 0 0

-- one refusal or one packet more; refusals come to at most one beyond the limit of pairs
abbrev pub one_more : ℕ → ℕ
one_more q = cond (leb q most_pairs) (q + 1) q

-- the same where there is one
abbrev pub one_more_if : Bool → ℕ → ℕ
one_more_if one q = cond one (one_more q) q

abbrev pub counted : Outcome (Option Cea608) → ℕ → ℕ
counted (answer e) q = q
counted (refused n) q = one_more q

-- the stream ends with these words and the last line
abbrev pub ending : Listing → Line → List ℕ → ℕ → Listing
ending l begun words q = record {
  receiver = l.receiver;
  half = None;
  pairs = l.pairs;
  refused = q;
  ended = true;
  line = says begun (words ++ last_line l.pairs q);
}

abbrev pub refused_by : ℕ → Listing → Line → Listing
refused_by n l begun = ending l begun (line l.pairs (refused_words n)) (one_more l.refused)

-- what refuses the end of a stream, by its number, and the stream ended by it or by nothing
abbrev pub end_number : EndError → ℕ
end_number end.HalfAPair = 9
end_number end.TooManyPairs = 10

abbrev pub ended_by : Option EndError → Listing → Line → Listing
ended_by None l begun = ending l begun [] l.refused
ended_by (Some e) l begun = refused_by (end_number e) l begun

-- half a pair at the end is one too many at the limit
abbrev pub end_refusal : Option ℕ → ℕ → Option EndError
end_refusal None k = None
end_refusal (Some a) k = Some (cond (leb most_pairs k) end.TooManyPairs end.HalfAPair)

abbrev pub with_half : Listing → ℕ → Listing
with_half l a = record {
  receiver = l.receiver;
  half = Some a;
  pairs = l.pairs;
  refused = l.refused;
  ended = l.ended;
  line = l.line;
}

-- the line of a pair waits
abbrev pub after_pair : Listing → Stepped → Listing
after_pair l r = record {
  receiver = r.1;
  half = None;
  pairs = l.pairs + 1;
  refused = counted r.0 l.refused;
  ended = l.ended;
  line = says empty_line (line_of l.pairs r.0);
}

abbrev pub with_byte : Listing → Option ℕ → ℕ → Listing
with_byte l None a = with_half l a
with_byte l (Some x) a = after_pair l (step l.receiver (pair x a))

-- a byte, where nothing waits to be written
unfoldable pub absorbed : Listing → ℕ → Listing
absorbed l a = cond (leb most_pairs l.pairs) (refused_by 10 l empty_line) (with_byte l l.half a)

-- the end of the input, after what waits
abbrev pub end_by : Listing → Option ℕ → Listing
end_by l None = ending l l.line [] l.refused
end_by l (Some x) = refused_by (cond (leb most_pairs l.pairs) 10 9) l l.line

unfoldable pub ended_listing : Listing → Listing
ended_listing l = cond l.ended l (end_by l l.half)

abbrev pub with_line : Listing → Line → Listing
with_line l x = record {
  receiver = l.receiver;
  half = l.half;
  pairs = l.pairs;
  refused = l.refused;
  ended = l.ended;
  line = x;
}

-- how much is taken and written: what waits goes first, and no byte is taken while some of it is left, or after the end
pub record Piece : Type 0 where
  pub taken : ℕ
  pub text : List ℕ
  pub next : Listing

abbrev pub stops : Listing → ℕ → Bool
stops l room = cond l.ended true (ltb room (waiting l.line))

abbrev pub flushed_only : Listing → ℕ → Piece
flushed_only l room = record { taken = 0; text = writes l.line room; next = with_line l (unwritten l.line room) }

-- a byte is taken, after this text was written
abbrev pub after_byte : List ℕ → Piece → Piece
after_byte written p = record { taken = p.taken + 1; text = written ++ p.text; next = p.next }

abbrev pub piece_of : Listing → List ℕ → ℕ → Piece
piece_of l [] room = flushed_only l room
piece_of l (a ∷ rest) room =
    cond (stops l room) (flushed_only l room)
    (after_byte (writes l.line room) (piece_of (absorbed (with_line l (unwritten l.line room)) a) rest (room - length (writes l.line room))))

-- the same with room for all: what waits is written, and each byte is taken unless the listing has ended
abbrev pub written_out : Listing → Piece
written_out l = record { taken = 0; text = pending l.line; next = with_line l empty_line }

abbrev pub whole_piece : Listing → List ℕ → Piece
whole_piece l [] = written_out l
whole_piece l (a ∷ rest) =
    cond l.ended (written_out l) (after_byte (pending l.line) (whole_piece (absorbed (with_line l empty_line) a) rest))

-- how many bytes were taken and written, the state, and the output
abbrev pub Read : Type 0
Read = ℕ × ℕ × Listing × List ℕ

abbrev pub read_outcome : Listing × Progress → List ℕ → Read
read_outcome r output = (r.1.taken, r.1.written, r.0, output)

abbrev pub read_as : Piece → List ℕ → Read
read_as p output = (p.taken, length p.text, p.next, over p.text output)

unfoldable pub read_listing : Listing → List ℕ → List ℕ → Read
read_listing l input output = read_as (piece_of l input (length output)) output

-- nothing more will come
abbrev pub is_done : Listing → Bool
is_done l = cond (has_more l.line) false l.ended
