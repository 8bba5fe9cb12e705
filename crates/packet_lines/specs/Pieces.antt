-- The same text in pieces, in the port's own words: what a byte and the end do to a state, and how much is taken. Any state
-- may be handed in; one that no call leaves goes on as it stands.
use Rattle.std.specs.Prelude.{Option, None, Some, ℕ, ◌+◌, ◌-◌, leb, ltb, length, Bool, true, false, cond, List, [], ◌∷◌, ◌++◌, ◌≡◌}
use Rattle.code.specs.Outcome.{Outcome, answer, refused}
use Rattle.code.specs.Pair.{pair}
use Rattle.extended.specs.Extended.{Report, event, nothing, packet}
use Rattle.extended.specs.State.{Step, fresh_state, report_of, step}
use Rattle.extended.specs.declared.state.ExtendedState.{ExtendedState}
use Rattle.lines.specs.Line.{over}
use Rattle.lines.specs.Listing.{most_pairs}
use Rattle.lines.specs.Pieces.{end_number, one_more}
use Rattle.lines.specs.Put.{Puts}
use Rattle.lines.specs.Words.{line, refused_words}
use Rattle.lines.specs.declared.listing.EndError.{EndError}
use Rattle.lines.specs.declared.put.Writer.{Writer}
use Rattle.packet_lines.specs.Words.{last_line, line_of}
use Rattle.packet_lines.specs.declared.listing.PacketListing.{PacketListing}
use Rattle.lines.specs.declared.listing.Progress.{Progress}

abbrev pub fresh_listing : PacketListing
fresh_listing = record { state = fresh_state; half = None; pairs = 0; packets = 0; refused = 0; ended = false }

-- one packet or one refusal more; a count beyond the limit of pairs, which no stream raises further, stays
abbrev pub count_packet : Outcome Report → ℕ → ℕ
count_packet (answer nothing) n = n
count_packet (answer (event e)) n = n
count_packet (answer (packet c t bs)) n = one_more n
count_packet (refused m) n = n

abbrev pub count_refusal : Outcome Report → ℕ → ℕ
count_refusal (answer r) q = q
count_refusal (refused m) q = one_more q

-- what a byte or the end does: the text that it makes, and the state after it
pub record Turn : Type 0 where
  pub text : List ℕ
  pub next : PacketListing

-- the stream ends with these words and the last line
abbrev pub closed : PacketListing → ℕ → PacketListing
closed l q = record {
  state = l.state;
  half = None;
  pairs = l.pairs;
  packets = l.packets;
  refused = q;
  ended = true;
}

abbrev pub ending : PacketListing → List ℕ → ℕ → Turn
ending l words q = record { text = words ++ last_line l.pairs l.packets q; next = closed l q }

abbrev pub refused_by : ℕ → PacketListing → Turn
refused_by m l = ending l (line l.pairs (refused_words m)) (one_more l.refused)

-- it ends by a refusal or by none
abbrev pub ended_by : Option EndError → PacketListing → Turn
ended_by None l = ending l [] l.refused
ended_by (Some e) l = refused_by (end_number e) l

-- the first byte of a pair
abbrev pub with_half : PacketListing → ℕ → PacketListing
with_half l a = record {
  state = l.state;
  half = Some a;
  pairs = l.pairs;
  packets = l.packets;
  refused = l.refused;
  ended = l.ended;
}

-- a whole pair, which gave this and left this state
abbrev pub counted : PacketListing → ExtendedState → Outcome Report → PacketListing
counted l s o = record {
  state = s;
  half = None;
  pairs = l.pairs + 1;
  packets = count_packet o l.packets;
  refused = count_refusal o l.refused;
  ended = l.ended;
}

abbrev pub of_pair : PacketListing → Step → Turn
of_pair l r = record { text = line_of l.pairs (report_of r.1); next = counted l r.0 (report_of r.1) }

abbrev pub by_half : PacketListing → Option ℕ → ℕ → Turn
by_half l None a = record { text = []; next = with_half l a }
by_half l (Some x) a = of_pair l (step l.state (pair x a))

unfoldable pub of_byte : PacketListing → ℕ → Turn
of_byte l a = cond (leb most_pairs l.pairs) (refused_by 10 l) (by_half l l.half a)

-- the end of the input: half a pair is refused 9, or 10 in its place at the limit
abbrev pub end_words : Option ℕ → ℕ → List ℕ
end_words None k = []
end_words (Some x) k = line k (refused_words (cond (leb most_pairs k) 10 9))

abbrev pub count_half : Option ℕ → ℕ → ℕ
count_half None q = q
count_half (Some x) q = one_more q

abbrev pub of_end : PacketListing → Turn
of_end l = ending l (end_words l.half l.pairs) (count_half l.half l.refused)

-- how much is taken: a byte only where there is room for any text that it can make, and none after the end
abbrev pub any_text : ℕ
any_text = 128

abbrev pub stops : PacketListing → ℕ → Bool
stops l room = cond l.ended true (ltb room any_text)

pub record Piece : Type 0 where
  pub taken : ℕ
  pub text : List ℕ
  pub next : PacketListing

-- nothing is taken and nothing said
abbrev pub stays : PacketListing → Piece
stays l = record { taken = 0; text = []; next = l }

-- a byte was taken, which did this
abbrev pub after_byte : Turn → Piece → Piece
after_byte t p = record { taken = p.taken + 1; text = t.text ++ p.text; next = p.next }

abbrev pub piece_of : PacketListing → List ℕ → ℕ → Piece
piece_of l [] room = stays l
piece_of l (a ∷ rest) room =
    cond (stops l room) (stays l)
    (after_byte (of_byte l a) (piece_of (of_byte l a).next rest (room - length (of_byte l a).text)))

-- the last lines, all or nothing
abbrev pub said_only : Turn → Piece
said_only t = record { taken = 0; text = t.text; next = t.next }

abbrev pub end_of : PacketListing → ℕ → Piece
end_of l room = cond (stops l room) (stays l) (said_only (of_end l))

-- how many bytes were taken and written, the state, and the output
abbrev pub Read : Type 0
Read = ℕ × ℕ × PacketListing × List ℕ

abbrev pub read_outcome : PacketListing × Progress → List ℕ → Read
read_outcome r output = (r.1.taken, r.1.written, r.0, output)

abbrev pub read_as : Piece → List ℕ → Read
read_as p output = (p.taken, length p.text, p.next, over p.text output)

unfoldable pub read_packets : PacketListing → List ℕ → List ℕ → Read
read_packets l input output = read_as (piece_of l input (length output)) output

unfoldable pub end_packets : PacketListing → List ℕ → Read
end_packets l output = read_as (end_of l (length output)) output

-- nothing more will come
abbrev pub is_done : PacketListing → Bool
is_done l = l.ended

-- For helpers: a turn's text was put, and its state is left.
pub record Says (t : Turn) (w : Writer) (now : PacketListing) (next : Writer) : Type 0 where
  pub puts : Puts w t.text next
  pub leaves : now ≡ t.next
