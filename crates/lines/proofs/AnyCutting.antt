-- Whatever the cutting of the input and whatever the room of the outputs, the pieces that are written are together the
-- definition's text: what a state has still to write is the same before a piece and after it, but for what the piece
-- wrote. An output without room loses nothing.
-- Assumes nothing.
use mathlib.Core.Bool.{Bool, true, false, cond, true≢false}
use mathlib.Core.List.{List, [], ◌∷◌, ◌++◌, append_assoc, append-nil}
use mathlib.Core.Logic.{⊎_elim}
use Rattle.std.specs.Prelude.{Option, None, Some}
use mathlib.Core.Path.{◌≡◌, refl, ap, ap₂, sym, subst, ◌∙◌}
use Prim.Native.Nat.{ℕ, zero, suc, ◌+◌, ◌-◌, ◌≤◌, ◌<◌}
use native.Mathlib.Omega.{arith}
use borrow.Author.Tests.{leb-false, le-leb, lt-leb, ltb-false, ltb-true}
use lib.Dec.{leb, ltb}
use lib.ListN.{drop, length, take, take-append-drop}
use Rattle.code.specs.Outcome.{Outcome, answer, refused}
use Rattle.code.specs.Pair.{pair}
use Rattle.event.specs.declared.event.Cea608.{Cea608}
use Rattle.lines.proofs.Bounds.{ending_short, last_line_short, nine_short, pair_fits, ten_short}
use Rattle.lines.proofs.Memory.{Begun, all_said, empty_begun, waiting_is, written_and_waiting}
use Rattle.lines.proofs.Waiting.{empty_where_no_more}
use Rattle.lines.specs.Cutting.{Cut, Finished, Run, at_end, began, cut_all, cut_once, half_bytes, says_yet}
use Rattle.lines.specs.Line.{bytes_from, empty_line, has_more, pending, says, unwritten, waiting, writes}
use Rattle.lines.specs.Listing.{ends_refused, list_from, listing, most_pairs, refusals}
use Rattle.lines.specs.Pieces.{Piece, absorbed, after_pair, after_byte, counted, end_by, ended_listing, ending, flushed_only, fresh_listing, is_done, one_more, piece_of, refused_by, stops, with_byte, with_half, with_line}
use Rattle.lines.specs.Words.{last_line, line, line_of, refused_words}
use Rattle.lines.specs.declared.line.Line.{Line}
use Rattle.lines.specs.declared.listing.Listing.{Listing}
use Rattle.receiver.specs.Receiver.{step}
use Rattle.receiver.specs.declared.state.Cea608State.{Cea608State}

-- a state that calls leave of a fresh one. Where it has not ended, its counts are those of a stream within the limit,
-- and there is room for the last lines after what waits
record Open (l : Listing) : Type 0 where
  pairs : l.pairs ≤ most_pairs
  refused : l.refused ≤ l.pairs
  begun : Begun l.line
  ahead : l.line.at ≤ l.line.len
  short : l.line.len ≤ 42

abbrev Sound : Listing → Type 0
Sound l = (l.ended ≡ false) → Open l

-- a state that has not ended has still to write what waits, and the listing of the rest
open_says : (l : Listing) (input : List ℕ) → l.ended ≡ false → says_yet l input ≡ pending l.line ++ list_from l.receiver l.pairs l.refused (half_bytes l.half ++ input)
open_says l input e = ap (λ (t : Bool). pending l.line ++ cond t [] (list_from l.receiver l.pairs l.refused (half_bytes l.half ++ input))) e

-- nothing waits where the number is 0
none_waits : (l : Line) → waiting l ≡ 0 → pending l ≡ []
none_waits l e = ap (bytes_from l.bytes l.at) e

pub one_more_lem : (q : ℕ) → q ≤ most_pairs → one_more q ≡ q + 1
one_more_lem q few = rw (le-leb q most_pairs few) refl

-- a refusal counts as one
counts : (o : Outcome (Option Cea608)) (q : ℕ) → q ≤ most_pairs → counted o q ≡ q + refusals o
counts (answer e) q few = omega arith
counts (refused n) q few = one_more_lem q few

-- the last lines, put after what waits, wait too
module _ (l : Listing) (begun : Line) (good : Begun begun) (ahead : begun.at ≤ begun.len) (room : begun.len ≤ 42) where
  ended_says : (words : List ℕ) (q : ℕ) (input : List ℕ) → length (words ++ last_line l.pairs q) ≤ 54 → says_yet (ending l begun words q) input ≡ pending begun ++ (words ++ last_line l.pairs q)
  ended_says words q input short =
      let all = words ++ last_line l.pairs q in
      append-nil (pending (says begun all)) ∙ (all_said all begun good ahead (omega (arith, short, room))).waits

  refused_says : (n : ℕ) (input : List ℕ) → l.pairs ≤ most_pairs → l.refused ≤ most_pairs → length (refused_words n) ≤ 10 → says_yet (refused_by n l begun) input ≡ pending begun ++ ends_refused n l.pairs l.refused
  refused_says n input few less short =
      let q = one_more_lem l.refused less in
      let fits = ending_short n l.pairs l.refused short (omega (arith, few)) (omega (arith, less)) in
      ended_says (line l.pairs (refused_words n)) (one_more l.refused) input
      (subst (λ (k : ℕ). length (line l.pairs (refused_words n) ++ last_line l.pairs k) ≤ 54) (sym q) fits)
      ∙ ap (λ (k : ℕ). pending begun ++ (line l.pairs (refused_words n) ++ last_line l.pairs k)) q

-- at the limit one byte more is refused, whatever comes after it
at_the_limit : (s : Cea608State) (k q a : ℕ) (rest : List ℕ) → leb most_pairs k ≡ true → list_from s k q (a ∷ rest) ≡ ends_refused 10 k q
at_the_limit s k q a [] e = rw e refl
at_the_limit s k q a (b ∷ rest) e = rw e refl

-- a byte, where nothing waits: what is still to write is the same
module _ (l : Listing) (on : l.ended ≡ false) (o : Open l) (quiet : pending l.line ≡ []) where
  limit_says : (h : Option ℕ) (a : ℕ) (rest : List ℕ) → leb most_pairs l.pairs ≡ true → list_from l.receiver l.pairs l.refused (half_bytes h ++ (a ∷ rest)) ≡ ends_refused 10 l.pairs l.refused
  limit_says None a rest e = at_the_limit l.receiver l.pairs l.refused a rest e
  limit_says (Some x) a rest e = at_the_limit l.receiver l.pairs l.refused x (a ∷ rest) e

  pair_says : (x a : ℕ) (rest : List ℕ) → l.pairs < most_pairs → list_from l.receiver l.pairs l.refused (x ∷ a ∷ rest) ≡ says_yet (after_pair l (step l.receiver (pair x a))) rest
  pair_says x a rest less =
      let r = step l.receiver (pair x a) in
      let the_line = line_of l.pairs r.0 in
      let fits = pair_fits l.receiver (pair x a) l.pairs less in
      let waits = (all_said the_line empty_line empty_begun (omega arith) (omega (arith, fits))).waits in
      let below : leb most_pairs l.pairs ≡ false = lt-leb most_pairs l.pairs less in
      rw below
      (ap₂ (λ (xs : List ℕ) (q : ℕ). xs ++ list_from r.1 (l.pairs + 1) q rest) (sym waits) (sym (counts r.0 l.refused (omega (arith, o.refused, less))))
      ∙ sym (open_says (after_pair l r) rest on))

  byte_says : (h : Option ℕ) (a : ℕ) (rest : List ℕ) → leb most_pairs l.pairs ≡ false → list_from l.receiver l.pairs l.refused (half_bytes h ++ (a ∷ rest)) ≡ says_yet (with_byte l h a) rest
  byte_says None a rest e =
      sym (open_says (with_half l a) rest on ∙ ap (λ (xs : List ℕ). xs ++ list_from l.receiver l.pairs l.refused (a ∷ rest)) quiet)
  byte_says (Some x) a rest e = pair_says x a rest (leb-false most_pairs l.pairs e)

  absorbed_by : (t : Bool) → leb most_pairs l.pairs ≡ t → (a : ℕ) (rest : List ℕ) → list_from l.receiver l.pairs l.refused (half_bytes l.half ++ (a ∷ rest)) ≡ says_yet (cond t (refused_by 10 l empty_line) (with_byte l l.half a)) rest
  absorbed_by true e a rest =
      limit_says l.half a rest e
      ∙ sym (refused_says l empty_line empty_begun (omega arith) (omega arith) 10 rest o.pairs (omega (arith, o.pairs, o.refused)) ten_short)
  absorbed_by false e a rest = byte_says l.half a rest e

  a_byte_says_the_same : (a : ℕ) (rest : List ℕ) → says_yet l (a ∷ rest) ≡ says_yet (absorbed l a) rest
  unfolding absorbed
  a_byte_says_the_same a rest =
      open_says l (a ∷ rest) on
      ∙ ap (λ (xs : List ℕ). xs ++ list_from l.receiver l.pairs l.refused (half_bytes l.half ++ (a ∷ rest))) quiet
      ∙ absorbed_by (leb most_pairs l.pairs) refl a rest

-- an absorbed byte leaves a sound state
half_open : (l : Listing) → Open l → (a : ℕ) → Open (with_half l a)
half_open l o a = record {
  pairs = o.pairs;
  refused = o.refused;
  begun = o.begun;
  ahead = o.ahead;
  short = o.short;
}

few_refusals : (o : Outcome (Option Cea608)) → refusals o ≤ 1
few_refusals (answer e) = omega arith
few_refusals (refused n) = omega arith

pair_open : (l : Listing) → Open l → (x a : ℕ) → l.pairs < most_pairs → Open (after_pair l (step l.receiver (pair x a)))
pair_open l o x a less =
    let r = step l.receiver (pair x a) in
    let the_line = line_of l.pairs r.0 in
    let fits = pair_fits l.receiver (pair x a) l.pairs less in
    let holds = all_said the_line empty_line empty_begun (omega arith) (omega (arith, fits)) in
    record {
      pairs = omega (arith, less);
      refused = omega (arith, counts r.0 l.refused (omega (arith, o.refused, less)), few_refusals r.0, o.refused);
      begun = holds.begun;
      ahead = omega (arith, holds.at, holds.len);
      short = omega (arith, holds.len, fits);
    }

byte_open : (l : Listing) → Open l → (h : Option ℕ) (a : ℕ) → leb most_pairs l.pairs ≡ false → Open (with_byte l h a)
byte_open l o None a e = half_open l o a
byte_open l o (Some x) a e = pair_open l o x a (leb-false most_pairs l.pairs e)

absorbed_sound : (l : Listing) → Open l → (a : ℕ) → Sound (absorbed l a)
unfolding absorbed
absorbed_sound l o a = by_limit (leb most_pairs l.pairs) refl
  where
    by_limit : (t : Bool) → leb most_pairs l.pairs ≡ t → Sound (cond t (refused_by 10 l empty_line) (with_byte l l.half a))
    by_limit true e on = absurd (true≢false on)
    by_limit false e on = byte_open l o l.half a e

-- what is written, and what is then still to write
flush_says : (l : Listing) (room : ℕ) (input : List ℕ) → says_yet l input ≡ writes l.line room ++ says_yet (with_line l (unwritten l.line room)) input
flush_says l room input =
    let rest = cond l.ended [] (list_from l.receiver l.pairs l.refused (half_bytes l.half ++ input)) in
    ap (λ (xs : List ℕ). xs ++ rest) (written_and_waiting l.line room)
    ∙ append_assoc (writes l.line room) (pending (unwritten l.line room)) rest

flushed_open : (l : Listing) (room : ℕ) → Open l → Open (with_line l (unwritten l.line room))
flushed_open l room o = by_room (ltb room (waiting l.line)) refl
  where
    by_room : (t : Bool) → ltb room (waiting l.line) ≡ t → Open (with_line l (cond t (record { bytes = l.line.bytes; at = l.line.at + room; len = l.line.len }) empty_line))
    by_room true more = record {
      pairs = o.pairs;
      refused = o.refused;
      begun = record { places = o.begun.places; inside = o.begun.inside };
      ahead = omega (arith, ltb-true room (waiting l.line) more, waiting_is l.line o.begun.inside);
      short = o.short;
    }
    by_room false none = record {
      pairs = o.pairs;
      refused = o.refused;
      begun = empty_begun;
      ahead = omega arith;
      short = omega arith;
    }

-- nothing waits once all of it was written
all_written : (l : Line) (room : ℕ) → ltb room (waiting l) ≡ false → pending (unwritten l room) ≡ []
all_written l room none = ap pending (empty_where_no_more l room none)

-- one piece: what was still to write is what the piece wrote, then what is still to write with the input not taken
abbrev Goes : Listing → List ℕ → List ℕ → Piece → Type 0
Goes l input more p = (says_yet l (input ++ more) ≡ p.text ++ says_yet p.next (drop p.taken input ++ more)) × Sound p.next

only_flushed : (l : Listing) → Sound l → (input more : List ℕ) (room : ℕ) → Goes l input more (flushed_only l room)
only_flushed l sound input more room = (
  flush_says l room (input ++ more),
  λ (on : l.ended ≡ false). flushed_open l room (sound on),
)

pub drop_more : (n a : ℕ) (rest : List ℕ) → drop (n + 1) (a ∷ rest) ≡ drop n rest
drop_more n a rest =
    let more : n + 1 ≡ suc n = omega arith in
    ap (λ (k : ℕ). drop k (a ∷ rest)) more

module _ (l : Listing) (sound : Sound l) (a : ℕ) (rest more : List ℕ) (room : ℕ) where
  abbrev flushed : Listing
  flushed = with_line l (unwritten l.line room)

  abbrev later : Piece
  later = piece_of (absorbed flushed a) rest (room - length (writes l.line room))

  goes_on_lem : l.ended ≡ false → ltb room (waiting l.line) ≡ false → Goes (absorbed flushed a) rest more later → Goes l (a ∷ rest) more (after_byte (writes l.line room) later)
  goes_on_lem on fits next = (
    flush_says l room (a ∷ (rest ++ more))
        ∙ ap (λ (xs : List ℕ). writes l.line room ++ xs)
        (a_byte_says_the_same flushed on (flushed_open l room (sound on)) (all_written l.line room fits) a (rest ++ more)
        ∙ next.0)
        ∙ sym (append_assoc (writes l.line room) later.text (says_yet later.next (drop later.taken rest ++ more)))
        ∙ ap (λ (xs : List ℕ). (writes l.line room ++ later.text) ++ says_yet later.next (xs ++ more)) (sym (drop_more later.taken a rest)),
    next.1,
  )

  unless_stopped : (ended : Bool) → l.ended ≡ ended → (full : Bool) → ltb room (waiting l.line) ≡ full → (l.ended ≡ false → Goes (absorbed flushed a) rest more later) → Goes l (a ∷ rest) more (cond (cond ended true full) (flushed_only l room) (after_byte (writes l.line room) later))
  unless_stopped true e full f next = only_flushed l sound (a ∷ rest) more room
  unless_stopped false e true f next = only_flushed l sound (a ∷ rest) more room
  unless_stopped false e false f next = goes_on_lem e f (next e)

a_piece_says_the_same : (input : List ℕ) (l : Listing) → Sound l → (more : List ℕ) (room : ℕ) → Goes l input more (piece_of l input room)
a_piece_says_the_same [] l sound more room = only_flushed l sound [] more room
a_piece_says_the_same (a ∷ rest) l sound more room =
    unless_stopped l sound a rest more room l.ended refl (ltb room (waiting l.line)) refl
    (λ (on : l.ended ≡ false).
    a_piece_says_the_same rest (absorbed (with_line l (unwritten l.line room)) a)
    (absorbed_sound (with_line l (unwritten l.line room)) (flushed_open l room (sound on)) a) more (room - length (writes l.line room)))

-- the end of the input keeps what is still to write
end_by_lem : (l : Listing) → Open l → (h : Option ℕ) → pending l.line ++ list_from l.receiver l.pairs l.refused (half_bytes h ++ []) ≡ says_yet (end_by l h) []
end_by_lem l o None =
    let short = last_line_short l.pairs l.refused (omega (arith, o.pairs)) (omega (arith, o.pairs, o.refused)) in
    sym (ended_says l l.line o.begun o.ahead o.short [] l.refused [] short)
end_by_lem l o (Some x) = by_limit (leb most_pairs l.pairs)
  where
    refused_by_lem : (n : ℕ) → length (refused_words n) ≤ 10 → pending l.line ++ ends_refused n l.pairs l.refused ≡ says_yet (refused_by n l l.line) []
    refused_by_lem n short =
        sym (refused_says l l.line o.begun o.ahead o.short n [] o.pairs (omega (arith, o.pairs, o.refused)) short)

    by_limit : (t : Bool) → pending l.line ++ cond t (ends_refused 10 l.pairs l.refused) (ends_refused 9 l.pairs l.refused) ≡ says_yet (refused_by (cond t 10 9) l l.line) []
    by_limit true = refused_by_lem 10 ten_short
    by_limit false = refused_by_lem 9 (omega (arith, nine_short))

the_end_says_the_same : (l : Listing) → Sound l → says_yet l [] ≡ says_yet (ended_listing l) []
unfolding ended_listing
the_end_says_the_same l sound = by_ended l.ended refl
  where
    by_ended : (t : Bool) → l.ended ≡ t → says_yet l [] ≡ says_yet (cond t l (end_by l l.half)) []
    by_ended true e = refl
    by_ended false e = open_says l [] e ∙ end_by_lem l (sound e) l.half

-- what every run keeps: what it wrote, then what its state has still to write, is the listing of the whole
record Kept (bytes : List ℕ) (r : Run) : Type 0 where
  sound : Sound r.listing
  text : listing bytes ≡ r.text ++ says_yet r.listing r.left

fresh_open : Open fresh_listing
fresh_open = record { pairs = omega arith; refused = omega arith; begun = empty_begun; ahead = omega arith; short = omega arith }

began_kept : (bytes : List ℕ) → Kept bytes (began fresh_listing bytes)
unfolding listing
began_kept bytes = record { sound = λ (on : false ≡ false). fresh_open; text = refl }

-- bytes taken of those offered are taken of all that are left
pub offered_first : (taken n : ℕ) (xs : List ℕ) → taken ≤ length (take n xs) → drop taken (take n xs) ++ drop n xs ≡ drop taken xs
offered_first zero n xs few = take-append-drop n xs
offered_first (suc k) zero xs few = absurd (omega (arith, few))
offered_first (suc k) (suc n) [] few = absurd (omega (arith, few))
offered_first (suc k) (suc n) (x ∷ xs) few = offered_first k n xs (omega (arith, few))

pub no_more_than_offered : (input : List ℕ) (l : Listing) (room : ℕ) → (piece_of l input room).taken ≤ length input
no_more_than_offered [] l room = omega arith
no_more_than_offered (a ∷ rest) l room =
    unless_stopped' (stops l room) (no_more_than_offered rest (absorbed (with_line l (unwritten l.line room)) a) (room - length (writes l.line room)))
  where
    unless_stopped' : (t : Bool) → (piece_of (absorbed (with_line l (unwritten l.line room)) a) rest (room - length (writes l.line room))).taken ≤ length rest → (cond t (flushed_only l room) (after_byte (writes l.line room) (piece_of (absorbed (with_line l (unwritten l.line room)) a) rest (room - length (writes l.line room))))).taken ≤ suc (length rest)
    unless_stopped' true few = omega arith
    unless_stopped' false few = omega (arith, few)

cut_kept : (bytes : List ℕ) (c : Cut) (r : Run) → Kept bytes r → Kept bytes (cut_once c r)
cut_kept bytes c r k =
    let offered = take c.offered r.left in
    let p = piece_of r.listing offered c.room in
    let goes = a_piece_says_the_same offered r.listing k.sound (drop c.offered r.left) c.room in
    let left = offered_first p.taken c.offered r.left (no_more_than_offered offered r.listing c.room) in
    record {
      sound = goes.1;
      text =
          k.text
          ∙ ap (λ (xs : List ℕ). r.text ++ xs)
          (ap (says_yet r.listing) (sym (take-append-drop c.offered r.left))
          ∙ goes.0
          ∙ ap (λ (xs : List ℕ). p.text ++ says_yet p.next xs) left)
          ∙ sym (append_assoc r.text p.text (says_yet p.next (drop p.taken r.left)));
    }

cuts_kept : (bytes : List ℕ) (cs : List Cut) (r : Run) → Kept bytes r → Kept bytes (cut_all cs r)
cuts_kept bytes [] r k = k
cuts_kept bytes (c ∷ cs) r k = cuts_kept bytes cs (cut_once c r) (cut_kept bytes c r k)

-- the end of the input, where nothing is left of it, or where the limit of pairs has ended the listing by itself
ended_again : (l : Listing) → l.ended ≡ true → ended_listing l ≡ l
unfolding ended_listing
ended_again l e = rw e refl

end_sound : (l : Listing) → Sound (ended_listing l)
unfolding ended_listing
end_sound l = by_ended l.ended refl l.half
  where
    by_ended : (t : Bool) → l.ended ≡ t → (h : Option ℕ) → Sound (cond t l (end_by l h))
    by_ended true e h on = absurd (true≢false (sym e ∙ on))
    by_ended false e None on = absurd (true≢false on)
    by_ended false e (Some x) on = absurd (true≢false on)

end_kept : (bytes : List ℕ) (r : Run) → Finished r → Kept bytes r → Kept bytes (at_end r)
end_kept bytes r finished k = record {
  sound = end_sound r.listing;
  text =
      k.text
      ∙ ap (λ (xs : List ℕ). r.text ++ xs)
      (⊎_elim
      (λ (e : r.left ≡ []).
      ap (says_yet r.listing) e ∙ the_end_says_the_same r.listing k.sound ∙ ap (says_yet (ended_listing r.listing)) (sym e))
      (λ (e : r.listing.ended ≡ true). ap (λ (l : Listing). says_yet l r.left) (sym (ended_again r.listing e)))
      finished);
}

-- a listing that is done has nothing more to write
done_is_silent : (l : Listing) (input : List ℕ) → is_done l ≡ true → says_yet l input ≡ []
done_is_silent l input done = by_line (has_more l.line) refl l.ended refl done
  where
    by_line : (more : Bool) → has_more l.line ≡ more → (ended : Bool) → l.ended ≡ ended → cond more false ended ≡ true → says_yet l input ≡ []
    by_line true m ended e d = absurd (true≢false (sym d))
    by_line false m false e d = absurd (true≢false (sym d))
    by_line false m true e d =
        let quiet = none_waits l.line (omega (arith, ltb-false 0 (waiting l.line) m)) in
        ap₂ (λ (xs : List ℕ) (t : Bool). xs ++ cond t [] (list_from l.receiver l.pairs l.refused (half_bytes l.half ++ input))) quiet e

-- the theorem: read in any pieces into outputs of any size, ended where the input ends or the limit is passed, and read on
-- until it is done, the listing writes the definition's text, no byte lost and none repeated
pub any_cutting : (bytes : List ℕ) (cs ds : List Cut) → Finished (cut_all cs (began fresh_listing bytes)) → is_done (cut_all ds (at_end (cut_all cs (began fresh_listing bytes)))).listing ≡ true → (cut_all ds (at_end (cut_all cs (began fresh_listing bytes)))).text ≡ listing bytes
any_cutting bytes cs ds finished done =
    let read = cut_all cs (began fresh_listing bytes) in
    let last = cut_all ds (at_end read) in
    let kept = cuts_kept bytes ds (at_end read) (end_kept bytes read finished (cuts_kept bytes cs (began fresh_listing bytes) (began_kept bytes))) in
    sym (kept.text ∙ ap (λ (xs : List ℕ). last.text ++ xs) (done_is_silent last.listing last.left done) ∙ append-nil last.text)
