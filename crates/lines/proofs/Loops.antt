-- A call of `read` is a cut, so that `any_cutting` holds of every caller's loop. And a loop that offers all that is left, with
-- room for a byte in each call, finishes: after as many calls as there are bytes to write, and one. So does a stream that is
-- read in blocks.
-- Assumes nothing.
use Rattle.std.specs.Prelude.{Option, None, Some}
use mathlib.Core.Bool.{Bool, true, false, cond}
use mathlib.Core.List.{List, [], ◌∷◌, ◌++◌, append_assoc, append-nil, flatten}
use mathlib.Core.Logic.{⊎_elim, inl, inr}
use mathlib.Core.Path.{◌≡◌, refl, ap, ap₂, subst, sym, ◌∙◌}
use Prim.Native.Nat.{ℕ, suc, ◌+◌, ◌≤◌, ◌<◌}
use native.Mathlib.Omega.{arith}
use borrow.Author.Tests.{ltb-false, ltb-true}
use lib.Dec.{ltb}
use lib.ListN.{drop, drop_of_length-le, length, length-append, take}
use lib.Seq.{drop-drop, take-length}
use Rattle.lines.proofs.AnyCutting.{any_cutting}
use Rattle.lines.proofs.ProgressLemmas.{output_begins_with}
use Rattle.lines.proofs.Whole.{all_taken, blocks_add_up, calls_add_up, nothing_left_lem, same_piece, through_if_not_full, with_room_for_all}
use Rattle.lines.specs.Cutting.{Cut, Finished, Run, after_piece, at_end, began, cut_all, cut_once}
use Rattle.lines.specs.Line.{empty_line, pending}
use Rattle.lines.specs.Listing.{listing}
use Rattle.lines.specs.Loops.{Calls, Completes, CompletesInBlocks, SomeRoom, call_all, called, calls_left, closed, in_blocks, joined, through}
use Rattle.lines.specs.Loops as loops
use Rattle.lines.specs.Pieces.{Piece, Read, end_by, ended_listing, fresh_listing, is_done, piece_of, read_listing, read_outcome, whole_piece, with_line, written_out}
use Rattle.lines.specs.declared.line.Line.{Line}
use Rattle.lines.specs.declared.listing.Listing.{Listing}
use Rattle.lines.specs.declared.listing.Progress.{Progress}

-- what a call promises is one cut
pub a_call_is_a_cut : (r : Run) (n : ℕ) (output : List ℕ) (p : Listing × Progress) (after : List ℕ) → read_outcome p after ≡ read_listing r.listing (take n r.left) output → called p after r ≡ cut_once (record { offered = n; room = length output }) r
unfolding read_listing
a_call_is_a_cut r n output p after promised =
    let piece = piece_of r.listing (take n r.left) (length output) in
    ap {B = Run} (λ (x : Read). record { text = r.text ++ take x.1 x.3; listing = x.2; left = drop x.0 r.left }) promised
    ∙ ap {B = Run} (λ (xs : List ℕ). record { text = r.text ++ xs; listing = piece.next; left = drop piece.taken r.left }) (output_begins_with piece.text output)

as_cuts : (r last : Run) → Calls r last → (cs : List Cut) × (last ≡ cut_all cs r)
as_cuts r last loops.ends = ([], refl)
as_cuts r last (loops.calls n output p after promised then) =
    let later = as_cuts (called p after r) last then in (
      record { offered = n; room = length output } ∷ later.0,
      later.1 ∙ ap (cut_all later.0) (a_call_is_a_cut r n output p after promised),
    )

-- so every loop of calls writes the listing: until the input is taken or the limit of pairs passed, and on from the end
-- until it is done
pub any_calls : (bytes : List ℕ) (read last : Run) → Calls (began fresh_listing bytes) read → Finished read → Calls (at_end read) last → is_done last.listing ≡ true → last.text ≡ listing bytes
any_calls bytes read last first finished then done =
    let cs = as_cuts (began fresh_listing bytes) read first in
    let ds = as_cuts (at_end read) last then in
    let ends = ds.1 ∙ ap (λ (r : Run). cut_all ds.0 (at_end r)) cs.1 in
    ap (λ (r : Run). r.text) ends
    ∙ any_cutting bytes cs.0 ds.0 (subst Finished cs.1 finished)
    (subst (λ (r : Run). is_done r.listing ≡ true) ends done)

-- one piece after the other
after_both : (r : Run) (p q : Piece) → after_piece (after_piece r p) q ≡ after_piece r (joined p q)
after_both r p q =
    ap₂ {C = Run} (λ (xs ys : List ℕ). record { text = xs; listing = q.next; left = ys }) (append_assoc r.text p.text q.text) (drop-drop q.taken p.taken r.left)

joined_twice : (p q w : Piece) → joined (joined p q) w ≡ joined p (joined q w)
joined_twice p q w = same_piece (omega arith) (append_assoc p.text q.text w.text) refl

-- a call that offers all that is left: all in all the same is still to come, in fewer calls
module _ (r : Run) (room : ℕ) where
  abbrev one : Piece
  one = piece_of r.listing r.left room

  abbrev rest : Piece
  rest = whole_piece one.next (drop one.taken r.left)

  all_offered : cut_once (record { offered = length r.left; room = room }) r ≡ after_piece r one
  all_offered = ap (λ (xs : List ℕ). after_piece r (piece_of r.listing xs room)) (take-length r.left)

  through_still : through (after_piece r one) ≡ through r
  through_still = after_both r one rest ∙ ap (after_piece r) (calls_add_up r.left r.listing room)

  text_of_both : length one.text + length rest.text ≡ length (whole_piece r.listing r.left).text
  text_of_both = sym (length-append one.text rest.text) ∙ ap (λ (p : Piece). length p.text) (calls_add_up r.left r.listing room)

  fewer_left : 0 < room → (k : ℕ) → calls_left r ≤ suc (suc k) → calls_left (after_piece r one) ≤ suc k
  fewer_left some k few = by_room (ltb (length one.text) room) refl
    where
      by_room : (t : Bool) → ltb (length one.text) room ≡ t → calls_left (after_piece r one) ≤ suc k
      by_room true less =
          let all = through_if_not_full r.left r.listing room (ltb-true (length one.text) room less) in
          omega (arith, text_of_both, ap (λ (p : Piece). length p.text) all)
      by_room false full = omega (arith, text_of_both, few, some, ltb-false (length one.text) room full)

-- from a state of any contents, with any input
pub enough_calls : (rooms : List ℕ) (r : Run) → SomeRoom rooms → calls_left r ≤ length rooms → call_all rooms r ≡ through r
enough_calls [] r some few = absurd (omega (arith, few))
enough_calls (room ∷ []) r some few =
    all_offered r room
    ∙ ap (after_piece r) (with_room_for_all r.left r.listing room (omega (arith, few, some.0)))
enough_calls (room ∷ next ∷ rooms) r some few =
    ap (call_all (next ∷ rooms)) (all_offered r room)
    ∙ enough_calls (next ∷ rooms) (after_piece r (one r room)) some.1 (fewer_left r room some.0 (length rooms) few)
    ∙ through_still r room

pub end_is_ended : (l : Listing) → (ended_listing l).ended ≡ true
unfolding ended_listing
end_is_ended l = by_ended l.ended refl l.half
  where
    by_ended : (t : Bool) → l.ended ≡ t → (h : Option ℕ) → (cond t l (end_by l h)).ended ≡ true
    by_ended true e h = e
    by_ended false e None = refl
    by_ended false e (Some x) = refl

-- of a whole input: in one call, and one more after its end
module _ (bytes : List ℕ) where
  abbrev start : Run
  start = began fresh_listing bytes

  abbrev whole : Piece
  whole = whole_piece fresh_listing bytes

  abbrev ended : Listing
  ended = ended_listing whole.next

  finished : Finished (through start)
  finished =
      ⊎_elim
      (λ (all : whole.taken ≡ length bytes). inl (drop_of_length-le bytes {i = whole.taken} (omega (arith, all))))
      inr (all_taken bytes fresh_listing)

  -- as cuts
  abbrev first_cut : Cut
  first_cut = record { offered = length bytes; room = suc (length whole.text) }

  abbrev last_cut : Cut
  last_cut = record { offered = 0; room = suc (length (pending ended.line)) }

  abbrev after_end : Run → Run
  after_end r = cut_all (last_cut ∷ []) (at_end r)

  read_so : cut_all (first_cut ∷ []) start ≡ through start
  read_so =
      all_offered start (suc (length whole.text))
      ∙ ap (after_piece start) (with_room_for_all bytes fresh_listing (suc (length whole.text)) (omega arith))

  last_so : after_end (through start) ≡ after_piece (at_end (through start)) (written_out ended)
  last_so = ap (after_piece (at_end (through start))) (with_room_for_all [] ended (suc (length (pending ended.line))) (omega arith))

  done_so : is_done (after_end (through start)).listing ≡ true
  done_so = ap (λ (r : Run). is_done r.listing) last_so ∙ end_is_ended whole.next

  in_one_go : whole.text ++ pending ended.line ≡ listing bytes
  in_one_go =
      sym (ap (λ (r : Run). r.text) last_so)
      ∙ sym (ap (λ (r : Run). (after_end r).text) read_so)
      ∙ any_cutting bytes (first_cut ∷ []) (last_cut ∷ []) (subst Finished (sym read_so) finished)
      (subst (λ (r : Run). is_done (after_end r).listing ≡ true) (sym read_so) done_so)

  lengths : length whole.text + length (pending ended.line) ≡ length (listing bytes)
  lengths = sym (length-append whole.text (pending ended.line)) ∙ ap length in_one_go

  -- more calls than the text has bytes are enough, and as many again after the end
  pub a_loop_finishes : (rooms ends : List ℕ) → SomeRoom rooms → SomeRoom ends → length (listing bytes) < length rooms → length (listing bytes) < length ends → Completes bytes (call_all rooms start) (call_all ends (closed (call_all rooms start)))
  a_loop_finishes rooms ends some then_some many then_many =
      let read = enough_calls rooms start some (omega (arith, many, lengths)) in
      let last = enough_calls ends (closed (through start)) then_some (omega (arith, then_many, lengths)) in
      subst (λ (r : Run). Completes bytes r (call_all ends (closed r))) (sym read)
      (record {
        takes_all = finished;
        ends_done = ap (λ (r : Run). is_done r.listing) last ∙ end_is_ended whole.next;
        writes_all = ap (λ (r : Run). r.text) last ∙ in_one_go;
      })

-- in blocks, as in one
in_blocks_lem : (blocks : List (List ℕ)) (l : Listing) → joined (in_blocks blocks l) (written_out (in_blocks blocks l).next) ≡ whole_piece l (flatten blocks)
unfolding flatten
in_blocks_lem [] l = refl
in_blocks_lem (b ∷ bs) l =
    let p = whole_piece l b in
    let q = in_blocks bs p.next in
    joined_twice p q (written_out q.next)
    ∙ ap (joined p) (in_blocks_lem bs p.next)
    ∙ blocks_add_up b (flatten bs) l

nothing_waits : (blocks : List (List ℕ)) (l : Listing) → l.line ≡ empty_line → (in_blocks blocks l).next.line ≡ empty_line
nothing_waits [] l empty = empty
nothing_waits (b ∷ bs) l empty = nothing_waits bs (whole_piece l b).next (nothing_left_lem b l)

-- a stream that is read in blocks, and then ended
pub read_in_blocks : (blocks : List (List ℕ)) → CompletesInBlocks blocks
read_in_blocks blocks =
    let p = in_blocks blocks fresh_listing in
    let together = in_blocks_lem blocks fresh_listing in
    let empty = nothing_waits blocks fresh_listing refl in
    let text : p.text ≡ (whole_piece fresh_listing (flatten blocks)).text = sym (append-nil p.text) ∙ ap (λ (x : Line). p.text ++ pending x) (sym empty) ∙ ap (λ (q : Piece). q.text) together in
    let next : p.next ≡ (whole_piece fresh_listing (flatten blocks)).next = ap (with_line p.next) empty ∙ ap (λ (q : Piece). q.next) together in
    record {
      ends_done = end_is_ended p.next;
      writes_all =
          ap₂ (λ (xs : List ℕ) (l : Listing). xs ++ pending (ended_listing l).line) text next
          ∙ in_one_go (flatten blocks);
    }
