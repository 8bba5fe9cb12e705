-- A call that has room for all of its text: what it takes and leaves, and that any call, with the rest after it, comes to the
-- same. So does one call whose output is not full.
-- Assumes nothing.
use mathlib.Core.Bool.{Bool, true, false, cond, true≢false}
use mathlib.Core.List.{List, [], ◌∷◌, ◌++◌, append_assoc, append-nil}
use mathlib.Core.Logic.{◌⊎◌, inl, inr, ⊎_elim}
use mathlib.Core.Path.{◌≡◌, refl, ap, ap₂, sym, ◌∙◌}
use Prim.Native.Nat.{ℕ, suc, ◌-◌, ◌<◌}
use native.Mathlib.Omega.{arith}
use borrow.Author.Tests.{le-ltb, ltb-false, ltb-true}
use lib.Dec.{ltb}
use lib.ListN.{drop, length, length-append, length-take}
use lib.Seq.{take_all}
use Rattle.lines.proofs.AnyCutting.{drop_more}
use Rattle.lines.proofs.Memory.{written_and_waiting}
use Rattle.lines.proofs.Waiting.{empty_where_no_more, how_many_lem}
use Rattle.lines.specs.Line.{empty_line, pending, unwritten, waiting, writes}
use Rattle.lines.specs.Loops.{joined}
use Rattle.lines.specs.Pieces.{Piece, absorbed, after_byte, flushed_only, piece_of, stops, whole_piece, with_line, written_out}
use Rattle.lines.specs.declared.line.Line.{Line}
use Rattle.lines.specs.declared.listing.Listing.{Listing}

pub same_piece : {p q : Piece} → p.taken ≡ q.taken → p.text ≡ q.text → p.next ≡ q.next → p ≡ q
same_piece a b c = λ i. record { taken = a i; text = b i; next = c i }

after_byte_joined : (w : List ℕ) (p q : Piece) → joined (after_byte w p) q ≡ after_byte w (joined p q)
after_byte_joined w p q = same_piece (omega arith) (append_assoc w p.text q.text) refl

-- nothing waits in the end, and every byte is taken unless the listing has ended
abbrev Ends : Piece → ℕ → Type 0
Ends p n = (p.next.line ≡ empty_line) × ((p.taken ≡ n) ⊎ (p.next.ended ≡ true))

-- a byte and the rest after it
module _ (l : Listing) (a : ℕ) (rest : List ℕ) where
  abbrev later : Piece
  later = whole_piece (absorbed (with_line l empty_line) a) rest

  ends_so : (t : Bool) → l.ended ≡ t → Ends later (length rest) → Ends (cond t (written_out l) (after_byte (pending l.line) later)) (suc (length rest))
  ends_so true e d = (refl, inr e)
  ends_so false e d = (d.0, ⊎_elim (λ (all : later.taken ≡ length rest). inl (omega (arith, all))) inr d.1)

ends : (input : List ℕ) (l : Listing) → Ends (whole_piece l input) (length input)
ends [] l = (refl, inl refl)
ends (a ∷ rest) l = ends_so l a rest l.ended refl (ends rest (absorbed (with_line l empty_line) a))

pub nothing_left_lem : (input : List ℕ) (l : Listing) → (whole_piece l input).next.line ≡ empty_line
nothing_left_lem input l = (ends input l).0

pub all_taken : (input : List ℕ) (l : Listing) → ((whole_piece l input).taken ≡ length input) ⊎ ((whole_piece l input).next.ended ≡ true)
all_taken input l = (ends input l).1

-- what waits is written whole where there is room for it
all_of_it : (l : Line) (room : ℕ) → ltb room (waiting l) ≡ false → writes l room ≡ pending l
all_of_it l room none = take_all room (pending l) (omega (arith, how_many_lem l, ltb-false room (waiting l) none))

both_not : (e f : Bool) → cond e true f ≡ false → (e ≡ false) × (f ≡ false)
both_not true f h = absurd (true≢false h)
both_not false f h = (refl, h)

-- a call, and the rest with room for all
module _ (l : Listing) (room : ℕ) where
  abbrev flushed : Listing
  flushed = with_line l (unwritten l.line room)

  flush_joined : joined (flushed_only l room) (written_out flushed) ≡ written_out l
  flush_joined = same_piece refl (sym (written_and_waiting l.line room)) refl

  module _ (a : ℕ) (rest : List ℕ) where
    stopped_joined : (t : Bool) → joined (flushed_only l room) (cond t (written_out flushed) (after_byte (pending (unwritten l.line room)) (later l a rest))) ≡ cond t (written_out l) (after_byte (pending l.line) (later l a rest))
    stopped_joined true = flush_joined
    stopped_joined false =
        same_piece (omega arith)
        (sym (append_assoc (writes l.line room) (pending (unwritten l.line room)) (later l a rest).text)
        ∙ ap (λ (xs : List ℕ). xs ++ (later l a rest).text) (sym (written_and_waiting l.line room)))
        refl

    -- where it goes on, all that waits is written, and the byte is taken
    goes_on_lem : stops l room ≡ false → after_byte (writes l.line room) (whole_piece (absorbed flushed a) rest) ≡ whole_piece l (a ∷ rest)
    goes_on_lem h =
        let on = both_not l.ended (ltb room (waiting l.line)) h in
        ap₂ (λ (w : List ℕ) (x : Line). after_byte w (whole_piece (absorbed (with_line l x) a) rest)) (all_of_it l.line room on.1) (empty_where_no_more l.line room on.1)
        ∙ sym (ap (λ (t : Bool). cond t (written_out l) (after_byte (pending l.line) (later l a rest))) on.0)

    abbrev Joins : List ℕ → Piece → Piece → Type 0
    Joins input p w = joined p (whole_piece p.next (drop p.taken input)) ≡ w

    byte_joined : (p : Piece) → Joins rest p (whole_piece (absorbed flushed a) rest) → (t : Bool) → stops l room ≡ t → Joins (a ∷ rest) (cond t (flushed_only l room) (after_byte (writes l.line room) p)) (whole_piece l (a ∷ rest))
    byte_joined p e true h = stopped_joined l.ended
    byte_joined p e false h =
        let w = writes l.line room in
        let q = whole_piece p.next (drop p.taken rest) in
        ap (λ (xs : List ℕ). joined (after_byte w p) (whole_piece p.next xs)) (drop_more p.taken a rest)
        ∙ after_byte_joined w p q
        ∙ ap (after_byte w) e
        ∙ goes_on_lem h

pub calls_add_up : (input : List ℕ) (l : Listing) (room : ℕ) → joined (piece_of l input room) (whole_piece (piece_of l input room).next (drop (piece_of l input room).taken input)) ≡ whole_piece l input
calls_add_up [] l room = flush_joined l room
calls_add_up (a ∷ rest) l room =
    byte_joined l room a rest _ (calls_add_up rest (absorbed (with_line l (unwritten l.line room)) a) (room - length (writes l.line room))) (stops l room) refl

-- a call whose output is not full
module _ (l : Listing) (room : ℕ) where
  not_full : length (writes l.line room) < room → flushed_only l room ≡ written_out l
  not_full less =
      let none : ltb room (waiting l.line) ≡ false = le-ltb room (waiting l.line) (omega (arith, less, how_many_lem l.line, length-take room (pending l.line))) in
      same_piece refl (all_of_it l.line room none) (ap (with_line l) (empty_where_no_more l.line room none))

  abbrev room_left : ℕ
  room_left = room - length (writes l.line room)

  module _ (a : ℕ) (rest : List ℕ) where
    byte_through : (p : Piece) → (length p.text < room_left → p ≡ whole_piece (absorbed (flushed l room) a) rest) → (ended : Bool) → l.ended ≡ ended → (full : Bool) → ltb room (waiting l.line) ≡ full → length (cond (cond ended true full) (flushed_only l room) (after_byte (writes l.line room) p)).text < room → cond (cond ended true full) (flushed_only l room) (after_byte (writes l.line room) p) ≡ whole_piece l (a ∷ rest)
    byte_through p go true e full f less =
        not_full less ∙ sym (ap (λ (t : Bool). cond t (written_out l) (after_byte (pending l.line) (later l a rest))) e)
    byte_through p go false e true f less =
        absurd (omega (arith, less, ltb-true room (waiting l.line) f, how_many_lem l.line, length-take room (pending l.line)))
    byte_through p go false e false f less =
        ap (after_byte (writes l.line room)) (go (omega (arith, less, length-append (writes l.line room) p.text)))
        ∙ goes_on_lem l room a rest (ap₂ (λ (t u : Bool). cond t true u) e f)

pub through_if_not_full : (input : List ℕ) (l : Listing) (room : ℕ) → length (piece_of l input room).text < room → piece_of l input room ≡ whole_piece l input
through_if_not_full [] l room less = not_full l room less
through_if_not_full (a ∷ rest) l room less =
    byte_through l room a rest _ (through_if_not_full rest (absorbed (with_line l (unwritten l.line room)) a) (room - length (writes l.line room))) l.ended refl (ltb room (waiting l.line)) refl less

-- so one call is enough where there is more room than text
pub with_room_for_all : (input : List ℕ) (l : Listing) (room : ℕ) → length (whole_piece l input).text < room → piece_of l input room ≡ whole_piece l input
with_room_for_all input l room more =
    let p = piece_of l input room in
    let w = whole_piece p.next (drop p.taken input) in
    through_if_not_full input l room
    (omega (arith, more, length-append p.text w.text, ap (λ (x : Piece). length x.text) (calls_add_up input l room)))

-- after the end nothing is taken
ended_takes_none : (input : List ℕ) (l : Listing) → l.ended ≡ true → whole_piece l input ≡ written_out l
ended_takes_none [] l e = refl
ended_takes_none (a ∷ rest) l e = ap (λ (t : Bool). cond t (written_out l) (after_byte (pending l.line) (later l a rest))) e

-- what waits, and the rest after it
written_first : (input : List ℕ) (l : Listing) → joined (written_out l) (whole_piece (with_line l empty_line) input) ≡ whole_piece l input
written_first [] l = same_piece refl (append-nil (pending l.line)) refl
written_first (a ∷ rest) l = unless_ended l.ended
  where
    unless_ended : (t : Bool) → joined (written_out l) (cond t (written_out (with_line l empty_line)) (after_byte [] (later l a rest))) ≡ cond t (written_out l) (after_byte (pending l.line) (later l a rest))
    unless_ended true = same_piece refl (append-nil (pending l.line)) refl
    unless_ended false = same_piece (omega arith) refl refl

-- two blocks are as one
pub blocks_add_up : (xs ys : List ℕ) (l : Listing) → joined (whole_piece l xs) (whole_piece (whole_piece l xs).next ys) ≡ whole_piece l (xs ++ ys)
blocks_add_up [] ys l = written_first ys l
blocks_add_up (a ∷ rest) ys l = unless_ended l.ended refl (blocks_add_up rest ys (absorbed (with_line l empty_line) a))
  where
    unless_ended : (t : Bool) → l.ended ≡ t → joined (later l a rest) (whole_piece (later l a rest).next ys) ≡ later l a (rest ++ ys) → joined (cond t (written_out l) (after_byte (pending l.line) (later l a rest))) (whole_piece (cond t (written_out l) (after_byte (pending l.line) (later l a rest))).next ys) ≡ cond t (written_out l) (after_byte (pending l.line) (later l a (rest ++ ys)))
    unless_ended true e go = written_first ys l ∙ ended_takes_none ys l e
    unless_ended false e go = after_byte_joined (pending l.line) (later l a rest) _ ∙ ap (after_byte (pending l.line)) go
