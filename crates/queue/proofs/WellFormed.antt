-- A well-formed state, clause by clause, and which of them a state can break; what a push admits.
-- Assumes nothing.
use mathlib.Core.Bool.{Bool, true, false, ◌&&◌, not}
use mathlib.Core.List.{List}
use Rattle.std.specs.Prelude.{Option, None, Some}
use mathlib.Core.Path.{◌≡◌, refl, ap, sym, ◌∙◌}
use Prim.Native.Nat.{ℕ, zero, suc, ◌+◌, ◌≤◌, ◌<◌}
use native.Mathlib.Omega.{arith}
use borrow.Author.Tests.{leb-false, leb-true, le-leb, le-ltb, ltb-true, lt-ltb}
use lib.Dec.{eqb, leb, lit≤, ltb}
use lib.ListN.{length}
use Rattle.code.proofs.Both.{both_left, both_right}
use Rattle.code.specs.Code.{byte_len}
use Rattle.code.specs.Outcome.{Outcome, answer, is_answer, refused}
use Rattle.code.specs.declared.code.Code.{Code}
use Rattle.code.specs.declared.code.Code.TheVariants as code
use Rattle.queue.proofs.Numbered.{every_number_may_wait, length_told}
use Rattle.queue.specs.Number.{code_of}
use Rattle.queue.specs.Queue.{admit, admit_by, held_codes, is_full, is_nul, is_single, may_be_held, may_wait}
use Rattle.queue.specs.Queueable.{is_queueable, queueable}
use Rattle.queue.specs.Ring.{all_may_wait, codes_from, formed_by, held_fits, held_in, number_at, waiting_in, well_formed}
use Rattle.queue.specs.declared.ring.Queue.{Queue}

-- 12's clauses
pub record Formed (q : Queue) : Type 0 where
  pub start : q.start < 64
  pub waiting : q.waiting ≤ 64
  pub held : held_fits (held_in q.held) ≡ true
  pub codes : all_may_wait (waiting_in q) ≡ true

pub formed : (q : Queue) → well_formed q ≡ true → Formed q
unfolding well_formed
formed q e =
    let three = both_left (ltb q.start 64 && leb q.waiting 64 && held_fits (held_in q.held)) (all_may_wait (waiting_in q)) e in
    let two = both_left (ltb q.start 64 && leb q.waiting 64) (held_fits (held_in q.held)) three in
    record {
      start = ltb-true q.start 64 (both_left (ltb q.start 64) (leb q.waiting 64) two);
      waiting = leb-true q.waiting 64 (both_right (ltb q.start 64) (leb q.waiting 64) two);
      held = both_right (ltb q.start 64 && leb q.waiting 64) (held_fits (held_in q.held)) three;
      codes = both_right (ltb q.start 64 && leb q.waiting 64 && held_fits (held_in q.held)) (all_may_wait (waiting_in q)) e;
    }

pub waiting_fits : (q : Queue) → well_formed q ≡ true → q.waiting ≤ 64
waiting_fits q e = (formed q e).waiting

pub well_formed_lem : (q : Queue) → Formed q → well_formed q ≡ true
unfolding well_formed
well_formed_lem q f = simp (lt-ltb q.start 64 f.start, le-leb q.waiting 64 f.waiting, f.held, f.codes)

-- each number stands for a code that may wait, so that the clauses of the other parts are all
all_may_wait_lem : (places : List ℕ) (at n : ℕ) → all_may_wait (codes_from places at n) ≡ true
all_may_wait_lem places at zero = refl
all_may_wait_lem places at (suc n) = rw (every_number_may_wait (number_at places at)) (all_may_wait_lem places (at + 1) n)

no_more : (t u : Bool) → u ≡ true → (t && u) ≡ t
no_more true u e = e
no_more false u e = refl

pub formed_by_the_rest : (q : Queue) → well_formed q ≡ formed_by q.start q.waiting q.held
unfolding well_formed
formed_by_the_rest q =
    no_more (formed_by q.start q.waiting q.held) (all_may_wait (waiting_in q)) (all_may_wait_lem q.places q.start q.waiting)

-- what may wait or be held may be queued, and what may be held has two bytes
pub may_queueable : (c : Code) → may_wait c ≡ true → is_queueable c ≡ true
may_queueable c e = both_right (not (is_nul c)) (is_queueable c) e

pub held_queueable : (c : Code) → may_be_held c ≡ true → is_queueable c ≡ true
held_queueable c e = both_right (eqb (byte_len c) 2) (is_queueable c) e

pub held_has_two : (c : Code) → may_be_held c ≡ true → eqb (byte_len c) 2 ≡ true
held_has_two c e = both_left (eqb (byte_len c) 2) (is_queueable c) e

-- a number below 8000 stands for a code that may be held, and no other
length_two : (c : Code) → eqb (byte_len c) 2 ≡ not (is_single c)
length_two code.Nul = refl
length_two (code.Control c) = refl
length_two (code.Letter l) = refl
length_two (code.Unknown b) = refl

below_or_not : (a b : ℕ) (t : Bool) → leb a b ≡ t → not t ≡ ltb b a
below_or_not a b true e = sym (le-ltb b a (leb-true a b e))
below_or_not a b false e = sym (lt-ltb b a (leb-false a b e))

pub held_told : (n : ℕ) → may_be_held (code_of n) ≡ ltb n 0x8000
held_told n =
    no_more (eqb (byte_len (code_of n)) 2) (is_queueable (code_of n)) (may_queueable (code_of n) (every_number_may_wait n))
    ∙ length_two (code_of n)
    ∙ ap not (length_told n)
    ∙ below_or_not 0x8000 n (leb 0x8000 n) refl

pub one_held : (h : Option Code) → length (held_codes h) ≤ 1
one_held None = lit≤ tt
one_held (Some c) = lit≤ tt

-- a code is stored only where there is room
room : (nul : Bool) (o : Outcome Unit) (full : Bool) → admit_by nul o full ≡ answer true → full ≡ false
room true o full e = let z : ◌≡◌ {A = ℕ} 0 1 = cc in absurd (omega arith)
room false (answer u) true e = let z : ◌≡◌ {A = ℕ} 0 1 = cc in absurd (omega arith)
room false (answer u) false e = refl
room false (refused k) full e = let z : ◌≡◌ {A = ℕ} 0 1 = cc in absurd (omega arith)

pub stored_has_room : (c : Code) (n : ℕ) → admit c n ≡ answer true → n < 64
unfolding admit
stored_has_room c n e = leb-false 64 n (room (is_nul c) (queueable c) (is_full n) e)

-- and only a code that may wait
may : (nul : Bool) (o : Outcome Unit) (full : Bool) → admit_by nul o full ≡ answer true → (not nul && is_answer o) ≡ true
may true o full e = let z : ◌≡◌ {A = ℕ} 0 1 = cc in absurd (omega arith)
may false (answer u) full e = refl
may false (refused k) full e = let z : ◌≡◌ {A = ℕ} 0 1 = cc in absurd (omega arith)

pub stored_may_wait : (c : Code) (n : ℕ) → admit c n ≡ answer true → may_wait c ≡ true
unfolding admit
stored_may_wait c n e = may (is_nul c) (queueable c) (is_full n) e
