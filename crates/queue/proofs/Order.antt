-- First in first out, of one call on the list: a pop takes from the front of what is inside, a push adds at its end.
-- Assumes nothing.
use mathlib.Core.Bool.{Bool, true, false, not}
use mathlib.Core.List.{[], ◌∷◌, ◌++◌, append_assoc, append-nil}
use mathlib.Core.Path.{◌≡◌, refl, sym}
use Prim.Native.Nat.{ℕ}
use native.Mathlib.Omega.{arith}
use borrow.Author.Tests.{not-true}
use lib.ListN.{length}
use Rattle.code.specs.Outcome.{Outcome, answer, refused}
use Rattle.code.specs.declared.code.Code.{Code}
use Rattle.code.proofs.Both.{both_left}
use Rattle.queue.proofs.Ways.{Way, held_code, nothing_inside, last_code, two_codes, before_command, space_first, command_goes, way_of}
use Rattle.queue.proofs.WellFormed.{stored_may_wait}
use Rattle.queue.specs.Calls.{let_in}
use Rattle.queue.specs.Queue.{Pop, Queued, admit, admit_by, entered, held_codes, inside, is_full, is_nul, pop, push, queued}
use Rattle.queue.specs.Queueable.{is_queueable, queueable}

-- of a pop: what was inside is what it took, then what is inside now
takes_front : {v : Queued} {p : Pop} → Way v p → inside v ≡ p.took ++ inside p.next
takes_front (held_code c l) = refl
takes_front nothing_inside = refl
takes_front (last_code x e) = refl
takes_front (two_codes x y l e next) = refl
takes_front (before_command x y l e next) = refl
takes_front (space_first x l e wants) = refl
takes_front (command_goes x l e wants) = refl

pub pop_takes_from_the_front : (v : Queued) → inside v ≡ (pop v).took ++ inside (pop v).next
pop_takes_from_the_front v = takes_front (way_of v)

-- a stored code is not NUL, and what is accepted without being stored is
stored_is_not_nul : (c : Code) (n : ℕ) → admit c n ≡ answer true → is_nul c ≡ false
stored_is_not_nul c n e = not-true (is_nul c) (both_left (not (is_nul c)) (is_queueable c) (stored_may_wait c n e))

passed : (nul : Bool) (o : Outcome Unit) (full : Bool) → admit_by nul o full ≡ answer false → nul ≡ true
passed true o full e = refl
passed false (answer u) true e = let z : ◌≡◌ {A = ℕ} 0 1 = cc in absurd (omega arith)
passed false (answer u) false e = let z : ◌≡◌ {A = ℕ} 0 1 = cc in absurd (omega arith)
passed false (refused k) full e = let z : ◌≡◌ {A = ℕ} 0 1 = cc in absurd (omega arith)

passed_is_nul : (c : Code) (n : ℕ) → admit c n ≡ answer false → is_nul c ≡ true
unfolding admit
passed_is_nul c n e = passed (is_nul c) (queueable c) (is_full n) e

entered_behind : (o : Outcome Bool) (c : Code) (v : Queued) → admit c (length v.waiting) ≡ o → inside (entered o (queued (v.waiting ++ (c ∷ [])) v.held) v).1 ≡ inside v ++ let_in c (entered o (queued (v.waiting ++ (c ∷ [])) v.held) v).0
entered_behind (answer true) c v e =
    rw (stored_is_not_nul c (length v.waiting) e) (sym (append_assoc (held_codes v.held) v.waiting (c ∷ [])))
entered_behind (answer false) c v e = rw (passed_is_nul c (length v.waiting) e) (sym (append-nil (inside v)))
entered_behind (refused n) c v e = sym (append-nil (inside v))

pub push_puts_after : (c : Code) (v : Queued) → inside (push c v).1 ≡ inside v ++ let_in c (push c v).0
push_puts_after c v = entered_behind (admit c (length v.waiting)) c v refl
