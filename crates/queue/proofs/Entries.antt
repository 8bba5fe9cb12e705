-- What a push stores, test by test in the order of the refusals, and the ring that it leaves.
-- Assumes nothing.
use mathlib.Core.Bool.{Bool, true, false, cond}
use Rattle.std.specs.Prelude.{Option, None, Some, Result, Ok, Err, IsErrAnd}
use mathlib.Core.Path.{◌≡◌, refl, ap, sym, ◌∙◌}
use Prim.Native.Nat.{ℕ, ◌≤◌, ◌<◌}
use native.Mathlib.Omega.{arith}
use borrow.Author.Tests.{le-leb, lt-leb}
use Rattle.code.specs.Outcome.{Outcome, answer, refused}
use Rattle.code.specs.declared.code.Code.{Code}
use Rattle.code.specs.declared.code.Code.TheVariants as code
use Rattle.queue.proofs.Numbered.{nul_may}
use Rattle.queue.proofs.WellFormed.{formed, formed_by_the_rest, stored_has_room}
use Rattle.queue.specs.Entry.{entry_for, entry_outcome, if_stored, queueable_refusal}
use Rattle.queue.specs.Number.{number_of, numbered, with_number}
use Rattle.queue.specs.Queue.{admit, admit_by, entered, is_full, is_nul}
use Rattle.queue.specs.Queueable.{queueable}
use Rattle.queue.specs.Ring.{formed_by, push_refusal, push_ring, stored, stored_as, stored_number, well_formed}
use Rattle.queue.specs.declared.push.PushError.{PushError}
use Rattle.queue.specs.declared.queueable.QueueableError.{QueueableError}
use Rattle.queue.specs.declared.ring.Queue.{Queue}

-- 12 first
abbrev pub entry_in : Queue → Code → Outcome (Option ℕ)
entry_in q c = entry_for q.start q.waiting q.held c

pub ill_formed_entry : (q : Queue) (c : Code) → well_formed q ≡ false → refused 12 ≡ entry_in q c
unfolding entry_for
ill_formed_entry q c e = rw (sym (formed_by_the_rest q) ∙ e) refl

-- then NUL; then 2, 3 or 18; then 7
abbrev pub entry_by : Outcome (Option ℕ) → Bool → Outcome (Option ℕ)
entry_by (answer None) full = answer None
entry_by (answer (Some n)) full = cond full (refused 7) (answer (Some n))
entry_by (refused k) full = refused k

by_number : (n : ℕ) (d : Outcome Unit) (full : Bool) → entry_by (with_number (Some n) d) full ≡ if_stored (Some n) (admit_by false d full)
by_number n (answer u) true = refl
by_number n (answer u) false = refl
by_number n (refused k) full = refl

by_verdict : (c : Code) (full : Bool) → entry_by (numbered c) full ≡ if_stored (number_of c) (admit_by (is_nul c) (queueable c) full)
by_verdict code.Nul full = ap (λ (o : Outcome Unit). entry_by (with_number None o) full) nul_may
by_verdict (code.Control c) full = by_number _ (queueable (code.Control c)) full
by_verdict (code.Letter l) full = by_number _ (queueable (code.Letter l)) full
by_verdict (code.Unknown b) full = by_number _ (queueable (code.Unknown b)) full

tested_entry : (q : Queue) (c : Code) (v : Outcome (Option ℕ)) → well_formed q ≡ true → v ≡ numbered c → entry_by v (is_full q.waiting) ≡ entry_in q c
unfolding entry_for admit
tested_entry q c v e verdict =
    rw (sym (formed_by_the_rest q) ∙ e) (ap (λ (x : Outcome (Option ℕ)). entry_by x (is_full q.waiting)) verdict ∙ by_verdict c (is_full q.waiting))

pub full_entry : (q : Queue) (c : Code) (n : ℕ) → well_formed q ≡ true → answer (Some n) ≡ numbered c → 64 ≤ q.waiting → refused 7 ≡ entry_in q c
full_entry q c n e verdict many =
    sym (ap (λ (t : Bool). cond t (refused 7) (answer (Some n))) (le-leb 64 q.waiting many)) ∙ tested_entry q c (answer (Some n)) e verdict

pub stored_entry : (q : Queue) (c : Code) (n : ℕ) → well_formed q ≡ true → answer (Some n) ≡ numbered c → q.waiting < 64 → answer (Some n) ≡ entry_in q c
stored_entry q c n e verdict room =
    sym (ap (λ (t : Bool). cond t (refused 7) (answer (Some n))) (lt-leb 64 q.waiting room)) ∙ tested_entry q c (answer (Some n)) e verdict

-- the ring that an entry leaves: a number is stored, or it is the same
abbrev pub leaves : Outcome (Option ℕ) → Queue → Outcome Unit × Queue
leaves (answer (Some n)) q = (answer tt, stored_number q n)
leaves (answer None) q = (answer tt, q)
leaves (refused k) q = (refused k, q)

stored_by : (t : Bool) (m : Option ℕ) (o : Outcome Bool) (n : ℕ) → answer (Some n) ≡ cond t (if_stored m o) (refused 12) → (t ≡ true) × (o ≡ answer true) × (m ≡ Some n)
stored_by true m (answer true) n e = (refl, refl, cc)
stored_by true m (answer false) n e = let z : ◌≡◌ {A = ℕ} 0 1 = cc in absurd (omega arith)
stored_by true m (refused k) n e = let z : ◌≡◌ {A = ℕ} 0 1 = cc in absurd (omega arith)
stored_by false m o n e = let z : ◌≡◌ {A = ℕ} 0 1 = cc in absurd (omega arith)

pub nul_entry : (q : Queue) (c : Code) → well_formed q ≡ true → answer None ≡ numbered c → answer None ≡ entry_in q c
nul_entry q c e verdict = tested_entry q c (answer None) e verdict

-- what may not be queued is refused by the same number
pub refused_entry : (q : Queue) (c : Code) (e : QueueableError) (r : Result (Option ℕ) PushError) → IsErrAnd r (λ f. push_refusal f ≡ queueable_refusal e) → well_formed q ≡ true → refused (queueable_refusal e) ≡ numbered c → entry_outcome r ≡ entry_in q c
refused_entry q c e (Ok n) is is_formed verdict = absurd is
refused_entry q c e (Err f) is is_formed verdict =
    ap refused is ∙ tested_entry q c (refused (queueable_refusal e)) is_formed verdict

-- a number is stored only where there is room for it
pub entry_has_room : (q : Queue) (c : Code) (n : ℕ) → answer (Some n) ≡ entry_in q c → (q.start < 64) × (q.waiting < 64)
unfolding entry_for
entry_has_room q c n e =
    let known = stored_by (formed_by q.start q.waiting q.held) (number_of c) (admit c q.waiting) n e in
    ((formed q (formed_by_the_rest q ∙ known.0)).start, stored_has_room c q.waiting known.1)

leaves_as : (t : Bool) (m : Option ℕ) (o : Outcome Bool) (q : Queue) → leaves (cond t (if_stored m o) (refused 12)) q ≡ cond t (entered o (stored_as q m) q) (refused 12, q)
leaves_as true None (answer true) q = refl
leaves_as true (Some n) (answer true) q = refl
leaves_as true m (answer false) q = refl
leaves_as true m (refused k) q = refl
leaves_as false m o q = refl

pub pushed_by_lem : (o : Outcome (Option ℕ)) (q : Queue) (c : Code) → o ≡ entry_in q c → leaves o q ≡ push_ring q c
unfolding entry_for push_ring
pushed_by_lem o q c e =
    ap (λ (x : Outcome (Option ℕ)). leaves x q) e
    ∙ leaves_as (formed_by q.start q.waiting q.held) (number_of c) (admit c q.waiting) q
    ∙ ap (λ (t : Bool). cond t (entered (admit c q.waiting) (stored q c) q) (refused 12, q)) (sym (formed_by_the_rest q))

pub stored_push : (q : Queue) (c : Code) (n : ℕ) → answer (Some n) ≡ entry_in q c → (answer tt, stored_number q n) ≡ push_ring q c
stored_push q c n e = pushed_by_lem (answer (Some n)) q c e

pub same_push : (q : Queue) (c : Code) → answer None ≡ entry_in q c → (answer tt, q) ≡ push_ring q c
same_push q c e = pushed_by_lem (answer None) q c e

pub refused_push : (q : Queue) (c : Code) (k : ℕ) → refused k ≡ entry_in q c → (refused k, q) ≡ push_ring q c
refused_push q c k e = pushed_by_lem (refused k) q c e
