-- The sender does what its lists do: of a good state each call's answer is the definition's at the lists, the lists of the
-- state that it leaves are the definition's next, and that state is good again. An ill-formed state is refused and comes
-- back as it was.
-- Assumes nothing.
use mathlib.Core.Bool.{Bool, true, false, cond}
use mathlib.Core.Path.{◌≡◌, refl, ap, sym, subst, ◌∙◌}
use native.Mathlib.Omega.{arith}
use lib.ListN.{length}
use Prim.Native.Nat.{ℕ}
use Rattle.code.proofs.OneAnswer.{same}
use Rattle.code.proofs.WrittenLemmas.{SentPair}
use Rattle.code.specs.Outcome.{Outcome, answer, refused}
use Rattle.code.specs.Read.{is_command_pair}
use Rattle.code.specs.declared.code.Code.{Code}
use Rattle.code.specs.declared.pair.Pair.{Pair}
use Rattle.queue.proofs.Fit.{pop_fits}
use Rattle.queue.proofs.Pairs.{popped_is_sent}
use Rattle.queue.proofs.Refines as ring
use Rattle.code.proofs.Both.{both_left, both_right}
use Rattle.queue.specs.Good.{Fit}
use Rattle.queue.specs.Good as of_the_queue
use Rattle.queue.specs.Queue.{Queued, count, pop}
use Rattle.queue.specs.Ring.{left_in, pop_ring, push_ring}
use Rattle.queue.specs.Ring as queue
use Rattle.queue.specs.declared.ring.Queue.{Queue}
use Rattle.sender.specs.Good.{Good}
use Rattle.sender.specs.Sender.{count_sender, fresh_sender, idle_sender, push_sender, queue_after, repeats_fit, send_sender, sender, view, well_formed}
use Rattle.sender.specs.Sending.{Source, ahead, is_idle, no_repeat, pops, push, repeating, repeats_after, send, send_from, sending_of, source}
use Rattle.sender.specs.declared.sender.Repeats.{Repeats}
use Rattle.sender.specs.declared.sender.Sender.{Sender}

-- the two clauses of 12
pub queue_formed : (s : Sender) → well_formed s ≡ true → queue.well_formed s.queue ≡ true
unfolding well_formed
queue_formed s e = both_left (queue.well_formed s.queue) (repeats_fit s.repeats) e

pub repeats_formed : (s : Sender) → well_formed s ≡ true → repeats_fit s.repeats ≡ true
unfolding well_formed
repeats_formed s e = both_right (queue.well_formed s.queue) (repeats_fit s.repeats) e

pub well_formed_lem : (q : Queue) (r : Repeats) → queue.well_formed q ≡ true → repeats_fit r ≡ true → well_formed (sender q r) ≡ true
unfolding well_formed
well_formed_lem q r formed fits = rw (formed, fits) refl

queue_good : (s : Sender) → Good s → of_the_queue.Good s.queue
queue_good s g = record { formed = queue_formed s g.formed; places = g.places }

pub fresh_good : Good fresh_sender
unfolding well_formed queue.well_formed
fresh_good = record { formed = refl; places = refl }

-- what a call leaves of a well-formed state
pub pushed_as : (s : Sender) (c : Code) → well_formed s ≡ true → push_sender s c ≡ ((push_ring s.queue c).0, sender (push_ring s.queue c).1 s.repeats)
unfolding push_sender
pushed_as s c e = rw e refl

pub sent_as : (s : Sender) → well_formed s ≡ true → send_sender s ≡ (answer (send (view s)).pair, sender (queue_after (source (view s)) s.queue) (send (view s)).next.repeats)
unfolding send_sender
sent_as s e = rw e refl

-- a push
pub push_refines : (s : Sender) (c : Code) → Good s → ((push_sender s c).0 ≡ (push c (view s)).0) × (view (push_sender s c).1 ≡ (push c (view s)).1)
push_refines s c g =
    let done = pushed_as s c g.formed in
    let told = ring.push_refines s.queue c (queue_good s g) in (
      ap (λ (r : Outcome Unit × Sender). r.0) done ∙ ap (λ (r : Outcome Unit × Queued). r.0) told,
      ap (λ (r : Outcome Unit × Sender). view r.1) done ∙ ap (λ (r : Outcome Unit × Queued). sending_of r.1 s.repeats) told,
    )

pub push_good : (s : Sender) (c : Code) → Good s → Good (push_sender s c).1
push_good s c g =
    let next = ring.push_good s.queue c (queue_good s g) in
    subst (λ (r : Outcome Unit × Sender). Good r.1) (sym (pushed_as s c g.formed))
    (record { formed = well_formed_lem _ _ next.formed (repeats_formed s g.formed); places = next.places })

-- a send: what it leaves of the queue needs only that the queue is well formed
popped_as : (q : Queue) → queue.well_formed q ≡ true → (pop_ring q).1 ≡ left_in q
popped_as q e = ap (λ (r : Outcome Pair × Queue). r.1) (ring.popped_as q e)

pub popped_view : (q : Queue) → queue.well_formed q ≡ true → queue.view (pop_ring q).1 ≡ (pop (queue.view q)).next
popped_view q e = ap queue.view (popped_as q e) ∙ ring.view_of_left q

popped_formed : (q : Queue) → queue.well_formed q ≡ true → queue.well_formed (pop_ring q).1 ≡ true
popped_formed q e =
    ring.fits_formed (pop_ring q).1
    (omega (arith, ap (λ (r : Queue). r.start) (popped_as q e)))
    (subst Fit (sym (popped_view q e)) (pop_fits (queue.view q) (ring.good_fits q e)))

view_after : (o : Source) (q : Queue) → queue.well_formed q ≡ true → sending_of (queue.view (queue_after o q)) (send_from o (queue.view q)).next.repeats ≡ (send_from o (queue.view q)).next
view_after (ahead p) q e = refl
view_after pops q e = ap (λ (v : Queued). sending_of v (repeats_after (pop (queue.view q)).pair)) (popped_view q e)

pub sent_pair : (s : Sender) → well_formed s ≡ true → (send_sender s).0 ≡ answer (send (view s)).pair
sent_pair s e = ap (λ (r : Outcome Pair × Sender). r.0) (sent_as s e)

pub sent_view : (s : Sender) → well_formed s ≡ true → view (send_sender s).1 ≡ (send (view s)).next
unfolding send
sent_view s e =
    ap (λ (r : Outcome Pair × Sender). view r.1) (sent_as s e)
    ∙ view_after (source (view s)) s.queue (queue_formed s e)

-- a command pair of odd parity may be owed, and no other pair is
repeat_by : (p : Pair) (t : Bool) → is_command_pair p ≡ t → SentPair p → repeats_fit (cond t (repeating p) no_repeat) ≡ true
repeat_by p true e odd = rw (odd.first.odd, odd.second.odd, e) refl
repeat_by p false e odd = refl

repeat_fits : (q : Queue) → queue.well_formed q ≡ true → repeats_fit (repeats_after (pop (queue.view q)).pair) ≡ true
repeat_fits q e =
    let p = (pop (queue.view q)).pair in
    repeat_by p (is_command_pair p) refl (popped_is_sent (queue.view q) (ring.good_fits q e))

formed_after : (o : Source) (q : Queue) → queue.well_formed q ≡ true → well_formed (sender (queue_after o q) (send_from o (queue.view q)).next.repeats) ≡ true
formed_after (ahead p) q e = well_formed_lem _ _ e refl
formed_after pops q e = well_formed_lem _ _ (popped_formed q e) (repeat_fits q e)

pub sent_formed : (s : Sender) → well_formed s ≡ true → well_formed (send_sender s).1 ≡ true
unfolding send
sent_formed s e =
    ap (λ (r : Outcome Pair × Sender). well_formed r.1) (sent_as s e)
    ∙ formed_after (source (view s)) s.queue (queue_formed s e)

places_after : (o : Source) (q : Queue) → queue.well_formed q ≡ true → (queue_after o q).places ≡ q.places
places_after (ahead p) q e = refl
places_after pops q e = ap (λ (r : Queue). r.places) (popped_as q e)

pub send_refines : (s : Sender) → Good s → ((send_sender s).0 ≡ answer (send (view s)).pair) × (view (send_sender s).1 ≡ (send (view s)).next)
send_refines s g = (sent_pair s g.formed, sent_view s g.formed)

pub send_good : (s : Sender) → Good s → Good (send_sender s).1
send_good s g = record {
  formed = sent_formed s g.formed;
  places = ap (λ (r : Outcome Pair × Sender). length r.1.queue.places) (sent_as s g.formed) ∙ ap length (places_after (source (view s)) s.queue (queue_formed s g.formed)) ∙ g.places;
}

-- 12: the state comes back bit for bit
pub ill_formed_push : (s : Sender) (c : Code) → well_formed s ≡ false → push_sender s c ≡ (refused 12, s)
unfolding push_sender
ill_formed_push s c e = rw e refl

pub ill_formed_send : (s : Sender) → well_formed s ≡ false → send_sender s ≡ (refused 12, s)
unfolding send_sender
ill_formed_send s e = rw e refl

pub ill_formed_count : (s : Sender) → well_formed s ≡ false → count_sender s ≡ (refused 12, s)
unfolding count_sender
ill_formed_count s e = rw e refl

pub ill_formed_idle : (s : Sender) → well_formed s ≡ false → idle_sender s ≡ (refused 12, s)
unfolding idle_sender
ill_formed_idle s e = rw e refl

-- what a well-formed state answers
pub counts_codes : (s : Sender) → well_formed s ≡ true → (count_sender s).0 ≡ answer (count (queue.view s.queue))
unfolding count_sender
counts_codes s e = rw e refl

pub says_whether_idle : (s : Sender) → well_formed s ≡ true → (idle_sender s).0 ≡ answer (is_idle (view s))
unfolding idle_sender
says_whether_idle s e = rw e refl

pub said_idle : (s : Sender) → Good s → (idle_sender s).0 ≡ answer true → is_idle (view s) ≡ true
said_idle s g e = same (sym (says_whether_idle s g.formed) ∙ e)

-- a push that is refused, by any number, hands the very same record back
pushed_same : (s : Sender) (c : Code) (n : ℕ) (t : Bool) → well_formed s ≡ t → (push_sender s c).0 ≡ refused n → (push_sender s c).1 ≡ s
pushed_same s c n false e told = ap (λ (r : Outcome Unit × Sender). r.1) (ill_formed_push s c e)
pushed_same s c n true e told =
    let done = pushed_as s c e in
    let kept = ring.a_refused_push_changes_nothing s.queue c n (sym (ap (λ (r : Outcome Unit × Sender). r.0) done) ∙ told) in
    ap (λ (r : Outcome Unit × Sender). r.1) done ∙ ap (λ (q : Queue). sender q s.repeats) kept

pub a_refused_push_changes_nothing : (s : Sender) (c : Code) (n : ℕ) → (push_sender s c).0 ≡ refused n → (push_sender s c).1 ≡ s
a_refused_push_changes_nothing s c n told = pushed_same s c n (well_formed s) refl told
