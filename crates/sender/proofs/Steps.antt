-- A send by the parts of a state is the definition's: the owed pair, with the queue as it was, or the queue's turn, its pair
-- owed again where it is a command.
-- Assumes nothing.
use mathlib.Core.Bool.{true, false}
use mathlib.Core.Path.{◌≡◌, refl, ap, ap₂, sym, ◌∙◌}
use Prim.Native.Nat.{ℕ, ◌+◌, ◌-◌, ◌%◌, ◌≤◌, ◌<◌}
use native.Mathlib.Omega.{arith}
use Rattle.code.specs.Outcome.{Outcome, answer, refused}
use Rattle.code.specs.declared.pair.Pair.{Pair}
use Rattle.queue.proofs.Refines as ring
use Rattle.queue.proofs.Turns.{turn_frees_waiting, turn_is_the_pop, turn_leaves}
use Rattle.queue.proofs.WellFormed.{formed}
use Rattle.queue.specs.Ring.{pop_ring}
use Rattle.queue.specs.Ring as queue
use Rattle.queue.specs.Turn.{freeing, moved_on, turn_in}
use Rattle.queue.specs.declared.ring.Queue.{Queue}
use Rattle.sender.proofs.Refines.{ill_formed_send, queue_formed, sent_as}
use Rattle.sender.specs.ByParts.{moved, step_by, step_in}
use Rattle.sender.specs.Sender.{queue_after, send_sender, sender, view, well_formed}
use Rattle.sender.specs.Sending.{Source, ahead, no_repeat, pops, repeats_after, send, send_from, source}
use Rattle.sender.specs.declared.send.Step.{Step}
use Rattle.sender.specs.declared.sender.Sender.{Sender}

-- no place is freed: the queue as it was
same_queue : (q : Queue) → q.start < 64 → moved_on q 0 q.held ≡ q
same_queue q less =
    let start : (q.start + 0) % 64 ≡ q.start = omega (arith, less) in
    let waiting : q.waiting - 0 ≡ q.waiting = omega arith in
    ap₂ {C = Queue} (λ (x y : ℕ). record { places = q.places; start = x; waiting = y; held = q.held }) start waiting

popped_queue : (q : Queue) → queue.well_formed q ≡ true → freeing q (turn_in q) ≡ (pop_ring q).1
popped_queue q e = turn_leaves q ∙ sym (ap (λ (r : Outcome Pair × Queue). r.1) (ring.popped_as q e))

abbrev Steps : Sender → Source → Type 0
Steps s o =
    let t = step_by o s.queue.held (turn_in s.queue) in
    (t.pair ≡ (send_from o (queue.view s.queue)).pair)
    × (moved s t ≡ sender (queue_after o s.queue) (send_from o (queue.view s.queue)).next.repeats)

steps_by : (s : Sender) (o : Source) → queue.well_formed s.queue ≡ true → Steps s o
steps_by s (ahead p) e = (refl, ap (λ (q : Queue). sender q no_repeat) (same_queue s.queue (formed s.queue e).start))
steps_by s pops e = (
  turn_is_the_pop s.queue,
  ap₂ (λ (q : Queue) (p : Pair). sender q (repeats_after p)) (popped_queue s.queue e) (turn_is_the_pop s.queue),
)

pub step_is_the_send : (s : Sender) → well_formed s ≡ true → (answer (step_in s).pair, moved s (step_in s)) ≡ send_sender s
unfolding send
step_is_the_send s e =
    let told = steps_by s (source (view s)) (queue_formed s e) in
    ap₂ {C = Outcome Pair × Sender} (λ (p : Pair) (r : Sender). (answer p, r)) told.0 told.1 ∙ sym (sent_as s e)

-- it frees no more places than there are codes
freed_by : (s : Sender) (o : Source) → (step_by o s.queue.held (turn_in s.queue)).freed ≤ s.queue.waiting
freed_by s (ahead p) = omega arith
freed_by s pops = turn_frees_waiting s.queue

pub step_frees_waiting : (s : Sender) → (step_in s).freed ≤ s.queue.waiting
step_frees_waiting s = freed_by s (source (view s))

-- a send as the code makes it
pub refused_send : (s : Sender) → well_formed s ≡ false → (refused 12, s) ≡ send_sender s
refused_send s e = sym (ill_formed_send s e)

pub sent_by_step : (s : Sender) (t : Step) (next : Sender) → well_formed s ≡ true → t ≡ step_in s → next ≡ moved s t → (answer t.pair, next) ≡ send_sender s
sent_by_step s t next e is left =
    ap₂ {C = Outcome Pair × Sender} (λ (p : Pair) (r : Sender). (answer p, r)) (ap (λ (x : Step). x.pair) is) (left ∙ ap (moved s) is)
    ∙ step_is_the_send s e
