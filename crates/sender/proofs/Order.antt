-- First in first out, of one call: a send takes from the front of what is inside, a push adds at its end, and any other
-- call but a reset is as many sends as it made.
-- Assumes nothing.
use mathlib.Core.Bool.{Bool, true, false, not}
use mathlib.Core.List.{List, [], ◌++◌, append_assoc, append-nil}
use mathlib.Core.Path.{◌≡◌, refl, ap, ap₂, sym, subst, ◌∙◌}
use Prim.Native.Nat.{ℕ, zero, suc}
use native.Mathlib.Omega.{arith}
use lib.Dec.{ltb}
use lib.ListN.{length}
use Rattle.code.specs.Outcome.{Outcome}
use Rattle.code.specs.declared.code.Code.{Code}
use Rattle.code.specs.declared.pair.Pair.{Pair}
use Rattle.queue.proofs.Order as ring
use Rattle.queue.specs.Calls.{let_in}
use Rattle.queue.specs.Queue.{Queued, inside}
use Rattle.sender.proofs.Refines.{fresh_good, push_good, push_refines, pushed_as, send_good, send_refines}
use Rattle.sender.specs.Calls.{Call, pushing, sending, draining, counting, asking, resetting, to_send, in_sends, is_reset, let_in_by, on_sender, sends_by, taken_by}
use Rattle.sender.specs.Drain.{drain_sender, send_sender_times}
use Rattle.sender.specs.Good.{Good}
use Rattle.sender.specs.Sender.{count_sender, idle_sender, send_sender, view, well_formed}
use Rattle.sender.specs.Sending.{Sending, Source, ahead, pops, send, send_from, source}
use Rattle.sender.specs.declared.sender.Sender.{Sender}

-- a send takes from the front of what is inside; a pair that goes ahead takes nothing
takes_by : (o : Source) (q : Queued) → inside q ≡ (send_from o q).took ++ inside (send_from o q).next.queue
takes_by (ahead p) q = refl
takes_by pops q = ring.pop_takes_from_the_front q

send_takes_from_the_front : (s : Sending) → inside s.queue ≡ (send s).took ++ inside (send s).next.queue
unfolding send
send_takes_from_the_front s = takes_by (source s) s.queue

pub taken_is : (s : Sender) → Good s → taken_by s ≡ (send (view s)).took
taken_is s g = rw g.formed refl

one_taken : (s : Sender) → Good s → inside (view s).queue ≡ taken_by s ++ inside (view (send_sender s).1).queue
one_taken s g =
    send_takes_from_the_front (view s)
    ∙ ap₂ (λ (l : List Code) (v : Sending). l ++ inside v.queue) (sym (taken_is s g)) (sym (send_refines s g).1)

-- and so do many in a row
pub sends_stay_good : (n : ℕ) (s : Sender) → Good s → Good (send_sender_times n s)
sends_stay_good zero s g = g
sends_stay_good (suc n) s g = sends_stay_good n (send_sender s).1 (send_good s g)

all_taken : (n : ℕ) (s : Sender) → Good s → inside (view s).queue ≡ in_sends taken_by n s ++ inside (view (send_sender_times n s)).queue
all_taken zero s g = refl
all_taken (suc n) s g =
    one_taken s g
    ∙ ap (λ (l : List Code). taken_by s ++ l) (all_taken n (send_sender s).1 (send_good s g))
    ∙ sym (append_assoc (taken_by s) (in_sends taken_by n (send_sender s).1) (inside (view (send_sender_times n (send_sender s).1)).queue))

-- a count and a test for idle change nothing
pub count_same : (s : Sender) → Good s → (count_sender s).1 ≡ s
unfolding count_sender
count_same s g = rw g.formed refl

pub idle_same : (s : Sender) → Good s → (idle_sender s).1 ≡ s
unfolding idle_sender
idle_same s g = rw g.formed refl

-- a call that leaves the state of as many sends as it made: any but a push and a reset
abbrev pub IsSends : Call → Sender → Type 0
IsSends c s = (on_sender c s).1 ≡ send_sender_times (sends_by (on_sender c s).0) s

pub a_send_is_one : (s : Sender) → Good s → IsSends sending s
a_send_is_one s g = ap (λ (o : Outcome Pair). send_sender_times (sends_by (to_send o)) s) (sym (send_refines s g).0)

drained_by : (s : Sender) (out : List ℕ) (start limit : ℕ) (t : Bool) → ltb (length out) start ≡ t → well_formed s ≡ true → IsSends (draining out start limit) s
unfolding drain_sender
drained_by s out start limit true past formed = rw (formed, past) refl
drained_by s out start limit false past formed = rw (formed, past) refl

pub a_drain_is_sends : (s : Sender) (out : List ℕ) (start limit : ℕ) → Good s → IsSends (draining out start limit) s
a_drain_is_sends s out start limit g = drained_by s out start limit (ltb (length out) start) refl g.formed

-- every call leaves a well-formed state
pub call_stays_good : (c : Call) (s : Sender) → Good s → Good (on_sender c s).1
call_stays_good (pushing x) s g = push_good s x g
call_stays_good sending s g = send_good s g
call_stays_good (draining out start limit) s g =
    subst Good (sym (a_drain_is_sends s out start limit g)) (sends_stay_good (sends_by (on_sender (draining out start limit) s).0) s g)
call_stays_good counting s g = subst Good (sym (count_same s g)) g
call_stays_good asking s g = subst Good (sym (idle_same s g)) g
call_stays_good resetting s g = fresh_good

-- what was inside, and what the call let in, is what its sends took, and what is inside now
abbrev pub KeepsOrder : Call → Sender → Type 0
KeepsOrder c s =
    inside (view s).queue ++ let_in_by c (on_sender c s).0 ≡ in_sends taken_by (sends_by (on_sender c s).0) s ++ inside (view (on_sender c s).1).queue

sends_keep_order : (n : ℕ) (s next : Sender) → Good s → next ≡ send_sender_times n s → inside (view s).queue ++ [] ≡ in_sends taken_by n s ++ inside (view next).queue
sends_keep_order n s next g same =
    append-nil (inside (view s).queue)
    ∙ all_taken n s g
    ∙ ap (λ (r : Sender). in_sends taken_by n s ++ inside (view r).queue) (sym same)

push_keeps_order : (x : Code) (s : Sender) → Good s → KeepsOrder (pushing x) s
push_keeps_order x s g =
    let told = push_refines s x g in
    ap (λ (o : Outcome Unit). inside (view s).queue ++ let_in x o) told.0
    ∙ sym (ring.push_puts_after x (view s).queue)
    ∙ ap (λ (v : Sending). inside v.queue) (sym told.1)

pub call_keeps_order : (c : Call) (s : Sender) → Good s → not (is_reset c) ≡ true → KeepsOrder c s
call_keeps_order (pushing x) s g stays = push_keeps_order x s g
call_keeps_order sending s g stays =
    sends_keep_order (sends_by (on_sender sending s).0) s (on_sender sending s).1 g (a_send_is_one s g)
call_keeps_order (draining out start limit) s g stays =
    let c = draining out start limit in
    sends_keep_order (sends_by (on_sender c s).0) s (on_sender c s).1 g (a_drain_is_sends s out start limit g)
call_keeps_order counting s g stays = sends_keep_order 0 s (count_sender s).1 g (count_same s g)
call_keeps_order asking s g stays = sends_keep_order 0 s (idle_sender s).1 g (idle_same s g)
call_keeps_order resetting s g stays = let z : ◌≡◌ {A = ℕ} 0 1 = cc in absurd (omega arith)

-- what is owed after a call is what is owed after its sends: a push leaves it
pub call_owes : (c : Call) (s : Sender) → Good s → not (is_reset c) ≡ true → (on_sender c s).1.repeats ≡ (send_sender_times (sends_by (on_sender c s).0) s).repeats
call_owes (pushing x) s g stays = ap (λ (r : Outcome Unit × Sender). r.1.repeats) (pushed_as s x g.formed)
call_owes sending s g stays = ap (λ (r : Sender). r.repeats) (a_send_is_one s g)
call_owes (draining out start limit) s g stays = ap (λ (r : Sender). r.repeats) (a_drain_is_sends s out start limit g)
call_owes counting s g stays = ap (λ (r : Sender). r.repeats) (count_same s g)
call_owes asking s g stays = ap (λ (r : Sender). r.repeats) (idle_same s g)
call_owes resetting s g stays = let z : ◌≡◌ {A = ℕ} 0 1 = cc in absurd (omega arith)
