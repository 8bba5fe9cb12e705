-- Over any sequence of calls, refused ones among them: the ring answers as the list does, every state that is reached
-- is well formed, never more than 64 codes wait and `n_codes` is never above 65, and the codes accepted since the state
-- was fresh or last reset are, in order, those that the pops took, then the held one, then those waiting.
-- Assumes nothing.
use mathlib.Core.Bool.{Bool, true, cond}
use mathlib.Core.List.{List, [], ◌∷◌, ◌++◌, append_assoc}
use mathlib.Core.Path.{◌≡◌, refl, ap, ap₂, sym, subst, ◌∙◌}
use Prim.Native.Nat.{ℕ, ◌≤◌}
use Rattle.code.specs.Outcome.{Outcome}
use Rattle.code.specs.declared.code.Code.{Code}
use Rattle.code.specs.declared.pair.Pair.{Pair}
use Rattle.queue.proofs.Fit.{at_most_65}
use Rattle.queue.proofs.Order.{pop_takes_from_the_front, push_puts_after}
use Rattle.queue.proofs.Refines.{count_refines, fresh_good, good_fits, pop_good, pop_refines, push_good, push_refines}
use Rattle.queue.proofs.WellFormed.{formed}
use Rattle.queue.specs.Calls.{Call, pushing, popping, counting, resetting, Reply, to_push, to_pop, to_count, History, InOrder, recorded, recorded_all, begun, let_in, list_replies, on_list, on_ring, ring_after, ring_replies, taken_by}
use Rattle.queue.specs.Good.{Good}
use Rattle.queue.specs.Queue.{Queued, count, inside, pop, push}
use Rattle.queue.specs.Ring.{count_ring, fresh_ring, view, well_formed}
use Rattle.queue.specs.declared.ring.Queue.{Queue}

-- a count leaves the very same state
count_same : (q : Queue) → Good q → (count_ring q).1 ≡ q
count_same q g = ap (λ (r : Outcome ℕ × Queue). r.1) (count_refines q g)

call_stays_good : (c : Call) (q : Queue) → Good q → Good (on_ring c q).1
call_stays_good (pushing x) q g = push_good q x g
call_stays_good popping q g = pop_good q g
call_stays_good counting q g = subst Good (sym (count_same q g)) g
call_stays_good resetting q g = fresh_good

pub calls_stay_good : (cs : List Call) (q : Queue) → Good q → Good (ring_after cs q)
calls_stay_good [] q g = g
calls_stay_good (c ∷ cs) q g = calls_stay_good cs (on_ring c q).1 (call_stays_good c q g)

-- one call: the list's reply and next list are those of the ring
call_agrees : (c : Call) (q : Queue) → Good q → on_list c (view q) ≡ ((on_ring c q).0, view (on_ring c q).1)
call_agrees (pushing x) q g =
    ap {B = Reply × Queued} (λ (r : Outcome Unit × Queued). (to_push r.0, r.1)) (sym (push_refines q x g))
call_agrees popping q g =
    ap {B = Reply × Queued} (λ (r : Outcome Pair × Queued). (to_pop r.0, r.1)) (sym (pop_refines q g))
call_agrees counting q g =
    ap {B = Reply × Queued} (λ (r : Outcome ℕ × Queue). (to_count r.0, view r.1)) (sym (count_refines q g))
call_agrees resetting q g = refl

-- any sequence of calls: the ring answers as the list does
pub ring_answers_as_the_list : (cs : List Call) (q : Queue) → Good q → ring_replies cs q ≡ list_replies cs (view q)
ring_answers_as_the_list [] q g = refl
ring_answers_as_the_list (c ∷ cs) q g =
    ap (λ (l : List Reply). (on_ring c q).0 ∷ l) (ring_answers_as_the_list cs (on_ring c q).1 (call_stays_good c q g))
    ∙ ap (λ (r : Reply × Queued). r.0 ∷ list_replies cs r.1) (sym (call_agrees c q g))

-- the ring of a history is the ring after its calls
ring_of_call : (c : Call) (h : History) → (recorded c h).ring ≡ (on_ring c h.ring).1
ring_of_call (pushing x) h = refl
ring_of_call popping h = refl
ring_of_call counting h = refl
ring_of_call resetting h = refl

pub ring_of_history : (cs : List Call) (h : History) → (recorded_all cs h).ring ≡ ring_after cs h.ring
ring_of_history [] h = refl
ring_of_history (c ∷ cs) h = ring_of_history cs (recorded c h) ∙ ap (ring_after cs) (ring_of_call c h)

-- what every history keeps
pub record Kept (h : History) : Type 0 where
  pub good : Good h.ring
  pub order : InOrder h

begun_kept : (q : Queue) → Good q → Kept (begun q)
begun_kept q g = record { good = g; order = refl }

push_kept : (x : Code) (h : History) → Kept h → Kept (recorded (pushing x) h)
push_kept x h k =
    let q = h.ring in
    let seen_first = ap (λ (r : Outcome Unit × Queued). r.0) (push_refines q x k.good) in
    let seen_next = ap (λ (r : Outcome Unit × Queued). r.1) (push_refines q x k.good) in
    record {
      good = push_good q x k.good;
      order =
          ap₂ (λ (l : List Code) (o : Outcome Unit). l ++ let_in x o) k.order seen_first
          ∙ append_assoc h.took (inside (view q)) (let_in x (push x (view q)).0)
          ∙ ap (λ (l : List Code). h.took ++ l) (sym (push_puts_after x (view q)))
          ∙ ap (λ (v : Queued). h.took ++ inside v) (sym seen_next);
    }

taken_is : (q : Queue) → Good q → taken_by q ≡ (pop (view q)).took
taken_is q g = ap (λ (t : Bool). cond t (pop (view q)).took []) g.formed

pop_kept : (h : History) → Kept h → Kept (recorded popping h)
pop_kept h k =
    let q = h.ring in
    let seen_next = ap (λ (r : Outcome Pair × Queued). r.1) (pop_refines q k.good) in
    record {
      good = pop_good q k.good;
      order =
          k.order
          ∙ ap (λ (l : List Code). h.took ++ l) (pop_takes_from_the_front (view q))
          ∙ sym (append_assoc h.took (pop (view q)).took (inside (pop (view q)).next))
          ∙ ap₂ (λ (l : List Code) (v : Queued). h.took ++ l ++ inside v) (sym (taken_is q k.good)) (sym seen_next);
    }

count_kept : (h : History) → Kept h → Kept (recorded counting h)
count_kept h k =
    let same = sym (count_same h.ring k.good) in
    record {
      good = subst Good same k.good;
      order = k.order ∙ ap (λ (q : Queue). h.took ++ inside (view q)) same;
    }

call_kept : (c : Call) (h : History) → Kept h → Kept (recorded c h)
call_kept (pushing x) h k = push_kept x h k
call_kept popping h k = pop_kept h k
call_kept counting h k = count_kept h k
call_kept resetting h k = record { good = fresh_good; order = refl }

calls_kept : (cs : List Call) (h : History) → Kept h → Kept (recorded_all cs h)
calls_kept [] h k = k
calls_kept (c ∷ cs) h k = calls_kept cs (recorded c h) (call_kept c h k)

-- from a fresh queue on, in whatever order it is called: accepted is taken, then held, then waiting
pub first_in_first_out : (cs : List Call) → InOrder (recorded_all cs (begun fresh_ring))
first_in_first_out cs = (calls_kept cs (begun fresh_ring) (begun_kept fresh_ring fresh_good)).order

-- and from any well-formed state on, where what was inside counts as accepted
pub first_in_first_out_from : (q : Queue) → Good q → (cs : List Call) → InOrder (recorded_all cs (begun q))
first_in_first_out_from q g cs = (calls_kept cs (begun q) (begun_kept q g)).order

-- every state that is reached is well formed, with at most 64 waiting and at most 65 in all
pub reachable_is_well_formed : (cs : List Call) → well_formed (ring_after cs fresh_ring) ≡ true
reachable_is_well_formed cs = (calls_stay_good cs fresh_ring fresh_good).formed

pub never_above_64 : (cs : List Call) → (ring_after cs fresh_ring).waiting ≤ 64
never_above_64 cs = (formed (ring_after cs fresh_ring) (reachable_is_well_formed cs)).waiting

pub never_above_65 : (cs : List Call) → count (view (ring_after cs fresh_ring)) ≤ 65
never_above_65 cs = at_most_65 (view (ring_after cs fresh_ring)) (good_fits (ring_after cs fresh_ring) (reachable_is_well_formed cs))
