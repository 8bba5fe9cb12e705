-- Over any sequence of calls, drains and refused ones among them: every state that is reached is well formed, never more
-- than 64 codes wait and `n_codes` is never above 65, and the codes accepted since the state was fresh or last reset are,
-- in order, those that the sends took, then the held one, then those waiting. The state of a history is the state after its
-- calls, and what was accepted is known by the replies.
-- Assumes nothing.
use mathlib.Core.Bool.{Bool, true, false, cond, not, true≢false}
use mathlib.Core.List.{List, [], ◌∷◌, ◌++◌, append_assoc, append-nil}
use mathlib.Core.Path.{◌≡◌, refl, ap, sym, ◌∙◌}
use Prim.Native.Nat.{◌≤◌}
use Rattle.code.proofs.Both.{both_left, both_right}
use Rattle.code.specs.declared.code.Code.{Code}
use Rattle.queue.proofs.Fit.{at_most_65}
use Rattle.queue.proofs.Refines.{good_fits}
use Rattle.queue.proofs.WellFormed.{formed}
use Rattle.queue.specs.Queue.{count, inside}
use Rattle.sender.proofs.Order.{call_keeps_order, call_stays_good}
use Rattle.sender.proofs.Refines.{fresh_good, queue_formed}
use Rattle.sender.specs.Calls.{Call, pushing, sending, draining, counting, asking, resetting, History, InOrder, accepted_from, begun, in_calls, in_sends, is_reset, let_in_by, no_reset, on_sender, recorded, recorded_all, sender_after, sender_replies, sends_by, taken_by}
use Rattle.sender.specs.Good.{Good}
use Rattle.sender.specs.Sender.{fresh_sender, view, well_formed}
use Rattle.sender.specs.declared.sender.Sender.{Sender}

pub calls_stay_good : (cs : List Call) (s : Sender) → Good s → Good (sender_after cs s)
calls_stay_good [] s g = g
calls_stay_good (c ∷ cs) s g = calls_stay_good cs (on_sender c s).1 (call_stays_good c s g)

-- the sender of a history is the sender after its calls
pub sender_of_history : (cs : List Call) (h : History) → (recorded_all cs h).sender ≡ sender_after cs h.sender
sender_of_history [] h = refl
sender_of_history (c ∷ cs) h = sender_of_history cs (recorded c h)

-- and what was accepted is known by the replies alone
pub accepted_by_replies : (cs : List Call) (h : History) → (recorded_all cs h).accepted ≡ accepted_from h.accepted cs (sender_replies cs h.sender)
accepted_by_replies [] h = refl
accepted_by_replies (c ∷ cs) h = accepted_by_replies cs (recorded c h)

-- what was taken is what the sends took, while nothing is reset
still_counts : (t : Bool) (before : List Code) → not t ≡ true → cond t [] before ≡ before
still_counts true before stays = absurd (true≢false (sym stays))
still_counts false before stays = refl

pub taken_by_sends : (cs : List Call) (h : History) → no_reset cs ≡ true → (recorded_all cs h).took ≡ h.took ++ in_calls taken_by cs h.sender
taken_by_sends [] h none = sym (append-nil h.took)
taken_by_sends (c ∷ cs) h none =
    let s = h.sender in
    let taken = in_sends taken_by (sends_by (on_sender c s).0) s in
    let later = in_calls taken_by cs (on_sender c s).1 in
    taken_by_sends cs (recorded c h) (both_right (not (is_reset c)) (no_reset cs) none)
    ∙ ap (λ (l : List Code). (l ++ taken) ++ later) (still_counts (is_reset c) h.took (both_left (not (is_reset c)) (no_reset cs) none))
    ∙ append_assoc h.took taken later

-- a call that is no reset keeps the order; a reset begins anew
kept_by : (c : Call) (h : History) → Good h.sender → InOrder h → not (is_reset c) ≡ true → h.accepted ++ let_in_by c (on_sender c h.sender).0 ≡ (h.took ++ in_sends taken_by (sends_by (on_sender c h.sender).0) h.sender) ++ inside (view (on_sender c h.sender).1).queue
kept_by c h g order stays =
    let s = h.sender in
    let accepted = let_in_by c (on_sender c s).0 in
    let taken = in_sends taken_by (sends_by (on_sender c s).0) s in
    ap (λ (l : List Code). l ++ accepted) order
    ∙ append_assoc h.took (inside (view s).queue) accepted
    ∙ ap (λ (l : List Code). h.took ++ l) (call_keeps_order c s g stays)
    ∙ sym (append_assoc h.took taken (inside (view (on_sender c s).1).queue))

call_kept : (c : Call) (h : History) → Good h.sender → InOrder h → InOrder (recorded c h)
call_kept (pushing x) h g order = kept_by (pushing x) h g order refl
call_kept sending h g order = kept_by sending h g order refl
call_kept (draining out start limit) h g order = kept_by (draining out start limit) h g order refl
call_kept counting h g order = kept_by counting h g order refl
call_kept asking h g order = kept_by asking h g order refl
call_kept resetting h g order = refl

calls_kept : (cs : List Call) (h : History) → Good h.sender → InOrder h → InOrder (recorded_all cs h)
calls_kept [] h g order = order
calls_kept (c ∷ cs) h g order = calls_kept cs (recorded c h) (call_stays_good c h.sender g) (call_kept c h g order)

-- from any well-formed state on, in whatever order it is called, where what was inside counts as accepted: accepted is
-- taken, then held, then waiting
pub first_in_first_out_from : (s : Sender) → Good s → (cs : List Call) → InOrder (recorded_all cs (begun s))
first_in_first_out_from s g cs = calls_kept cs (begun s) g refl

-- and so from a fresh sender on
pub first_in_first_out : (cs : List Call) → InOrder (recorded_all cs (begun fresh_sender))
first_in_first_out cs = first_in_first_out_from fresh_sender fresh_good cs

-- every state that is reached is well formed, with at most 64 waiting and at most 65 in all
pub reachable_is_well_formed : (cs : List Call) → well_formed (sender_after cs fresh_sender) ≡ true
reachable_is_well_formed cs = (calls_stay_good cs fresh_sender fresh_good).formed

pub never_above_64 : (cs : List Call) → (sender_after cs fresh_sender).queue.waiting ≤ 64
never_above_64 cs =
    let s = sender_after cs fresh_sender in
    (formed s.queue (queue_formed s (reachable_is_well_formed cs))).waiting

pub never_above_65 : (cs : List Call) → count (view (sender_after cs fresh_sender)).queue ≤ 65
never_above_65 cs =
    let s = sender_after cs fresh_sender in
    at_most_65 (view s).queue (good_fits s.queue (queue_formed s (reachable_is_well_formed cs)))
