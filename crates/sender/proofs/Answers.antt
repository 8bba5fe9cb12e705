-- Over any sequence of calls, drains and refused pushes among them, a well-formed sender replies as its lists do.
-- Assumes nothing.
use mathlib.Core.Bool.{Bool, true, false}
use mathlib.Core.List.{List, [], ◌∷◌}
use mathlib.Core.Path.{◌≡◌, refl, ap, ap₂, ◌∙◌}
use Prim.Native.Nat.{ℕ}
use lib.Dec.{ltb}
use lib.ListN.{drop, length}
use Rattle.code.specs.Outcome.{Outcome}
use Rattle.code.specs.declared.pair.Pair.{Pair}
use Rattle.sender.proofs.Order.{call_stays_good, count_same, idle_same}
use Rattle.sender.proofs.Refines.{counts_codes, push_refines, says_whether_idle, send_refines}
use Rattle.sender.proofs.SendsLeft.{sends_refine}
use Rattle.sender.specs.Calls.{Call, pushing, sending, draining, counting, asking, resetting, Reply, to_ask, to_count, to_push, to_send, on_sender, sender_replies}
use Rattle.sender.specs.Drain.{drain_sender, drained_pairs}
use Rattle.sender.specs.Good.{Good}
use Rattle.sender.specs.Replies.{drain_lists, drained_to, list_replies, on_lists}
use Rattle.sender.specs.Sender.{view}
use Rattle.sender.specs.Sending.{Sending}
use Rattle.sender.specs.declared.sender.Sender.{Sender}

-- what a call of the sender shows: its reply, and the lists of the state beside it
abbrev seen : Call → Sender → Reply × Sending
seen c s = ((on_sender c s).0, view (on_sender c s).1)

drain_agrees : (s : Sender) (out : List ℕ) (start limit : ℕ) (t : Bool) → ltb (length out) start ≡ t → Good s → seen (draining out start limit) s ≡ drain_lists out start limit (view s)
unfolding drain_sender
drain_agrees s out start limit true past g = rw (g.formed, past) refl
drain_agrees s out start limit false past g =
    let ps = drained_pairs limit (length (drop start out)) (view s) in
    rw (g.formed, past) (ap {B = Reply × Sending} (λ (v : Sending). ((drained_to out start ps (view s)).0, v)) (sends_refine (length ps) s g))

-- one call
call_agrees : (c : Call) (s : Sender) → Good s → seen c s ≡ on_lists c (view s)
call_agrees (pushing x) s g =
    ap₂ {C = Reply × Sending} (λ (o : Outcome Unit) (v : Sending). (to_push o, v)) (push_refines s x g).0 (push_refines s x g).1
call_agrees sending s g =
    ap₂ {C = Reply × Sending} (λ (o : Outcome Pair) (v : Sending). (to_send o, v)) (send_refines s g).0 (send_refines s g).1
call_agrees (draining out start limit) s g = drain_agrees s out start limit (ltb (length out) start) refl g
call_agrees counting s g =
    ap₂ {C = Reply × Sending} (λ (o : Outcome ℕ) (r : Sender). (to_count o, view r)) (counts_codes s g.formed) (count_same s g)
call_agrees asking s g =
    ap₂ {C = Reply × Sending} (λ (o : Outcome Bool) (r : Sender). (to_ask o, view r)) (says_whether_idle s g.formed) (idle_same s g)
call_agrees resetting s g = refl

-- any sequence of calls
pub sender_answers_as_the_lists : (cs : List Call) (s : Sender) → Good s → sender_replies cs s ≡ list_replies cs (view s)
sender_answers_as_the_lists [] s g = refl
sender_answers_as_the_lists (c ∷ cs) s g =
    ap (λ (l : List Reply). (on_sender c s).0 ∷ l) (sender_answers_as_the_lists cs (on_sender c s).1 (call_stays_good c s g))
    ∙ ap (λ (r : Reply × Sending). r.0 ∷ list_replies cs r.1) (call_agrees c s g)
