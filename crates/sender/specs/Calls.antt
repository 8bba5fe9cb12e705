-- Calls in any order: what the sender replies to each, and the state that each leaves; and their history: which codes were
-- accepted since the state was fresh or last reset, NUL aside, and which the sends took. From 01's section "Queue and
-- sender".
use Rattle.std.specs.Prelude.{ℕ, zero, suc, Bool, true, false, cond, ◌&&◌, not, List, [], ◌∷◌, ◌++◌, ◌≡◌}
use Rattle.code.specs.Outcome.{Outcome, answer, refused}
use Rattle.code.specs.declared.code.Code.{Code}
use Rattle.code.specs.declared.pair.Pair.{Pair}
use Rattle.queue.specs.Calls.{let_in}
use Rattle.queue.specs.Queue.{inside}
use Rattle.sender.specs.Drain.{drain_sender}
use Rattle.sender.specs.Sender.{count_sender, fresh_sender, idle_sender, push_sender, send_sender, view, well_formed}
use Rattle.sender.specs.Sending.{send}
use Rattle.sender.specs.declared.sender.Sender.{Sender}

-- a drain by its output, its start and its limit
pub data Call : Type 0 where
  pushing : Code → Call
  sending : Call
  draining : List ℕ → ℕ → ℕ → Call
  counting : Call
  asking : Call
  resetting : Call

-- a drain's reply has its output too
pub data Reply : Type 0 where
  to_push : Outcome Unit → Reply
  to_send : Outcome Pair → Reply
  to_drain : Outcome ℕ → List ℕ → Reply
  to_count : Outcome ℕ → Reply
  to_ask : Outcome Bool → Reply
  to_reset : Reply

-- a call on the sender: its reply, and the next state
abbrev pub on_sender : Call → Sender → Reply × Sender
on_sender (pushing c) s = (to_push (push_sender s c).0, (push_sender s c).1)
on_sender sending s = (to_send (send_sender s).0, (send_sender s).1)
on_sender (draining out start limit) s =
    (to_drain (drain_sender s out start limit).0 (drain_sender s out start limit).2, (drain_sender s out start limit).1)
on_sender counting s = (to_count (count_sender s).0, (count_sender s).1)
on_sender asking s = (to_ask (idle_sender s).0, (idle_sender s).1)
on_sender resetting s = (to_reset, fresh_sender)

-- the replies to a sequence of calls, and the sender after them
abbrev pub sender_replies : List Call → Sender → List Reply
sender_replies [] s = []
sender_replies (c ∷ cs) s = (on_sender c s).0 ∷ sender_replies cs (on_sender c s).1

abbrev pub sender_after : List Call → Sender → Sender
sender_after [] s = s
sender_after (c ∷ cs) s = sender_after cs (on_sender c s).1

abbrev pub is_reset : Call → Bool
is_reset (pushing c) = false
is_reset sending = false
is_reset (draining out start limit) = false
is_reset counting = false
is_reset asking = false
is_reset resetting = true

abbrev pub no_reset : List Call → Bool
no_reset [] = true
no_reset (c ∷ cs) = not (is_reset c) && no_reset cs

-- how many sends a drain made, by its answer, and any call, by its reply: a send that is not refused made one
abbrev pub sends_in : Outcome ℕ → ℕ
sends_in (answer n) = n
sends_in (refused k) = 0

abbrev pub sends_by : Reply → ℕ
sends_by (to_push o) = 0
sends_by (to_send (answer p)) = 1
sends_by (to_send (refused k)) = 0
sends_by (to_drain o out) = sends_in o
sends_by (to_count o) = 0
sends_by (to_ask o) = 0
sends_by to_reset = 0

-- what n sends in a row give, by what one gives, and what the sends of a sequence of calls give
abbrev pub in_sends : {A : Type 0} → (Sender → List A) → ℕ → Sender → List A
in_sends one zero s = []
in_sends one (suc n) s = one s ++ in_sends one n (send_sender s).1

abbrev pub in_calls : {A : Type 0} → (Sender → List A) → List Call → Sender → List A
in_calls one [] s = []
in_calls one (c ∷ cs) s = in_sends one (sends_by (on_sender c s).0) s ++ in_calls one cs (on_sender c s).1

-- the codes that a send takes; a refused one takes none
abbrev pub taken_by : Sender → List Code
taken_by s = cond (well_formed s) (send (view s)).took []

-- the code that a call let in, by its reply: only a push lets one in
abbrev pub let_in_by : Call → Reply → List Code
let_in_by (pushing c) (to_push o) = let_in c o
let_in_by (pushing c) (to_send o) = []
let_in_by (pushing c) (to_drain o out) = []
let_in_by (pushing c) (to_count o) = []
let_in_by (pushing c) (to_ask o) = []
let_in_by (pushing c) to_reset = []
let_in_by sending r = []
let_in_by (draining out start limit) r = []
let_in_by counting r = []
let_in_by asking r = []
let_in_by resetting r = []

-- what still counts after a call: a reset begins anew
abbrev pub since_reset : Call → List Code → List Code
since_reset c before = cond (is_reset c) [] before

pub record History : Type 0 where
  pub accepted : List Code
  pub took : List Code
  pub sender : Sender

abbrev pub recorded : Call → History → History
recorded c h = record {
  accepted = since_reset c h.accepted ++ let_in_by c (on_sender c h.sender).0;
  took = since_reset c h.took ++ in_sends taken_by (sends_by (on_sender c h.sender).0) h.sender;
  sender = (on_sender c h.sender).1;
}

abbrev pub recorded_all : List Call → History → History
recorded_all [] h = h
recorded_all (c ∷ cs) h = recorded_all cs (recorded c h)

-- a history that begins with a state: what is inside it counts as accepted
abbrev pub begun : Sender → History
begun s = record { accepted = inside (view s).queue; took = []; sender = s }

-- accepted is, in order, what the sends took, then the held code, then those waiting
abbrev pub InOrder : History → Type 0
InOrder h = h.accepted ≡ h.took ++ inside (view h.sender).queue

-- what was accepted, by the calls and the replies to them alone
abbrev pub accepted_from : List Code → List Call → List Reply → List Code
accepted_from before [] rs = before
accepted_from before (c ∷ cs) [] = before
accepted_from before (c ∷ cs) (r ∷ rs) = accepted_from (since_reset c before ++ let_in_by c r) cs rs
