-- Calls in any order, as the ring answers them and as the list does, and as an ill-formed state is to be answered; and
-- their history: which codes were accepted since the state was fresh or last reset, NUL aside, and which the pops took.
-- From 01's section "Queue and sender" and its refusal 12.
use Rattle.std.specs.Prelude.{ℕ, Bool, true, false, cond, ◌&&◌, not, List, [], ◌∷◌, ◌++◌, ◌≡◌}
use Rattle.code.specs.Outcome.{Outcome, answer, refused}
use Rattle.code.specs.declared.code.Code.{Code}
use Rattle.code.specs.declared.pair.Pair.{Pair}
use Rattle.queue.specs.Queue.{Queued, count, empty, inside, is_nul, pop, push}
use Rattle.queue.specs.Ring.{count_ring, fresh_ring, pop_ring, push_ring, view, well_formed}
use Rattle.queue.specs.declared.ring.Queue.{Queue}

pub data Call : Type 0 where
  pushing : Code → Call
  popping : Call
  counting : Call
  resetting : Call

pub data Reply : Type 0 where
  to_push : Outcome Unit → Reply
  to_pop : Outcome Pair → Reply
  to_count : Outcome ℕ → Reply
  to_reset : Reply

-- a call on the ring: its reply, and the next state
abbrev pub on_ring : Call → Queue → Reply × Queue
on_ring (pushing c) q = (to_push (push_ring q c).0, (push_ring q c).1)
on_ring popping q = (to_pop (pop_ring q).0, (pop_ring q).1)
on_ring counting q = (to_count (count_ring q).0, (count_ring q).1)
on_ring resetting q = (to_reset, fresh_ring)

-- the reply to a push that is accepted
abbrev pub acceptance : Reply
acceptance = to_push (answer tt)

-- the same call on the list
abbrev pub on_list : Call → Queued → Reply × Queued
on_list (pushing c) v = (to_push (push c v).0, (push c v).1)
on_list popping v = (to_pop (answer (pop v).pair), (pop v).next)
on_list counting v = (to_count (answer (count v)), v)
on_list resetting v = (to_reset, empty)

-- the replies to a sequence of calls
abbrev pub ring_replies : List Call → Queue → List Reply
ring_replies [] q = []
ring_replies (c ∷ cs) q = (on_ring c q).0 ∷ ring_replies cs (on_ring c q).1

abbrev pub list_replies : List Call → Queued → List Reply
list_replies [] v = []
list_replies (c ∷ cs) v = (on_list c v).0 ∷ list_replies cs (on_list c v).1

-- the ring after a sequence of calls
abbrev pub ring_after : List Call → Queue → Queue
ring_after [] q = q
ring_after (c ∷ cs) q = ring_after cs (on_ring c q).1

-- the reply that an ill-formed state is to get: 12 to every call but a reset, which never refuses
abbrev pub ill_formed_reply : Call → Reply
ill_formed_reply (pushing c) = to_push (refused 12)
ill_formed_reply popping = to_pop (refused 12)
ill_formed_reply counting = to_count (refused 12)
ill_formed_reply resetting = to_reset

abbrev pub is_reset : Call → Bool
is_reset (pushing c) = false
is_reset popping = false
is_reset counting = false
is_reset resetting = true

abbrev pub no_reset : List Call → Bool
no_reset [] = true
no_reset (c ∷ cs) = not (is_reset c) && no_reset cs

pub record History : Type 0 where
  pub accepted : List Code
  pub took : List Code
  pub ring : Queue

-- the code that a push let in, by its answer; NUL is accepted and not stored
abbrev pub let_in : Code → Outcome Unit → List Code
let_in c (answer u) = cond (is_nul c) [] (c ∷ [])
let_in c (refused n) = []

-- the codes that a pop takes; a refused one takes none
abbrev pub taken_by : Queue → List Code
taken_by q = cond (well_formed q) (pop (view q)).took []

abbrev pub recorded : Call → History → History
recorded (pushing c) h = record {
  accepted = h.accepted ++ let_in c (push_ring h.ring c).0;
  took = h.took;
  ring = (push_ring h.ring c).1;
}
recorded popping h = record {
  accepted = h.accepted;
  took = h.took ++ taken_by h.ring;
  ring = (pop_ring h.ring).1;
}
recorded counting h = record { accepted = h.accepted; took = h.took; ring = (count_ring h.ring).1 }
recorded resetting h = record { accepted = []; took = []; ring = fresh_ring }

abbrev pub recorded_all : List Call → History → History
recorded_all [] h = h
recorded_all (c ∷ cs) h = recorded_all cs (recorded c h)

-- a history that begins with a state: what is inside it counts as accepted
abbrev pub begun : Queue → History
begun q = record { accepted = inside (view q); took = []; ring = q }

-- accepted is, in order, what the pops took, then the held code, then those waiting
abbrev pub InOrder : History → Type 0
InOrder h = h.accepted ≡ h.took ++ inside (view h.ring)
