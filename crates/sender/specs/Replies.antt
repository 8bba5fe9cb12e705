-- What the replies to calls are compared with: those of the lists that a sender stands for, and those that an ill-formed
-- sender is to give. From 01's section "Queue and sender" and its refusals 11 and 12.
use Rattle.std.specs.Prelude.{ℕ, cond, List, [], ◌∷◌, ◌++◌, ltb, drop, length, take}
use Rattle.code.specs.Outcome.{answer, refused}
use Rattle.code.specs.declared.pair.Pair.{Pair}
use Rattle.queue.specs.Queue.{count}
use Rattle.sender.specs.Calls.{Call, pushing, sending, draining, counting, asking, resetting, Reply, to_ask, to_count, to_drain, to_push, to_reset, to_send}
use Rattle.sender.specs.Drain.{drained_pairs, filled}
use Rattle.sender.specs.Sending.{Sending, empty_lists, is_idle, push, send, send_times}

-- a drain of the lists: 11, else its sends, and their pairs in the output from the start on
abbrev pub drained_to : List ℕ → ℕ → List Pair → Sending → Reply × Sending
drained_to out start ps v = (to_drain (answer (length ps)) (take start out ++ filled (drop start out) ps), send_times (length ps) v)

abbrev pub drain_lists : List ℕ → ℕ → ℕ → Sending → Reply × Sending
drain_lists out start limit v =
    cond (ltb (length out) start) (to_drain (refused 11) out, v)
    (drained_to out start (drained_pairs limit (length (drop start out)) v) v)

-- a call on the lists: its reply, and the next lists
abbrev pub on_lists : Call → Sending → Reply × Sending
on_lists (pushing c) v = (to_push (push c v).0, (push c v).1)
on_lists sending v = (to_send (answer (send v).pair), (send v).next)
on_lists (draining out start limit) v = drain_lists out start limit v
on_lists counting v = (to_count (answer (count v.queue)), v)
on_lists asking v = (to_ask (answer (is_idle v)), v)
on_lists resetting v = (to_reset, empty_lists)

-- the replies to a sequence of calls
abbrev pub list_replies : List Call → Sending → List Reply
list_replies [] v = []
list_replies (c ∷ cs) v = (on_lists c v).0 ∷ list_replies cs (on_lists c v).1

-- the reply that an ill-formed state is to get: 12 to every call but a reset, and every byte of a drain's output as it was
abbrev pub ill_formed_reply : Call → Reply
ill_formed_reply (pushing c) = to_push (refused 12)
ill_formed_reply sending = to_send (refused 12)
ill_formed_reply (draining out start limit) = to_drain (refused 12) out
ill_formed_reply counting = to_count (refused 12)
ill_formed_reply asking = to_ask (refused 12)
ill_formed_reply resetting = to_reset
