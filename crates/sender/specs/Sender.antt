-- The sender's state: which lists it stands for, which states are well formed (01's refusal 12), and the state that each
-- call leaves. The answers are the lists', from `Sending`.
use Rattle.std.specs.Prelude.{ℕ, Bool, true, cond, ◌&&◌, Option, None, Some, Result}
use Rattle.code.specs.Outcome.{Outcome, answer, refused}
use Rattle.code.specs.Read.{is_command_pair, is_odd_pair}
use Rattle.code.specs.declared.code.Code.{Code}
use Rattle.code.specs.declared.pair.Pair.{Pair}
use Rattle.queue.specs.Queue.{count}
use Rattle.queue.specs.Ring.{formed_outcome, fresh_ring, pop_ring, push_answer_outcome, push_ring}
use Rattle.queue.specs.Ring as ring
use Rattle.queue.specs.declared.push.PushError.{PushError}
use Rattle.queue.specs.declared.ring.Queue.{Queue}
use Rattle.queue.specs.declared.well_formed.IllFormed.{IllFormed}
use Rattle.sender.specs.Sending.{Sending, Source, ahead, is_idle, no_repeat, pops, send, sending_of, source}
use Rattle.sender.specs.declared.sender.Repeats.{Repeats}
use Rattle.sender.specs.declared.sender.Sender.{Sender}

-- the lists that a state stands for
abbrev pub view : Sender → Sending
view s = sending_of (ring.view s.queue) s.repeats

abbrev pub sender : Queue → Repeats → Sender
sender q r = record { queue = q; repeats = r }

-- well formed: a well-formed queue, and an owed pair absent or a command pair of odd parity
abbrev pub may_be_owed : Pair → Bool
may_be_owed p = is_odd_pair p && is_command_pair p

abbrev pub owed_fits : Option Pair → Bool
owed_fits None = true
owed_fits (Some p) = may_be_owed p

abbrev pub repeats_fit : Repeats → Bool
repeats_fit r = owed_fits r.owed

unfoldable pub well_formed : Sender → Bool
well_formed s = ring.well_formed s.queue && repeats_fit s.repeats

-- of any call: an ill-formed state is refused, 12, and comes back as it was
abbrev pub tested : {A : Type 0} → Sender → Outcome A × Sender → Outcome A × Sender
tested s done = cond (well_formed s) done (refused 12, s)

abbrev pub fresh_sender : Sender
fresh_sender = sender fresh_ring no_repeat

unfoldable pub push_sender : Sender → Code → Outcome Unit × Sender
push_sender s c = tested s ((push_ring s.queue c).0, sender (push_ring s.queue c).1 s.repeats)

-- the queue is popped, or stays as it is
abbrev pub queue_after : Source → Queue → Queue
queue_after (ahead p) q = q
queue_after pops q = (pop_ring q).1

unfoldable pub send_sender : Sender → Outcome Pair × Sender
send_sender s =
    tested s
    (answer (send (view s)).pair, sender (queue_after (source (view s)) s.queue) (send (view s)).next.repeats)

-- `n_codes` is the queue's: an owed pair is no code
unfoldable pub count_sender : Sender → Outcome ℕ × Sender
count_sender s = tested s (answer (count (ring.view s.queue)), s)

unfoldable pub idle_sender : Sender → Outcome Bool × Sender
idle_sender s = tested s (answer (is_idle (view s)), s)

-- the outcome of each answer; those of a push, a send and a count are the queue's answers
abbrev pub push_outcome : Sender × Result Unit PushError → Outcome Unit × Sender
push_outcome r = (push_answer_outcome r.1, r.0)

abbrev pub send_outcome : Sender × Result Pair IllFormed → Outcome Pair × Sender
send_outcome r = (formed_outcome r.1, r.0)

abbrev pub count_outcome : Sender × Result ℕ IllFormed → Outcome ℕ × Sender
count_outcome r = (formed_outcome r.1, r.0)

abbrev pub idle_outcome : Sender × Result Bool IllFormed → Outcome Bool × Sender
idle_outcome r = (formed_outcome r.1, r.0)
