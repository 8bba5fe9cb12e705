-- Contracts of helpers inside the crate, in the port's own words: a send by the parts of a state, and the writer of pairs
-- that the drain lends a part of the output to.
use Rattle.std.specs.Prelude.{ℕ, ◌+◌, List, length, Option}
use Rattle.code.specs.declared.pair.Pair.{Pair}
use Rattle.queue.specs.Ring.{number_at}
use Rattle.queue.specs.Turn.{moved_on, turn_of}
use Rattle.queue.specs.declared.pop.Turn.{Turn}
use Rattle.sender.specs.Drain.{drained_pairs, filled, send_sender_times}
use Rattle.sender.specs.Sender.{sender, view}
use Rattle.sender.specs.Sending.{Source, ahead, no_repeat, pops, repeats_after, source_by}
use Rattle.sender.specs.declared.send.Step.{Step}
use Rattle.sender.specs.declared.sender.Repeats.{Repeats}
use Rattle.sender.specs.declared.sender.Sender.{Sender}

-- what a send does, by where its pair comes from and by the queue's turn
abbrev pub step_by : Source → Option ℕ → Turn → Step
step_by (ahead p) h t = record { pair = p; freed = 0; held = h; repeats = no_repeat }
step_by pops h t = record { pair = t.pair; freed = t.freed; held = t.held; repeats = repeats_after t.pair }

abbrev pub step_of : ℕ → ℕ → ℕ → Option ℕ → Repeats → Step
step_of first second waiting h r = step_by (source_by r.owed) h (turn_of first second waiting h)

-- the step of a state
abbrev pub step_in : Sender → Step
step_in s =
    step_of (number_at s.queue.places s.queue.start) (number_at s.queue.places (s.queue.start + 1)) s.queue.waiting s.queue.held s.repeats

abbrev pub moved : Sender → Step → Sender
moved s t = sender (moved_on s.queue t.freed t.held) t.repeats

-- the sends of these pairs: their count, the state after them, and the part with the pairs at its beginning
abbrev pub filled_by : Sender → List ℕ → List Pair → ℕ × Sender × List ℕ
filled_by s part ps = (length ps, send_sender_times (length ps) s, filled part ps)

abbrev pub filling : Sender → List ℕ → ℕ → ℕ × Sender × List ℕ
filling s part limit = filled_by s part (drained_pairs limit (length part) (view s))
