-- The sender as lists: the queue, and what is to be repeated. From 01's section "Queue and sender". That a command is sent
-- twice is 47 CFR 79.101 (i)(1)'s; that text is not, and when the repeat goes out, are 01's.
use Rattle.std.specs.Prelude.{ℕ, zero, suc, Bool, cond, ◌&&◌, List, [], ◌∷◌, eqb, Option, None, Some}
use Rattle.std.specs.Option.{is_none}
use Rattle.code.specs.Outcome.{Outcome}
use Rattle.code.specs.Read.{is_command_pair}
use Rattle.code.specs.declared.code.Code.{Code}
use Rattle.code.specs.declared.pair.Pair.{Pair}
use Rattle.queue.specs.Queue.{Pop, Queued, count, empty, pop}
use Rattle.queue.specs.Queue as queue
use Rattle.sender.specs.declared.sender.Repeats.{Repeats}

pub record Sending : Type 0 where
  pub queue : Queued
  pub repeats : Repeats

abbrev pub sending_of : Queued → Repeats → Sending
sending_of q r = record { queue = q; repeats = r }

-- no pair is owed, and an owed pair
abbrev pub no_repeat : Repeats
no_repeat = record { owed = None }

abbrev pub repeating : Pair → Repeats
repeating p = record { owed = Some p }

abbrev pub none_owed : Repeats → Bool
none_owed r = is_none r.owed

-- the repeat that is still to come, if any
abbrev pub owed_pairs : Option Pair → List Pair
owed_pairs None = []
owed_pairs (Some p) = p ∷ []

abbrev pub still_owed : Repeats → List Pair
still_owed r = owed_pairs r.owed

-- nothing waiting, held or owed
abbrev pub is_idle : Sending → Bool
is_idle s = eqb (count s.queue) 0 && none_owed s.repeats

-- as it is at first: nothing waits, and nothing is held or owed
abbrev pub empty_lists : Sending
empty_lists = sending_of empty no_repeat

-- a push is the queue's; what is owed stays
abbrev pub push : Code → Sending → Outcome Unit × Sending
push c s = ((queue.push c s.queue).0, sending_of (queue.push c s.queue).1 s.repeats)

-- A send: the pair, the codes that it took from the queue, and what is left.
pub record Send : Type 0 where
  pub pair : Pair
  pub took : List Code
  pub next : Sending

-- a repeat is owed of a command pair, its stripped first byte 10 to 1F, and of no other
abbrev pub repeats_after : Pair → Repeats
repeats_after p = cond (is_command_pair p) (repeating p) no_repeat

abbrev pub send_popped : Pop → Send
send_popped p = record { pair = p.pair; took = p.took; next = sending_of p.next (repeats_after p.pair) }

-- where a send's pair comes from: it goes ahead of the queue's, which stays as it is, or the queue is popped
pub data Source : Type 0 where
  ahead : Pair → Source
  pops : Source

-- an owed repeat goes ahead
abbrev pub source_by : Option Pair → Source
source_by (Some p) = ahead p
source_by None = pops

abbrev pub source : Sending → Source
source s = source_by s.repeats.owed

abbrev pub send_from : Source → Queued → Send
send_from (ahead p) q = record { pair = p; took = []; next = sending_of q no_repeat }
send_from pops q = send_popped (pop q)

unfoldable pub send : Sending → Send
send s = send_from (source s) s.queue

-- what is left after n sends
abbrev pub send_times : ℕ → Sending → Sending
send_times zero s = s
send_times (suc n) s = send_times n (send s).next
