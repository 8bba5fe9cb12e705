-- The agreement: demand 3 of the customer's letter, its sentences in their order. `DemandThree` at the end is the demand;
-- `agreement` in proofs/Agreement.antt proves it. Every call in it is the definition to which a promise binds the code.
use Rattle.std.specs.Prelude.{ℕ, suc, ◌≤◌, Bool, true, false, not, List, [], ◌∷◌, ◌++◌, map, ◌≡◌, drop, length, replicate, take, Option}
use Rattle.code.specs.Outcome.{Outcome, answer, refused}
use Rattle.code.specs.Pair.{same_pair}
use Rattle.code.specs.Read.{is_command_pair, is_odd_pair}
use Rattle.code.specs.declared.pair.Pair.{Pair}
use Rattle.event.specs.declared.event.Cea608.{Cea608}
use Rattle.queue.specs.Ring.{pop_ring}
use Rattle.queue.specs.declared.ring.Queue.{Queue}
use Rattle.receiver.specs.Reading.{after, after_once, answers, events, read_once}
use Rattle.receiver.specs.Receiver.{fresh}
use Rattle.sender.specs.Calls.{Call, pushing, sending, draining, counting, asking, resetting, in_calls, no_reset, on_sender, sender_after, sends_in}
use Rattle.sender.specs.Drain.{drain_sender, pairs_from}
use Rattle.sender.specs.Sender.{fresh_sender, idle_sender, send_sender, view}
use Rattle.sender.specs.Sending.{Source, ahead, pops, source}
use Rattle.sender.specs.declared.sender.Sender.{Sender}

-- "Start with a fresh sender and a fresh receiver, never reset. Queue and send in any order, until nothing is queued and
-- no repeat is owed." So any calls but a reset: pushes, sends, drains with any output, start and limit, `n_codes` and
-- `is_idle`; refused ones too, and a push of NUL, and a send with nothing to send.
abbrev pub EndsIdle : List Call → Type 0
EndsIdle calls = (idle_sender (sender_after calls fresh_sender)).0 ≡ answer true

-- the pairs that are sent: of a send the pair that it answers, of a drain as many as it answers, read from the bytes of its
-- output from its start on
abbrev pub given : Outcome Pair → List Pair
given (answer p) = p ∷ []
given (refused n) = []

abbrev pub sent_in : Call → Sender → List Pair
sent_in (pushing c) s = []
sent_in sending s = given (send_sender s).0
sent_in (draining out start limit) s =
    pairs_from (sends_in (drain_sender s out start limit).0) (drop start (drain_sender s out start limit).2)
sent_in counting s = []
sent_in asking s = []
sent_in resetting s = []

abbrev pub sent_by : List Call → Sender → List Pair
sent_by [] s = []
sent_by (c ∷ cs) s = sent_in c s ++ sent_by cs (on_sender c s).1

-- the queue's pairs: those that it gave, send by send, where the queue was popped
abbrev pub from_queue : Source → Queue → List Pair
from_queue (ahead p) q = []
from_queue pops q = given (pop_ring q).0

abbrev pub queue_pair : Sender → List Pair
queue_pair s = from_queue (source (view s)) s.queue

abbrev pub queue_pairs : List Call → Sender → List Pair
queue_pairs calls s = in_calls queue_pair calls s

-- "The line may spoil pairs so that parity shows it: no pair that is not a command, and at most one copy in each unbroken
-- stretch of one command pair." Pair by pair: it arrives as it was sent or, if a command, with a byte of even parity.
pub data Carried : List Pair → List Pair → Type 0 where
  ends : Carried [] []
  arrives : {p : Pair} {ps qs : List Pair} → Carried ps qs → Carried (p ∷ ps) (p ∷ qs)
  is_corrupted : {p q : Pair} {ps qs : List Pair} → is_command_pair p ≡ true → is_odd_pair q ≡ false → Carried ps qs → Carried (p ∷ ps) (q ∷ qs)

-- at each place, whether a pair arrived as another
abbrev pub corrupted_places : List Pair → List Pair → List Bool
corrupted_places (p ∷ ps) (q ∷ qs) = not (same_pair p q) ∷ corrupted_places ps qs
corrupted_places [] qs = []
corrupted_places (p ∷ ps) [] = []

-- how many did
abbrev pub how_many : List Bool → ℕ
how_many [] = 0
how_many (true ∷ places) = suc (how_many places)
how_many (false ∷ places) = how_many places

-- stretch by stretch: wherever n copies of one pair were sent in a row, at most one of them is corrupted
abbrev pub OneEachStretch : List Pair → List Pair → Type 0
OneEachStretch sent arrived =
    (before : List Pair) (n : ℕ) (p : Pair) (later : List Pair) → sent ≡ before ++ (replicate n p ++ later) → how_many (take n (drop (length before) (corrupted_places sent arrived))) ≤ 1

pub record Line (sent arrived : List Pair) : Type 0 where
  pub pairs : Carried sent arrived
  pub stretches : OneEachStretch sent arrived

-- a refusal, whatever its number
abbrev pub is_refusal : Outcome (Option Cea608) → Bool
is_refusal (answer e) = false
is_refusal (refused n) = true

-- if a refusal, then by number 1
abbrev pub ByNumber1 : Outcome (Option Cea608) → Type 0
ByNumber1 (answer e) = Unit
ByNumber1 (refused n) = n ≡ 1

-- every one of a list
abbrev pub All : {A : Type 0} → (A → Type 0) → List A → Type 0
All Is [] = Unit
All Is (x ∷ xs) = Is x × All Is xs

-- "Then the receiver reports, in order, the events that the queue's pairs give when each is read once with no test for
-- repeats, ends with the same channel and field, and refuses the spoiled pairs and no others." Of the queue's pairs, of
-- what was sent and of what arrived.
pub record Agreement (queued sent arrived : List Pair) : Type 0 where
  pub same_events : events (answers fresh arrived) ≡ events (read_once fresh queued)
  pub same_channel : (after fresh arrived).last_channel ≡ (after_once fresh queued).last_channel
  pub same_field : (after fresh arrived).last_received_field ≡ (after_once fresh queued).last_received_field
  -- at each place it refuses exactly where the line corrupted the pair, and by number 1
  pub refuses_the_corrupted : map is_refusal (answers fresh arrived) ≡ corrupted_places sent arrived
  pub refuses_by_1 : All ByNumber1 (answers fresh arrived)

abbrev pub DemandThree : Type 0
DemandThree =
    (calls : List Call) (arrived : List Pair) → no_reset calls ≡ true → EndsIdle calls → Line (sent_by calls fresh_sender) arrived → Agreement (queue_pairs calls fresh_sender) (sent_by calls fresh_sender) arrived
