-- What is queued as a command is sent as a command, twice: T-04, over whole runs. `QueuedCommandsLaw` at the end is the
-- law; `queued_commands` in proofs/QueuedCommands.antt proves it.
use Rattle.std.specs.Prelude.{true, cond, List, [], ◌∷◌, ◌++◌, ◌≡◌, Option, None}
use Rattle.code.specs.Outcome.{Outcome, answer, refused}
use Rattle.code.specs.Read.{is_command_pair}
use Rattle.code.specs.declared.code.Code.{Code}
use Rattle.code.specs.declared.pair.Pair.{Pair}
use Rattle.queue.specs.Calls.{taken_by}
use Rattle.queue.specs.Queue.{Queued, inside}
use Rattle.queue.specs.Ring.{pop_ring}
use Rattle.queue.specs.Ring as ring
use Rattle.queue.specs.Made.{AfterHeld, MadeOf, makes_command}
use Rattle.queue.specs.declared.ring.Queue.{Queue}
use Rattle.sender.specs.Calls.{Call, begun, in_calls, no_reset, recorded_all, sender_after}
use Rattle.sender.specs.Sender.{fresh_sender, view}
use Rattle.sender.specs.Sending.{Source, ahead, pops, source, still_owed}
use Rattle.sender.specs.declared.sender.Sender.{Sender}
use Rattle.agreement.specs.Agreement.{All, queue_pairs, sent_by}

-- the codes that a run let in, in order
abbrev pub accepted_in : List Call → List Code
accepted_in calls = (recorded_all calls (begun fresh_sender)).accepted

-- the queue's pairs, each with the codes that its pop took and what is in the queue after it
pub record Packed : Type 0 where
  pub pair : Pair
  pub codes : List Code
  pub left : Queued

abbrev pub packed_of : Outcome Pair → List Code → Queued → List Packed
packed_of (answer p) taken left = record { pair = p; codes = taken; left = left } ∷ []
packed_of (refused n) taken left = []

abbrev pub packed_by : Source → Queue → List Packed
packed_by (ahead p) q = []
packed_by pops q = packed_of (pop_ring q).0 (taken_by q) (ring.view (pop_ring q).1)

abbrev pub packed_pair : Sender → List Packed
packed_pair s = packed_by (source (view s)) s.queue

abbrev pub packed : List Call → Sender → List Packed
packed calls s = in_calls packed_pair calls s

abbrev pub pairs_in : List Packed → List Pair
pairs_in [] = []
pairs_in (m ∷ ms) = m.pair ∷ pairs_in ms

abbrev pub codes_in : List Packed → List Code
codes_in [] = []
codes_in (m ∷ ms) = m.codes ++ codes_in ms

-- from what is held before to what is held after: each pair takes the command that the one before it holds, alone, and
-- one that needs a backspace only so
abbrev pub HeldNext : Option Code → List Packed → Option Code → Type 0
HeldNext before [] after = before ≡ after
HeldNext before (m ∷ ms) after = AfterHeld before m.codes × HeldNext m.left.held ms after

-- a pair that is made of its codes, by what is then in the queue, and is a command pair exactly where they make it one
pub record WellPacked (m : Packed) : Type 0 where
  pub is_made_of : MadeOf m.pair m.codes m.left
  pub command : is_command_pair m.pair ≡ makes_command m.codes

-- a pair whose codes make a command is sent twice in a row, any other once
abbrev pub sent_by_codes : List Packed → List Pair
sent_by_codes [] = []
sent_by_codes (m ∷ ms) = cond (makes_command m.codes) (m.pair ∷ m.pair ∷ sent_by_codes ms) (m.pair ∷ sent_by_codes ms)

-- of any run, whatever is still inside and whatever is still owed aside: these are the queue's pairs, each accepted code
-- is in one of them, in order, each is well packed, a held command is the next pair, and they are sent by their codes
pub record QueuedCommands (calls : List Call) : Type 0 where
  pub all_pairs : pairs_in (packed calls fresh_sender) ≡ queue_pairs calls fresh_sender
  pub all_codes : codes_in (packed calls fresh_sender) ++ inside (view (sender_after calls fresh_sender)).queue ≡ accepted_in calls
  pub well_packed : All WellPacked (packed calls fresh_sender)
  pub held_is_next : HeldNext None (packed calls fresh_sender) (view (sender_after calls fresh_sender)).queue.held
  pub is_sent_by_codes : sent_by calls fresh_sender ++ still_owed (sender_after calls fresh_sender).repeats ≡ sent_by_codes (packed calls fresh_sender)

abbrev pub QueuedCommandsLaw : Type 0
QueuedCommandsLaw = (calls : List Call) → no_reset calls ≡ true → QueuedCommands calls
