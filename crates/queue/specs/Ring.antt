-- The ring: which list it stands for, which states are well formed (01's refusal 12), and the record that each call
-- leaves. The answers are the list's, from `Queue`; where the codes lie is in the port's own words.
use Rattle.std.specs.Prelude.{ℕ, zero, suc, ◌+◌, ◌-◌, ◌%◌, Bool, true, cond, ◌&&◌, List, [], ◌∷◌, leb, ltb, get_or, length, replicate, set, Option, None, Some, Result}
use Rattle.code.specs.Outcome.{Outcome, answer, outcome, refused}
use Rattle.code.specs.declared.code.Code.{Code}
use Rattle.code.specs.declared.pair.Pair.{Pair}
use Rattle.queue.specs.Number.{code_of, number_of}
use Rattle.queue.specs.Queue.{Queued, queued, count, may_wait, may_be_held, admit, entered, pop}
use Rattle.queue.specs.declared.push.PushError.{PushError}
use Rattle.queue.specs.declared.push.PushError.TheVariants as push_error
use Rattle.queue.specs.declared.ring.Queue.{Queue}
use Rattle.queue.specs.declared.well_formed.IllFormed.{IllFormed}

-- the number and the code at a place, which wraps around at 64
abbrev pub number_at : List ℕ → ℕ → ℕ
number_at places at = get_or places (at % 64) 0

abbrev pub code_at_place : List ℕ → ℕ → Code
code_at_place places at = code_of (number_at places at)

-- the n codes from a place on
abbrev pub codes_from : List ℕ → ℕ → ℕ → List Code
codes_from places at zero = []
codes_from places at (suc n) = code_at_place places at ∷ codes_from places (at + 1) n

abbrev pub waiting_in : Queue → List Code
waiting_in q = codes_from q.places q.start q.waiting

abbrev pub held_in : Option ℕ → Option Code
held_in None = None
held_in (Some n) = Some (code_of n)

-- the list that a ring stands for
abbrev pub view : Queue → Queued
view q = queued (waiting_in q) (held_in q.held)

-- well formed: start below 64, waiting at most 64, each waiting code one that may wait, and no held code or one that may
-- be held
abbrev pub all_may_wait : List Code → Bool
all_may_wait [] = true
all_may_wait (c ∷ cs) = may_wait c && all_may_wait cs

abbrev pub held_fits : Option Code → Bool
held_fits None = true
held_fits (Some c) = may_be_held c

unfoldable pub well_formed : Queue → Bool
well_formed q =
    ltb q.start 64 && leb q.waiting 64 && held_fits (held_in q.held) && all_may_wait (waiting_in q)

-- the clauses that are not met by every number: those of the parts beside the places
abbrev pub formed_by : ℕ → ℕ → Option ℕ → Bool
formed_by start waiting held = ltb start 64 && leb waiting 64 && held_fits (held_in held)

-- of any call: an ill-formed state is refused, 12, and comes back as it was
abbrev pub tested : {A : Type 0} → Queue → Outcome A × Queue → Outcome A × Queue
tested q done = cond (well_formed q) done (refused 12, q)

abbrev pub fresh_ring : Queue
fresh_ring = record { places = replicate 64 0; start = 0; waiting = 0; held = None }

-- a number, and so a code, stored at the place after the last; a code without a number is not stored
abbrev pub stored_number : Queue → ℕ → Queue
stored_number q n = record {
  places = set q.places ((q.start + q.waiting) % 64) n;
  start = q.start;
  waiting = q.waiting + 1;
  held = q.held;
}

abbrev pub stored_as : Queue → Option ℕ → Queue
stored_as q None = q
stored_as q (Some n) = stored_number q n

abbrev pub stored : Queue → Code → Queue
stored q c = stored_as q (number_of c)

unfoldable pub push_ring : Queue → Code → Outcome Unit × Queue
push_ring q c = tested q (entered (admit c q.waiting) (stored q c) q)

-- a pop changes no place of the ring: as many at the front are free again as codes left the list, and a code that is now
-- held is the last of them and keeps its number
abbrev pub gone : Queue → ℕ
gone q = length (waiting_in q) - length (pop (view q)).next.waiting

abbrev pub held_as : ℕ → Option Code → Option ℕ
held_as n None = None
held_as n (Some c) = Some n

abbrev pub left_in : Queue → Queue
left_in q = record {
  places = q.places;
  start = (q.start + gone q) % 64;
  waiting = q.waiting - gone q;
  held = held_as (number_at q.places (q.start + (gone q - 1))) (pop (view q)).next.held;
}

unfoldable pub pop_ring : Queue → Outcome Pair × Queue
pop_ring q = tested q (answer (pop (view q)).pair, left_in q)

unfoldable pub count_ring : Queue → Outcome ℕ × Queue
count_ring q = tested q (answer (count (view q)), q)

-- the number of each refusal, and the outcome of each answer
abbrev pub push_refusal : PushError → ℕ
push_refusal push_error.UnknownByte = 2
push_refusal push_error.NoSuchRow = 3
push_refusal push_error.NotACommand = 18
push_refusal push_error.Full = 7
push_refusal push_error.IllFormed = 12

abbrev pub push_answer_outcome : Result Unit PushError → Outcome Unit
push_answer_outcome r = outcome push_refusal r

abbrev pub push_outcome : Queue × Result Unit PushError → Outcome Unit × Queue
push_outcome r = (push_answer_outcome r.1, r.0)

-- of a call that refuses 12 alone
abbrev pub formed_outcome : {A : Type 0} → Result A IllFormed → Outcome A
formed_outcome r = outcome (λ e. 12) r

abbrev pub pop_outcome : Queue × Result Pair IllFormed → Outcome Pair × Queue
pop_outcome r = (formed_outcome r.1, r.0)

abbrev pub count_outcome : Queue × Result ℕ IllFormed → Outcome ℕ × Queue
count_outcome r = (formed_outcome r.1, r.0)
