-- What a pop does to the ring, in the port's own words: the pair that goes out, how many places are freed, and what is
-- held afterwards, by the numbers at the first two places alone. `Ring.pop_ring` is defined without it.
use Rattle.std.specs.Prelude.{Option, None, ℕ, zero, suc, ◌+◌, ◌-◌, ◌%◌, List, [], ◌∷◌, map, get_or, length}
use Rattle.queue.specs.Number.{code_of}
use Rattle.queue.specs.Queue.{Pop, pop, pop_command, pop_two, queued}
use Rattle.queue.specs.Ring.{held_as, held_in, number_at}
use Rattle.queue.specs.declared.pop.Turn.{Turn}
use Rattle.queue.specs.declared.ring.Queue.{Queue}

-- the first numbers of those that wait, two at most
abbrev pub front : ℕ → ℕ → ℕ → List ℕ
front first second zero = []
front first second (suc zero) = first ∷ []
front first second (suc (suc n)) = first ∷ second ∷ []

-- as many places are freed as codes left; one that is now held is the last of them, and keeps its number
abbrev pub turn_by : List ℕ → Pop → Turn
turn_by numbers p =
    let freed = length numbers - length p.next.waiting in
    record { pair = p.pair; freed = freed; held = held_as (get_or numbers (freed - 1) 0) p.next.held }

abbrev pub turn_of : ℕ → ℕ → ℕ → Option ℕ → Turn
turn_of first second waiting held =
    let numbers = front first second waiting in
    turn_by numbers (pop (queued (map code_of numbers) (held_in held)))

-- the turn of a ring
abbrev pub turn_in : Queue → Turn
turn_in q = turn_of (number_at q.places q.start) (number_at q.places (q.start + 1)) q.waiting q.held

abbrev pub front_turn : ℕ → ℕ → ℕ → Turn
front_turn first second waiting = turn_of first second waiting None

-- a command, and a single code before another code
abbrev pub command_turn : ℕ → Turn
command_turn n = turn_by (n ∷ []) (pop_command (code_of n) [])

abbrev pub single_turn : ℕ → ℕ → Turn
single_turn first second = turn_by (first ∷ second ∷ []) (pop_two (code_of first) (code_of second) [])

-- the ring with places at the front free again and a held code, and the ring after a turn
abbrev pub moved_on : Queue → ℕ → Option ℕ → Queue
moved_on q freed h = record {
  places = q.places;
  start = (q.start + freed) % 64;
  waiting = q.waiting - freed;
  held = h;
}

abbrev pub freeing : Queue → Turn → Queue
freeing q t = moved_on q t.freed t.held
