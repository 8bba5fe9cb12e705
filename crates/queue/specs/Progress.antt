-- How many pops a queue takes to empty, at most. A waiting code may take two, one that sends a space or the single code
-- before it and one that sends it from where it is held; a held code takes one. From 01's order of tests of a pop.
use Rattle.std.specs.Prelude.{ℕ, zero, suc, ◌+◌, ◌*◌, length}
use Rattle.queue.specs.Queue.{Queued, held_codes, pop}

abbrev pub work : Queued → ℕ
work v = 2 * length v.waiting + length (held_codes v.held)

-- what is left after n pops
abbrev pub pop_times : ℕ → Queued → Queued
pop_times zero v = v
pop_times (suc n) v = pop_times n (pop v).next
