-- The states that the laws are about, from 01's "Well formed": the list of a well-formed queue, and a well-formed ring;
-- and the part of a ring's call that is compared with the list's.
use Rattle.std.specs.Prelude.{true, ◌≡◌, ◌≤◌, length}
use Rattle.code.specs.Outcome.{Outcome}
use Rattle.queue.specs.Queue.{Queued}
use Rattle.queue.specs.Ring.{all_may_wait, held_fits, view, well_formed}
use Rattle.queue.specs.declared.ring.Queue.{Queue}

-- at most 64 waiting, each one that may wait, and no held code or one that may be held
pub record Fit (v : Queued) : Type 0 where
  pub size : length v.waiting ≤ 64
  pub held : held_fits v.held ≡ true
  pub codes : all_may_wait v.waiting ≡ true

-- a well-formed state, of the 64 places that every value of the type has
pub record Good (q : Queue) : Type 0 where
  pub formed : well_formed q ≡ true
  pub places : length q.places ≡ 64

-- an answer, and the list of the state beside it
abbrev pub seen : {A : Type 0} → Outcome A × Queue → Outcome A × Queued
seen r = (r.0, view r.1)
