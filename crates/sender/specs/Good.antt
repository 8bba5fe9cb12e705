-- A well-formed sender, of the 64 places that every value of the type has: the port's own words.
use Rattle.std.specs.Prelude.{true, ◌≡◌, length}
use Rattle.sender.specs.Sender.{well_formed}
use Rattle.sender.specs.declared.sender.Sender.{Sender}

pub record Good (s : Sender) : Type 0 where
  pub formed : well_formed s ≡ true
  pub places : length s.queue.places ≡ 64
