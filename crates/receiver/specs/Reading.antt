-- Reading a list of pairs, in the port's own words: the fold of the receiver's step, and `read_once`, the same with no
-- test for repeats, so that every command acts.
use Rattle.std.specs.Prelude.{List, [], ◌∷◌, Option, None, Some}
use Rattle.code.specs.Outcome.{Outcome, answer, refused}
use Rattle.code.specs.declared.pair.Pair.{Pair}
use Rattle.event.specs.declared.event.Cea608.{Cea608}
use Rattle.receiver.specs.Receiver.{forgotten, step, Stepped}
use Rattle.receiver.specs.declared.state.Cea608State.{Cea608State}

-- what each pair gives, and the state after all of them
abbrev pub answers : Cea608State → List Pair → List (Outcome (Option Cea608))
answers s [] = []
answers s (p ∷ ps) = (step s p).0 ∷ answers (step s p).1 ps

abbrev pub after : Cea608State → List Pair → Cea608State
after s [] = s
after s (p ∷ ps) = after (step s p).1 ps

-- what each pair gives, with the state after it
abbrev pub steps : Cea608State → List Pair → List Stepped
steps s [] = []
steps s (p ∷ ps) = step s p ∷ steps (step s p).1 ps

-- the events among what was given, in order
abbrev pub events : List (Outcome (Option Cea608)) → List Cea608
events [] = []
events (answer None ∷ os) = events os
events (answer (Some e) ∷ os) = e ∷ events os
events (refused n ∷ os) = events os

-- a pair read once, with no test for repeats: as the receiver reads it where the last pair is absent
abbrev pub once : Cea608State → Pair → Stepped
once s p = step (forgotten s) p

abbrev pub read_once : Cea608State → List Pair → List (Outcome (Option Cea608))
read_once s [] = []
read_once s (p ∷ ps) = (once s p).0 ∷ read_once (once s p).1 ps

abbrev pub after_once : Cea608State → List Pair → Cea608State
after_once s [] = s
after_once s (p ∷ ps) = after_once (once s p).1 ps
