-- A state with seven packets, each with memory for 32 bytes. Every value of the type is such a state, by the lengths of its arrays;
-- in the logic an array is a list, and its length is no part of the record. The port's own words.
use Rattle.std.specs.Prelude.{length, List, [], ◌∷◌, ◌≡◌}
use Rattle.code.specs.Outcome.{Outcome}
use Rattle.code.specs.declared.pair.Pair.{Pair}
use Rattle.extended.specs.Extended.{Report}
use Rattle.extended.specs.Packet.{most_contents}
use Rattle.extended.specs.State.{packet_at, report_of, step}
use Rattle.extended.specs.declared.class.Class.{Class}
use Rattle.extended.specs.declared.state.ExtendedState.{ExtendedState}

pub record Whole (s : ExtendedState) : Type 0 where
  pub seven : length s.packets ≡ 7
  pub memories : (c : Class) → length (packet_at s.packets c).contents.bytes ≡ most_contents

-- what each pair gives, and the record after all of them
abbrev pub state_answers : ExtendedState → List Pair → List (Outcome Report)
state_answers s [] = []
state_answers s (p ∷ ps) = report_of (step s p).1 ∷ state_answers (step s p).0 ps

abbrev pub state_after : ExtendedState → List Pair → ExtendedState
state_after s [] = s
state_after s (p ∷ ps) = state_after (step s p).0 ps
