-- Reading a list of pairs, in the port's own words: the fold of what a pair does, and what the laws say of pairs and answers.
use Rattle.std.specs.Prelude.{ℕ, Bool, ◌&&◌, cond, false, not, true, List, [], ◌∷◌, ◌≡◌, Option, None, Some, is_some}
use Rattle.code.specs.Outcome.{Outcome, answer, refused}
use Rattle.code.specs.Parity.{stripped}
use Rattle.code.specs.Range.{within}
use Rattle.code.specs.Read.{is_command_pair, is_odd_pair}
use Rattle.code.specs.declared.pair.Pair.{Pair}
use Rattle.event.specs.declared.event.Cea608.{Cea608}
use Rattle.extended.specs.Extended.{Reader, Report, event, nothing, packet, read}
use Rattle.extended.specs.Part.{part_of}
use Rattle.extended.specs.declared.part.Part.{Part}
use Rattle.extended.specs.declared.state.Running.TheVariants as running
use Rattle.extended.specs.declared.state.Running.{Running}

-- the two bytes of a pair without parity
abbrev pub first : Pair → ℕ
first p = stripped p.0

abbrev pub second : Pair → ℕ
second p = stripped p.1

-- a pair that is received, and is this
pub record Is (x : Part) (p : Pair) : Type 0 where
  pub odd : is_odd_pair p ≡ true
  pub part : part_of (first p) ≡ x

-- what each pair gives, and the reader after all of them
abbrev pub answers : Reader → List Pair → List (Outcome Report)
answers s [] = []
answers s (p ∷ ps) = (read s p).0 ∷ answers (read s p).1 ps

abbrev pub after : Reader → List Pair → Reader
after s [] = s
after s (p ∷ ps) = after (read s p).1 ps

-- a start, a continuation or an end that is received: a first byte of 01 to 0F
abbrev pub is_packet_code : Pair → Bool
is_packet_code p = is_odd_pair p && within 0x01 0x0F (first p)

abbrev pub no_packet_code : List Pair → Bool
no_packet_code [] = true
no_packet_code (p ∷ ps) = not (is_packet_code p) && no_packet_code ps

-- a command that is received
abbrev pub is_command_received : Pair → Bool
is_command_received p = is_odd_pair p && is_command_pair p

abbrev pub none_is_command : List Pair → Bool
none_is_command [] = true
none_is_command (p ∷ ps) = not (is_command_received p) && none_is_command ps

-- the event that was given, if one was
abbrev pub given_event : Outcome Report → Option Cea608
given_event (answer nothing) = None
given_event (answer (event e)) = Some e
given_event (answer (packet c t bs)) = None
given_event (refused n) = None

abbrev pub is_event : Outcome Report → Bool
is_event o = is_some (given_event o)

abbrev pub none_is_event : List (Outcome Report) → Bool
none_is_event [] = true
none_is_event (o ∷ os) = not (is_event o) && none_is_event os

-- the pairs that are not refused, and what they give
abbrev pub is_refused : Outcome Report → Bool
is_refused (answer r) = false
is_refused (refused n) = true

abbrev pub not_refused : Reader → List Pair → List Pair
not_refused s [] = []
not_refused s (p ∷ ps) = cond (is_refused (read s p).0) (not_refused (read s p).1 ps) (p ∷ not_refused (read s p).1 ps)

abbrev pub unless_refused : List (Outcome Report) → List (Outcome Report)
unless_refused [] = []
unless_refused (o ∷ os) = cond (is_refused o) (unless_refused os) (o ∷ unless_refused os)

-- whether captions run
abbrev pub captions_run : Running → Bool
captions_run running.Captions = true
captions_run (running.Extended c) = false
