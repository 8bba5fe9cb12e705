-- The frame-rate law. A conversion of the frame rate changes the padding between a stream's pairs. `harmless` says at which
-- places padding may be put in or taken out, and `FrameRateLaw` that a receiver notices it at every other place.
-- `RepaddedLaw` at the end is for whole streams, any number of places at once. proofs/FrameRate.antt and
-- proofs/Repadded.antt prove the two. The port's own words, over the receiver's step.
use Rattle.std.specs.Prelude.{Bool, true, false, cond, not, ◌||◌, List, [], ◌∷◌, ◌↔◌, ◌≡◌, Option, None, Some}
use Rattle.code.specs.Outcome.{Outcome}
use Rattle.code.specs.Parity.{stripped}
use Rattle.code.specs.Read.{control_code_of, is_command_pair, is_odd_pair}
use Rattle.code.specs.declared.control.ControlCode.{ControlCode}
use Rattle.code.specs.declared.pair.Pair.{Pair}
use Rattle.event.specs.declared.event.Cea608.{Cea608}
use Rattle.agreement.specs.Pairs.{is_padding, padding}
use Rattle.receiver.specs.Heard.{event_of}
use Rattle.receiver.specs.Reading.{after, answers, once}
use Rattle.receiver.specs.Receiver.{fresh, is_last, step}
use Rattle.receiver.specs.declared.state.Cea608State.{Cea608State}

-- The last pair is a command, whose repeat may come. A refused pair is not held: after a command and a corrupted pair, the
-- command's repeat is still awaited.
abbrev pub awaits : Option Pair → Bool
awaits None = false
awaits (Some p) = is_command_pair p

-- the next pair that is not refused, if one follows
abbrev pub next_read : List Pair → Option Pair
next_read [] = None
next_read (p ∷ ps) = cond (is_odd_pair p) (Some p) (next_read ps)

abbrev pub is_none : {A : Type 0} → Option A → Bool
is_none None = true
is_none (Some x) = false

abbrev pub differs : Option Pair → Option Pair → Bool
differs l None = false
differs l (Some p) = not (is_last p l)

-- the command that a pair is read as
abbrev pub command_in : Pair → ControlCode
command_in p = control_code_of (stripped p.0) (stripped p.1)

-- it has no event: an alarm, flash, a text command, an `Unknown`, or a symbol that has no character
abbrev pub is_silent : Option Pair → Bool
is_silent None = false
is_silent (Some p) = is_none (event_of (command_in p))

-- By the last pair and the next one that is not refused, that one is not the awaited repeat: (a) no repeat is awaited,
-- (b) no such pair follows, or (c) it differs from the last pair.
abbrev pub repeat_is_not_next : Option Pair → Option Pair → Bool
repeat_is_not_next l next = not (awaits l) || is_none next || differs l next

-- A place of a stream is given by the state there and the rest of the stream. Padding does no harm in the cases (a), (b)
-- and (c), and where (d) the awaited command has no event.
abbrev pub harmless : Cea608State → List Pair → Bool
harmless s rest = repeat_is_not_next s.last_data (next_read rest) || is_silent s.last_data

-- from two states: the same answer to each pair, and the same channel and field at the end
pub record ReadAlike (s t : Cea608State) (ps : List Pair) : Type 0 where
  pub same_answers : answers s ps ≡ answers t ps
  pub same_channel : (after s ps).last_channel ≡ (after t ps).last_channel
  pub same_field : (after s ps).last_received_field ≡ (after t ps).last_received_field

-- with and without padding at this place
abbrev pub Unchanged : Cea608State → List Pair → Type 0
Unchanged s rest = ReadAlike s (step s padding).1 rest

-- read by a fresh receiver, and judged with what follows: these places and no others
abbrev pub FrameRateLaw : Type 0
FrameRateLaw =
    (before rest : List Pair) → (harmless (after fresh before) rest ≡ true) ↔ Unchanged (after fresh before) rest

-- Read once more, the last pair would leave channel and field as they are. Every state that is reached from the fresh one is
-- so; a state of other contents need not be.
abbrev pub SetBy : Option Pair → Cea608State → Type 0
SetBy None s = Unit
SetBy (Some p) s =
    ((once s p).1.last_channel ≡ s.last_channel) × ((once s p).1.last_received_field ≡ s.last_received_field)

abbrev pub Settled : Cea608State → Type 0
Settled s = SetBy s.last_data s

-- from a state of any contents: where the awaited repeat is next, case (d) asks that the state is settled too
pub record MayRepad (s : Cea608State) (rest : List Pair) : Type 0 where
  pub does_no_harm : harmless s rest ≡ true
  pub is_settled : repeat_is_not_next s.last_data (next_read rest) ≡ false → Settled s

-- Read from this state, the second stream is the first with padding put in or taken out at any such places. Each is judged
-- in the first stream, as it goes on from there, and with the padding before it as the second stream has it.
pub data Repadded : Cea608State → List Pair → List Pair → Type 0 where
  ends : {s : Cea608State} → Repadded s [] []
  keeps : {s : Cea608State} {p : Pair} {ps qs : List Pair} → Repadded (step s p).1 ps qs → Repadded s (p ∷ ps) (p ∷ qs)
  puts_in : {s : Cea608State} {ps qs : List Pair} → MayRepad s ps → Repadded (step s padding).1 ps qs → Repadded s ps (padding ∷ qs)
  takes_out : {s : Cea608State} {ps qs : List Pair} → MayRepad s ps → Repadded s ps qs → Repadded s (padding ∷ ps) qs

-- of the answers to a stream's pairs, those to pairs that are no padding
abbrev pub to_others : List Pair → List (Outcome (Option Cea608)) → List (Outcome (Option Cea608))
to_others (p ∷ ps) (o ∷ os) = cond (is_padding p) (to_others ps os) (o ∷ to_others ps os)
to_others [] os = []
to_others (p ∷ ps) [] = []

-- the same answers to all pairs but padding, in order, and the same channel and field at the end
pub record SameCaptions (s : Cea608State) (ps qs : List Pair) : Type 0 where
  pub same_answers : to_others ps (answers s ps) ≡ to_others qs (answers s qs)
  pub same_channel : (after s ps).last_channel ≡ (after s qs).last_channel
  pub same_field : (after s ps).last_received_field ≡ (after s qs).last_received_field

-- from any state, at any number of such places
abbrev pub RepaddedLaw : Type 0
RepaddedLaw = (s : Cea608State) (ps qs : List Pair) → Repadded s ps qs → SameCaptions s ps qs
