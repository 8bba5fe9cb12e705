-- The receiver, from 01's section of that name. That a repeated control code acts once is 47 CFR 79.101 (i)(4)'s. Which
-- copies act, what a corrupted pair leaves, and what text does to the wait for a repeat are 01's and the crate's.
use Rattle.std.specs.Prelude.{Result, Some, Bool, false, cond, Option, None}
use Rattle.code.specs.declared.read.InvalidParity.{InvalidParity}
use Rattle.code.specs.declared.channel.Field.{Field}
use Rattle.code.specs.Outcome.{Outcome, answer, refused}
use Rattle.code.specs.Pair.{same_pair}
use Rattle.code.specs.Read.{read_pair}
use Rattle.code.specs.declared.code.Code.{Code}
use Rattle.code.specs.declared.code.Code.TheVariants as code
use Rattle.code.specs.declared.control.ControlCode.{ControlCode}
use Rattle.code.specs.declared.pair.Pair.{Pair}
use Rattle.event.specs.declared.event.Cea608.{Cea608}
use Rattle.receiver.specs.Heard.{event_of, heard_outcome, text_event}
use Rattle.receiver.specs.declared.state.Cea608State.{Cea608State}
use Rattle.receiver.specs.declared.state.LastChannel.{LastChannel}
use Rattle.receiver.specs.declared.state.LastChannel.TheVariants as channel

abbrev pub state : Option Pair → LastChannel → Option Field → Cea608State
state p ch f = record { last_data = p; last_channel = ch; last_received_field = f }

-- all absent
abbrev pub fresh : Cea608State
fresh = state None channel.Absent None

-- the field that a command named last, whatever came after it
abbrev pub last_field : Cea608State → Option Field
last_field s = s.last_received_field

-- the pair is the last pair, both bytes as received
abbrev pub is_last : Pair → Option Pair → Bool
is_last p None = false
is_last p (Some q) = same_pair q p

-- a command sets the field if it has one
abbrev pub field_after : Option Field → Option Field → Option Field
field_after (Some f) before = Some f
field_after None before = before

-- what a pair gives, and the state after it
abbrev pub Stepped : Type 0
Stepped = Outcome (Option Cea608) × Cea608State

-- a command acts, sets the channel, and the field if it has one
abbrev pub acts : Cea608State → Pair → ControlCode → Stepped
acts s p c = (answer (event_of c), state (Some p) (channel.Known c.channel) (field_after c.field s.last_received_field))

-- the state with the last pair absent
abbrev pub forgotten : Cea608State → Cea608State
forgotten s = state None s.last_channel s.last_received_field

-- one that repeats the last pair gives no event, and the last pair is absent then
abbrev pub heard_command : Cea608State → Pair → ControlCode → Stepped
heard_command s p c = cond (is_last p s.last_data) (answer None, forgotten s) (acts s p c)

-- any other pair is text for the last channel, once one is known
abbrev pub text_for : LastChannel → Code → Code → Option Cea608
text_for channel.Absent x y = None
text_for (channel.Known ch) x y = text_event ch x y

abbrev pub heard_text : Cea608State → Pair → Code → Code → Stepped
heard_text s p x y = (answer (text_for s.last_channel x y), state (Some p) s.last_channel s.last_received_field)

abbrev pub heard_codes : Cea608State → Pair → Code → Code → Stepped
heard_codes s p (code.Control c) y = heard_command s p c
heard_codes s p code.Nul y = heard_text s p code.Nul y
heard_codes s p (code.Letter l) y = heard_text s p (code.Letter l) y
heard_codes s p (code.Unknown b) y = heard_text s p (code.Unknown b) y

-- a refusal changes nothing
abbrev pub after_reading : Cea608State → Pair → Outcome (Code × Code) → Stepped
after_reading s p (answer codes) = heard_codes s p codes.0 codes.1
after_reading s p (refused n) = (refused n, s)

unfoldable pub step : Cea608State → Pair → Stepped
step s p = after_reading s p (read_pair p.0 p.1)

abbrev pub decoded_outcome : Cea608State × Result (Option Cea608) InvalidParity → Stepped
decoded_outcome d = (heard_outcome d.1, d.0)
