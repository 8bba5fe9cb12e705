-- 01's pairs tried by hand that are to be proved, those marked P, as one list in 01's order, each with what is asked of
-- it and what it gives. A pair is read by itself, or pairs by a fresh receiver, or codes are queued and pairs popped.
use Rattle.code.specs.declared.channel.Field.{Field}
use Rattle.std.specs.Prelude.{ℕ, false, List, [], ◌∷◌, ◌++◌, map, replicate, Option, None, Some}
use Rattle.code.specs.Channel.{channel_one, field_one, field_two}
use Rattle.code.specs.MidRow.{italic}
use Rattle.code.specs.Outcome.{Outcome, answer}
use Rattle.code.specs.Read.{read_pair}
use Rattle.code.specs.Pair.{pair}
use Rattle.code.specs.declared.code.Code.{Code}
use Rattle.code.specs.declared.code.Code.TheVariants as code
use Rattle.code.specs.declared.color.Color.TheVariants.{White}
use Rattle.code.specs.declared.control.Command.TheVariants.{EraseDisplayedMemory}
use Rattle.code.specs.declared.control.Control.{Control}
use Rattle.code.specs.declared.control.Control.TheVariants as control
use Rattle.code.specs.declared.control.Tab.TheVariants.{TabOffset1}
use Rattle.code.specs.declared.pair.Pair.{Pair}
use Rattle.code.specs.declared.preamble.PreambleType.TheVariants as style
use Rattle.event.specs.declared.event.Cea608.{Cea608}
use Rattle.event.specs.declared.event.Cea608.TheVariants as event
use Rattle.event.specs.declared.mode.Mode.TheVariants.{RollUp2}
use Rattle.agreement.specs.Pairs.{hi, padding, roll_up2}
use Rattle.queue.specs.Calls.{acceptance, popping, pushing, Reply, ring_replies, to_pop}
use Rattle.queue.specs.Ring.{fresh_ring}
use Rattle.receiver.specs.Reading.{answers}
use Rattle.receiver.specs.Receiver.{fresh}
use Rattle.sender.specs.SendsLeft.{a_acute}
use Rattle.code.specs.KnownCodes.{letter_h}

pub data Tried : Type 0 where
  reads : Pair → Tried
  hears : List Pair → Tried
  queues : List Code → ℕ → Tried

pub data Gave : Type 0 where
  codes : Outcome (Code × Code) → Gave
  heard : List (Outcome (Option Cea608)) → Gave
  replies : List Reply → Gave

-- codes that are pushed, and n pops after them
abbrev pub try : Tried → Gave
try (reads p) = codes (read_pair p.0 p.1)
try (hears ps) = heard (answers fresh ps)
try (queues cs n) = replies (ring_replies (map pushing cs ++ replicate n popping) fresh_ring)

-- what is tried, and what it gives
pub record Case : Type 0 where
  pub tried : Tried
  pub gives : Gave

abbrev case : Tried → Gave → Case
case t g = record { tried = t; gives = g }

-- a pair read as a command on channel one
abbrev read_as : Option Field → Control → Gave
read_as f c = codes (answer (code.Control (record { field = f; channel = channel_one; control = c }), code.Nul))

abbrev row_10_white : Control
row_10_white = control.Preamble (record { row = 10; underline = false; ty = style.Color White })

abbrev two_rows : Outcome (Option Cea608)
two_rows = answer (Some (event.NewMode channel_one RollUp2))

abbrev pop_gives : ℕ → ℕ → Reply
pop_gives a b = to_pop (answer (pair a b))

-- row 10 white; no row; erase for field two and for field one; tab 1; italics; an event, none, an event; two events; none;
-- padding; H and a space, then Á; a space, then Á
abbrev pub cases : List Case
cases =
    case (reads (pair 0x10 0x40)) (read_as None row_10_white) ∷ case (reads (pair 0x10 0xE0)) (read_as None (control.Unknown 0x10 0x60))
    ∷ case (reads (pair 0x15 0x2C)) (read_as (Some field_two) (control.Command EraseDisplayedMemory))
    ∷ case (reads (pair 0x94 0x2C)) (read_as (Some field_one) (control.Command EraseDisplayedMemory))
    ∷ case (reads (pair 0x97 0xA1)) (read_as None (control.Tab TabOffset1))
    ∷ case (reads (pair 0x91 0xAE)) (read_as None (control.MidRow (italic false)))
    ∷ case (hears (roll_up2 ∷ roll_up2 ∷ roll_up2 ∷ [])) (heard (two_rows ∷ answer None ∷ two_rows ∷ []))
    ∷ case (hears (roll_up2 ∷ padding ∷ roll_up2 ∷ [])) (heard (two_rows ∷ answer None ∷ two_rows ∷ []))
    ∷ case (hears (hi ∷ [])) (heard (answer None ∷ [])) ∷ case (queues [] 1) (replies (pop_gives 0x80 0x80 ∷ []))
    ∷ case (queues (letter_h ∷ a_acute ∷ []) 2) (replies (acceptance ∷ acceptance ∷ pop_gives 0xC8 0x20 ∷ pop_gives 0x92 0x20 ∷ []))
    ∷ case (queues (a_acute ∷ []) 2) (replies (acceptance ∷ pop_gives 0x20 0x80 ∷ pop_gives 0x92 0x20 ∷ [])) ∷ []
