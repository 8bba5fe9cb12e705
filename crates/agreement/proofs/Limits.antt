-- The agreement at work, and that its limits are real. Roll-up with two rows, a carriage return and "Hi" are decoded
-- whole over a line that corrupts one copy of each command; with both copies of the carriage return corrupted the
-- window does not scroll; with the text corrupted its words are lost. antt computes each from the definitions.
-- Assumes nothing.
use Rattle.std.specs.Prelude.{Some, None}
use mathlib.Core.Bool.{true, false}
use mathlib.Core.List.{List, [], ◌∷◌, map}
use mathlib.Core.Path.{◌≡◌, refl, ap, ◌∙◌}
use native.Mathlib.Omega.{arith}
use lib.Count.{ones, ones_in}
use lib.ListN.{length, replicate}
use Rattle.code.specs.Channel.{channel_one, field_one}
use Rattle.code.specs.Characters.{standard}
use Rattle.code.specs.Read.{control_code_of, meaning, read_pair, single}
use Rattle.code.specs.Pair.{pair}
use Rattle.code.specs.Write.{control_bytes, in_domain, on_line, write_code}
use Rattle.code.specs.declared.code.Code.{Code}
use Rattle.code.specs.declared.code.Code.TheVariants as code
use Rattle.code.specs.declared.control.Command.{Command}
use Rattle.code.specs.declared.control.Command.TheVariants.{CarriageReturn, RollUp2}
use Rattle.code.specs.declared.control.Control.TheVariants as control
use Rattle.code.specs.declared.pair.Pair.{Pair}
use Rattle.event.specs.declared.event.Cea608.{Cea608}
use Rattle.event.specs.declared.event.Cea608.TheVariants as event
use Rattle.event.specs.declared.mode.Mode.TheVariants as mode
use Rattle.queue.specs.Number.{code_of}
use Rattle.queue.specs.Queue.{admit, empty, pair_of, pop, queued}
use Rattle.queue.specs.Queueable.{queueable}
use Rattle.queue.specs.Ring.{pop_ring, push_ring}
use Rattle.queue.specs.Ring as ring
use Rattle.receiver.specs.Reading.{answers, events, read_once}
use Rattle.receiver.specs.Receiver.{fresh, step}
use Rattle.agreement.proofs.OneByOne.{one_by_one_is_a_line}
use Rattle.agreement.specs.Agreement.{Agreement, Carried, EndsIdle, Line, is_refusal, queue_pairs, sent_by}
use Rattle.agreement.specs.Agreement as agreed
use Rattle.agreement.specs.OneByOne as one
use Rattle.agreement.specs.Pairs.{carriage_return, hi, roll_up2}
use Rattle.agreement.specs.QueuedCommands.{packed}
use Rattle.sender.specs.Calls.{Call, pushing, sending, draining, asking, no_reset}
use Rattle.sender.specs.Drain.{drain_sender}
use Rattle.sender.specs.Sender.{fresh_sender, idle_sender, push_sender, send_sender, well_formed}
use Rattle.receiver.specs.Heard.{event_of, text_event}
use Rattle.event.specs.Mode.{mode_of}
use Rattle.code.specs.Code.{char_of}
use Rattle.sender.specs.Sending.{send}

abbrev pub command : Command → Code
command c = code.Control (record { field = Some field_one; channel = channel_one; control = control.Command c })

-- one pair is sent, and a drain writes the others into nine bytes, from the second byte on
abbrev programme : List Call
programme =
    pushing (command RollUp2) ∷ pushing (command CarriageReturn) ∷ pushing (single 0x48)
    ∷ pushing (single 0x69) ∷ sending ∷ asking ∷ draining (replicate 9 0) 1 100 ∷ []

abbrev pub mode_event : Cea608
mode_event = event.NewMode channel_one mode.RollUp2

abbrev pub return_event : Cea608
return_event = event.CarriageReturn channel_one

abbrev pub hi_event : Cea608
hi_event = event.Text (record { needs_backspace = false; char1 = Some 0x48; char2 = Some 0x69; channel = channel_one })

abbrev line : List Pair
line = roll_up2 ∷ roll_up2 ∷ carriage_return ∷ carriage_return ∷ hi ∷ []

pub what_is_sent : (sent_by programme fresh_sender ≡ line) × (queue_pairs programme fresh_sender ≡ roll_up2 ∷ carriage_return ∷ hi ∷ []) × (no_reset programme ≡ true) × EndsIdle programme
unfolding ones ones_in write_code in_domain queueable admit pair_of code_of pop push_ring pop_ring ring.well_formed well_formed push_sender send send_sender drain_sender idle_sender on_line control_bytes meaning
what_is_sent = (refl, refl, refl, refl)

abbrev hi_codes : List Code
hi_codes = single 0x48 ∷ single 0x69 ∷ []

-- the codes of each pair, and those that wait after it
pub what_it_is_made_of : packed programme fresh_sender ≡ record { pair = roll_up2; codes = command RollUp2 ∷ []; left = queued (command CarriageReturn ∷ hi_codes) None } ∷ record { pair = carriage_return; codes = command CarriageReturn ∷ []; left = queued hi_codes None } ∷ record { pair = hi; codes = hi_codes; left = empty } ∷ []
unfolding ones ones_in write_code in_domain queueable admit pair_of code_of pop push_ring pop_ring ring.well_formed well_formed push_sender send send_sender drain_sender idle_sender on_line control_bytes meaning
what_it_is_made_of = refl

what_is_meant : events (read_once fresh (roll_up2 ∷ carriage_return ∷ hi ∷ [])) ≡ mode_event ∷ return_event ∷ hi_event ∷ []
unfolding read_pair ones ones_in standard step event_of text_event mode_of char_of meaning control_code_of
what_is_meant = refl

-- a copy of each command corrupted, the first of the one and the second of the other: all is decoded
abbrev one_corrupted_each : List Pair
one_corrupted_each = pair 0x14 0x25 ∷ roll_up2 ∷ carriage_return ∷ pair 0x94 0x2D ∷ hi ∷ []

pub one_corrupted_each_is_allowed : Line line one_corrupted_each
unfolding ones ones_in
one_corrupted_each_is_allowed =
    one_by_one_is_a_line line one_corrupted_each (refl, (refl, (refl, (refl, (refl, tt)))))
    (one.is_corrupted refl refl refl (one.arrives (one.arrives (one.is_corrupted refl refl refl (one.arrives one.ends)))))

pub one_corrupted_each_is_decoded : events (answers fresh one_corrupted_each) ≡ mode_event ∷ return_event ∷ hi_event ∷ []
unfolding read_pair ones ones_in standard step event_of text_event mode_of char_of meaning control_code_of
one_corrupted_each_is_decoded = refl

pub one_corrupted_each_is_refused : map is_refusal (answers fresh one_corrupted_each) ≡ true ∷ false ∷ false ∷ true ∷ false ∷ []
unfolding read_pair ones ones_in standard step
one_corrupted_each_is_refused = refl

-- both copies of the carriage return corrupted: the line may corrupt one, not both, and the window does not scroll
abbrev two_corrupted : List Pair
two_corrupted = roll_up2 ∷ roll_up2 ∷ pair 0x14 0xAD ∷ pair 0x94 0x2D ∷ hi ∷ []

pub two_corrupted_are_carried : Carried line two_corrupted
unfolding ones ones_in
two_corrupted_are_carried =
    agreed.arrives (agreed.arrives (agreed.is_corrupted refl refl (agreed.is_corrupted refl refl (agreed.arrives agreed.ends))))

pub two_corrupted_lose_a_command : events (answers fresh two_corrupted) ≡ mode_event ∷ hi_event ∷ []
unfolding read_pair ones ones_in standard step event_of text_event mode_of char_of meaning control_code_of
two_corrupted_lose_a_command = refl

-- the text corrupted, and no command: its words are lost
abbrev text_corrupted : List Pair
text_corrupted = roll_up2 ∷ roll_up2 ∷ carriage_return ∷ carriage_return ∷ pair 0x48 0xE9 ∷ []

pub corrupted_text_loses_words : events (answers fresh text_corrupted) ≡ mode_event ∷ return_event ∷ []
unfolding read_pair ones ones_in step event_of mode_of meaning control_code_of
corrupted_text_loses_words = refl

-- so the agreement fails for both: two events are decoded, and three were meant
fails : (arrived : List Pair) → length (events (answers fresh arrived)) ≡ 2 → Agreement (queue_pairs programme fresh_sender) (sent_by programme fresh_sender) arrived → ⊥
fails arrived two agrees =
    let meant = agrees.same_events ∙ ap (λ (ps : List Pair). events (read_once fresh ps)) what_is_sent.1 ∙ what_is_meant in
    omega (arith, two, ap length meant)

pub no_agreement_over_two_corrupted : Agreement (queue_pairs programme fresh_sender) (sent_by programme fresh_sender) two_corrupted → ⊥
no_agreement_over_two_corrupted agrees = fails two_corrupted (ap length two_corrupted_lose_a_command) agrees

pub no_agreement_over_corrupted_text : Agreement (queue_pairs programme fresh_sender) (sent_by programme fresh_sender) text_corrupted → ⊥
no_agreement_over_corrupted_text agrees = fails text_corrupted (ap length corrupted_text_loses_words) agrees

-- half a command: `Unknown` 14 before A is one pair of two single codes, 94 C1, and is sent twice
abbrev pub half_a_command : List Call
half_a_command =
    pushing (code.Unknown 0x14) ∷ pushing (single 0x41) ∷ sending ∷ sending ∷ []

pub half_a_command_is_sent_twice : (packed half_a_command fresh_sender ≡ record { pair = pair 0x94 0xC1; codes = code.Unknown 0x14 ∷ single 0x41 ∷ []; left = empty } ∷ []) × (sent_by half_a_command fresh_sender ≡ pair 0x94 0xC1 ∷ pair 0x94 0xC1 ∷ [])
unfolding ones ones_in write_code in_domain queueable admit pair_of code_of pop push_ring pop_ring ring.well_formed well_formed push_sender send send_sender
half_a_command_is_sent_twice = (refl, refl)

-- a carriage return queued twice is a stretch of four, and two corrupted copies lose one of the two scrolls
abbrev two_returns : List Call
two_returns =
    pushing (command CarriageReturn) ∷ pushing (command CarriageReturn) ∷ sending ∷ sending ∷ sending ∷ sending ∷ []

pub a_stretch_of_four : (sent_by two_returns fresh_sender ≡ carriage_return ∷ carriage_return ∷ carriage_return ∷ carriage_return ∷ []) × (queue_pairs two_returns fresh_sender ≡ carriage_return ∷ carriage_return ∷ [])
unfolding ones ones_in write_code in_domain queueable admit pair_of code_of pop push_ring pop_ring ring.well_formed well_formed push_sender send send_sender on_line control_bytes meaning
a_stretch_of_four = (refl, refl)

pub two_corrupted_of_four_lose_a_command :
    (events (read_once fresh (carriage_return ∷ carriage_return ∷ [])) ≡ return_event ∷ return_event ∷ [])
    × (events (answers fresh (carriage_return ∷ pair 0x14 0xAD ∷ pair 0x14 0xAD ∷ carriage_return ∷ [])) ≡ return_event ∷ [])
unfolding read_pair ones ones_in step event_of meaning control_code_of
two_corrupted_of_four_lose_a_command = (refl, refl)
