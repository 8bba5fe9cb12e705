-- What a receiver reports where the padding of what arrived was changed, in the port's own words: demand 3 of the
-- customer's letter and the frame-rate law together. Padding moves the places of answers, not their order.
-- `AnyPaddingLaw` at the end is the law; `at_any_padding` in proofs/AnyPadding.antt proves it.
use Rattle.std.specs.Prelude.{true, List, ◌≡◌}
use Rattle.code.specs.declared.pair.Pair.{Pair}
use Rattle.receiver.specs.Reading.{after, after_once, answers, events, read_once}
use Rattle.receiver.specs.Receiver.{fresh}
use Rattle.agreement.specs.Agreement.{EndsIdle, Line, queue_pairs, sent_by}
use Rattle.agreement.specs.FrameRate.{Repadded, to_others}
use Rattle.sender.specs.Calls.{Call, no_reset}
use Rattle.sender.specs.Sender.{fresh_sender}

pub record AtAnyPadding (queued arrived padded : List Pair) : Type 0 where
  pub same_events : events (answers fresh padded) ≡ events (read_once fresh queued)
  pub same_channel : (after fresh padded).last_channel ≡ (after_once fresh queued).last_channel
  pub same_field : (after fresh padded).last_received_field ≡ (after_once fresh queued).last_received_field
  -- the answers to all pairs but padding, refusals among them, in order
  pub same_answers : to_others padded (answers fresh padded) ≡ to_others arrived (answers fresh arrived)

abbrev pub AnyPaddingLaw : Type 0
AnyPaddingLaw =
    (calls : List Call) (arrived padded : List Pair) → no_reset calls ≡ true → EndsIdle calls → Line (sent_by calls fresh_sender) arrived → Repadded fresh arrived padded → AtAnyPadding (queue_pairs calls fresh_sender) arrived padded
