-- What padding does to a receiver: it gives no event, and leaves channel and field as they are.
-- Assumes nothing.
use Rattle.std.specs.Prelude.{Some, None}
use mathlib.Core.Path.{◌≡◌, refl, ap, ◌∙◌}
use Rattle.agreement.specs.Pairs.{padding}
use Rattle.code.proofs.WrittenLemmas.{padding_read}
use Rattle.code.specs.Outcome.{answer}
use Rattle.code.specs.declared.code.Code.TheVariants as code
use Rattle.receiver.specs.Reading.{once}
use Rattle.receiver.specs.Receiver.{after_reading, forgotten, state, step, text_for}
use Rattle.receiver.specs.declared.state.Cea608State.{Cea608State}
use Rattle.receiver.specs.declared.state.LastChannel.{LastChannel}
use Rattle.receiver.specs.declared.state.LastChannel.TheVariants as channel
use Rattle.receiver.specs.Heard.{text_event}
use Rattle.code.specs.Code.{char_of}

no_text : (ch : LastChannel) → text_for ch code.Nul code.Nul ≡ None
unfolding text_event char_of
no_text channel.Absent = refl
no_text (channel.Known ch) = refl

abbrev pub after_padding : Cea608State → Cea608State
after_padding s = state (Some padding) s.last_channel s.last_received_field

pub padding_step : (s : Cea608State) → step s padding ≡ (answer None, after_padding s)
unfolding step
padding_step s = ap (after_reading s padding) padding_read ∙ rw (no_text s.last_channel)

pub padding_once : (s : Cea608State) → once s padding ≡ (answer None, after_padding s)
padding_once s = padding_step (forgotten s)
