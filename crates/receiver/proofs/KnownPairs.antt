-- The known pairs are decoded as their events; those without an event give none; and each leaves its channel and field.
-- Assumes nothing.
use mathlib.Core.Bool.{false}
use mathlib.Core.List.{[], ◌∷◌, map}
use Rattle.std.specs.Prelude.{None, Some}
use mathlib.Core.Path.{◌≡◌, refl}
use lib.Count.{ones, ones_in}
use Rattle.code.specs.Channel.{channel_two}
use Rattle.code.specs.Characters.{standard, symbols}
use Rattle.code.specs.Code.{char_of}
use Rattle.code.specs.Outcome.{answer}
use Rattle.code.specs.Pair.{pair}
use Rattle.code.specs.Read.{control_code_of, meaning, read_pair}
use Rattle.code.specs.declared.code.Code.TheVariants as code
use Rattle.event.specs.KnownPairs.{Known, known_pairs}
use Rattle.event.specs.Mode.{mode_of}
use Rattle.event.specs.declared.event.Cea608.TheVariants as event
use Rattle.event.specs.declared.mode.Mode.TheVariants.{PopOn}
use Rattle.receiver.specs.Heard.{event_of, text_event}
use Rattle.receiver.specs.KnownPairs.{Leaves, Silent, known_to_leave, on_channel_one, silent_pairs}
use Rattle.receiver.specs.Reading.{after, answers}
use Rattle.receiver.specs.Receiver.{fresh, last_field, step}
use Rattle.receiver.specs.declared.state.LastChannel.TheVariants as channel

pub decoded_as_known : map (λ (k : Known). (step on_channel_one k.pair).0) known_pairs ≡ map (λ (k : Known). answer (Some k.event)) known_pairs
unfolding ones ones_in standard symbols char_of meaning control_code_of read_pair mode_of event_of text_event step
decoded_as_known = refl

pub silent_as_known : map (λ (k : Silent). (step on_channel_one k.pair).0) silent_pairs ≡ map (λ (k : Silent). answer None) silent_pairs
unfolding ones ones_in standard symbols char_of meaning control_code_of read_pair mode_of event_of text_event step
silent_as_known = refl

pub silent_read_as_known : map (λ (k : Silent). read_pair k.pair.0 k.pair.1) silent_pairs ≡ map (λ (k : Silent). answer (code.Control k.code, code.Nul)) silent_pairs
unfolding ones ones_in meaning control_code_of read_pair
silent_read_as_known = refl

pub channel_left_as_known : map (λ (l : Leaves). (after fresh l.pairs).last_channel) known_to_leave ≡ map (λ (l : Leaves). channel.Known l.channel) known_to_leave
unfolding ones ones_in standard symbols char_of meaning control_code_of read_pair mode_of event_of text_event step
channel_left_as_known = refl

pub field_left_as_known : map (λ (l : Leaves). last_field (after fresh l.pairs)) known_to_leave ≡ map (λ (l : Leaves). Some l.field) known_to_leave
unfolding ones ones_in standard symbols char_of meaning control_code_of read_pair mode_of event_of text_event step
field_left_as_known = refl

-- text is for the channel that was named last: pop-on for channel two, then Hi
pub text_on_channel_two : answers fresh (pair 0x1C 0x20 ∷ pair 0xC8 0xE9 ∷ []) ≡ answer (Some (event.NewMode channel_two PopOn)) ∷ answer (Some (event.Text (record { needs_backspace = false; char1 = Some 0x48; char2 = Some 0x69; channel = channel_two }))) ∷ []
unfolding ones ones_in standard symbols char_of meaning control_code_of read_pair mode_of event_of text_event step
text_on_channel_two = refl
