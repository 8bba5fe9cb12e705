-- The channel that an event is for, and which event is text: the port's own words.
use Rattle.std.specs.Prelude.{Bool, true, false}
use Rattle.code.specs.declared.channel.Channel.{Channel}
use Rattle.event.specs.declared.event.Cea608.{Cea608}
use Rattle.event.specs.declared.event.Cea608.TheVariants as event

abbrev pub channel_of_event : Cea608 → Channel
channel_of_event (event.Text t) = t.channel
channel_of_event (event.NewMode ch m) = ch
channel_of_event (event.EraseDisplay ch) = ch
channel_of_event (event.EraseNonDisplay ch) = ch
channel_of_event (event.CarriageReturn ch) = ch
channel_of_event (event.Backspace ch) = ch
channel_of_event (event.EndOfCaption ch) = ch
channel_of_event (event.TabOffset ch n) = ch
channel_of_event (event.DeleteToEndOfRow ch) = ch
channel_of_event (event.Preamble ch p) = ch
channel_of_event (event.MidRowChange ch m) = ch

abbrev pub is_text : Cea608 → Bool
is_text (event.Text t) = true
is_text (event.NewMode ch m) = false
is_text (event.EraseDisplay ch) = false
is_text (event.EraseNonDisplay ch) = false
is_text (event.CarriageReturn ch) = false
is_text (event.Backspace ch) = false
is_text (event.EndOfCaption ch) = false
is_text (event.TabOffset ch n) = false
is_text (event.DeleteToEndOfRow ch) = false
is_text (event.Preamble ch p) = false
is_text (event.MidRowChange ch m) = false
