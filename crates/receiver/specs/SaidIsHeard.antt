-- What is said is heard: the codes of an event, written as a pair and received, give that event. In the port's own words,
-- over the definitions of `IntoCode`, of writing and of the receiver. `SaidIsHeardLaw` is of every event that is no text,
-- `TextIsHeardLaw` and `CharacterByCharacterLaw` of text, and `ReportedAgainLaw` of whatever a receiver has reported.
-- proofs/ has a file for each: SaidIsHeard, TextIsHeard, ReportedAgain.
use Rattle.std.specs.Prelude.{None, Option, ℕ, true, false, ◌≡◌, Some}
use Rattle.code.specs.Code.{needs_backspace}
use Rattle.code.specs.Outcome.{answer}
use Rattle.code.specs.Read.{is_command_pair}
use Rattle.code.specs.Write.{write_two}
use Rattle.code.specs.declared.channel.Field.{Field}
use Rattle.code.specs.declared.code.Code.{Code}
use Rattle.code.specs.declared.code.Code.TheVariants as code
use Rattle.code.specs.declared.control.ControlCode.{ControlCode}
use Rattle.code.specs.declared.letter.Letter.{Letter}
use Rattle.code.specs.declared.pair.Pair.{Pair}
use Rattle.event.specs.Event.{channel_of_event, is_text}
use Rattle.event.specs.IntoCode.{codes, codes_of}
use Rattle.event.specs.declared.event.Cea608.{Cea608}
use Rattle.event.specs.declared.event.Cea608.TheVariants as event
use Rattle.event.specs.declared.event.Text.{Text}
use Rattle.receiver.specs.Receiver.{Stepped, field_after, is_last, last_field, state, step}
use Rattle.receiver.specs.declared.state.Cea608State.{Cea608State}
use Rattle.receiver.specs.declared.state.LastChannel.TheVariants as channel

-- the field that an event's codes name: those of 14 20 to 14 2F, or 15 20 to 15 2F, name it; a tab, a preamble, a mid-row
-- code and text do not
abbrev pub field_named : Cea608 → Field → Option Field
field_named (event.Text t) f = None
field_named (event.NewMode ch m) f = Some f
field_named (event.EraseDisplay ch) f = Some f
field_named (event.EraseNonDisplay ch) f = Some f
field_named (event.CarriageReturn ch) f = Some f
field_named (event.Backspace ch) f = Some f
field_named (event.EndOfCaption ch) f = Some f
field_named (event.TabOffset ch n) f = None
field_named (event.DeleteToEndOfRow ch) f = Some f
field_named (event.Preamble ch p) f = None
field_named (event.MidRowChange ch m) f = None

-- the event is reported, its pair is the last one, its channel is the last channel, and the field is the one that it names,
-- or stays
abbrev pub reports : Cea608State → Pair → Field → Cea608 → Stepped
reports s p f e =
    (answer (Some e), state (Some p) (channel.Known (channel_of_event e)) (field_after (field_named e f) (last_field s)))

-- two codes are written as one pair. Every receiver reports it as that event: a command unless it takes it for a repeat of
-- the pair before it, text where the event's channel is the last one.
pub record Reported (x y : Code) (f : Field) (e : Cea608) : Type 0 where
  pub pair : Pair
  pub written : write_two x y ≡ answer pair
  pub command_decoded : is_command_pair pair ≡ true → (s : Cea608State) → is_last pair s.last_data ≡ false → step s pair ≡ reports s pair f e
  pub text_decoded : is_command_pair pair ≡ false → (s : Cea608State) → s.last_channel ≡ channel.Known (channel_of_event e) → step s pair ≡ reports s pair f e

-- the pair of an event that is no text is a command pair
abbrev pub CommandReported : Code → Code → Field → Cea608 → Type 0
CommandReported x y f e = (r : Reported x y f e) × (is_command_pair r.pair ≡ true)

abbrev pub SaidIsHeardLaw : Type 0
SaidIsHeardLaw = (e : Cea608) (f : Field) (x y : Code) → is_text e ≡ false → codes_of e f ≡ codes x y → CommandReported x y f e

-- the codes of a text share one pair where both are standard characters, or one of them is and the other is absent, or
-- where a symbol stands alone; a symbol beside another character needs two pairs
pub data InOnePair : Code → Code → Type 0 where
  two_letters : (l m : Letter) → InOnePair (code.Letter l) (code.Letter m)
  only_a_first : (l : Letter) → InOnePair (code.Letter l) code.Nul
  only_a_second : (l : Letter) → InOnePair code.Nul (code.Letter l)
  only_a_symbol : (c : ControlCode) → InOnePair (code.Control c) code.Nul

-- the backspace mark of a text is not in its codes: it is heard with the mark that its first code has
abbrev pub marked : Text → Code → Text
marked t x = record { needs_backspace = needs_backspace x; char1 = t.char1; char2 = t.char2; channel = t.channel }

abbrev pub TextIsHeardLaw : Type 0
TextIsHeardLaw =
    (t : Text) (f : Field) (x y : Code) → codes_of (event.Text t) f ≡ codes x y → InOnePair x y → Reported x y f (event.Text (marked t x))

-- Any text, also one that needs two pairs: each of its characters, sent as a pair of its own, is heard as a text of that
-- character alone.
abbrev pub only : Text → Code → Option ℕ → Text
only t x k = record { needs_backspace = needs_backspace x; char1 = k; char2 = None; channel = t.channel }

abbrev pub HeardAlone : Text → Field → Code → Option ℕ → Type 0
HeardAlone t f x k = (c : ℕ) → k ≡ Some c → Reported x code.Nul f (event.Text (only t x k))

abbrev pub CharacterByCharacterLaw : Type 0
CharacterByCharacterLaw =
    (t : Text) (f : Field) (x y : Code) → codes_of (event.Text t) f ≡ codes x y → HeardAlone t f x t.char1 × HeardAlone t f y t.char2

-- an event that a receiver has reported, mark and all, has codes for every field, and is heard again
abbrev pub ReportedAgainLaw : Type 0
ReportedAgainLaw =
    (s : Cea608State) (p : Pair) (e : Cea608) (f : Field) → (step s p).0 ≡ answer (Some e) → (x : Code) × (y : Code) × (codes_of e f ≡ codes x y) × Reported x y f e
