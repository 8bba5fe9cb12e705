-- What one pair does: a refusal changes nothing, text is never skipped, and a command that has no event still sets channel
-- and field.
-- Assumes nothing.
use Rattle.std.specs.Prelude.{Option, Some, None}
use mathlib.Core.Bool.{Bool, true, false, cond}
use mathlib.Core.List.{[], ◌∷◌, map}
use mathlib.Core.Path.{◌≡◌, refl, ap, sym, subst, ◌∙◌}
use Prim.Native.Nat.{ℕ}
use Rattle.code.proofs.OneAnswer.{clash}
use Rattle.code.proofs.WrittenLemmas.{even_is_refused, odd_is_read, read_as_text, single_is_no_command}
use Rattle.code.specs.Code.{symbol_char}
use Rattle.code.specs.Outcome.{Outcome, answer, refused}
use Rattle.code.specs.Parity.{is_odd, stripped}
use Rattle.code.specs.Read.{codes_of_bytes, is_command, is_odd_pair, read_pair, single}
use Rattle.code.specs.declared.channel.Channel.{Channel}
use Rattle.code.specs.declared.channel.Field.{Field}
use Rattle.code.specs.declared.code.Code.{Code}
use Rattle.code.specs.declared.code.Code.TheVariants as code
use Rattle.code.specs.declared.control.Command.TheVariants.{AlarmOff, AlarmOn, FlashOn, TextRestart, ResumeTextDisplay}
use Rattle.code.specs.declared.control.Control.TheVariants as control
use Rattle.code.specs.declared.control.ControlCode.{ControlCode}
use Rattle.code.specs.declared.pair.Pair.{Pair}
use Rattle.code.specs.declared.symbol.Symbol.{Symbol}
use Rattle.receiver.specs.Heard.{command_event, control_event, event_of}
use Rattle.receiver.specs.Reading.{once}
use Rattle.receiver.specs.Receiver.{acts, after_reading, field_after, forgotten, heard_codes, heard_command, heard_text, is_last, last_field, step, Stepped}
use Rattle.receiver.specs.declared.state.Cea608State.{Cea608State}
use Rattle.receiver.specs.declared.state.LastChannel.TheVariants as channel
use Rattle.event.specs.Mode.{mode_of}

-- a pair that is read as a command
abbrev pub IsCommand : Pair → ControlCode → Type 0
IsCommand p c = (y : Code) × (read_pair p.0 p.1 ≡ answer (code.Control c, y))

-- a command does what `heard_command` says
pub step_command : (s : Cea608State) (p : Pair) (c : ControlCode) → IsCommand p c → step s p ≡ heard_command s p c
unfolding step
step_command s p c h = ap (after_reading s p) h.1

-- one that is not the last pair acts
pub command_acts : (s : Cea608State) (p : Pair) (c : ControlCode) → IsCommand p c → is_last p s.last_data ≡ false → step s p ≡ acts s p c
command_acts s p c h other = step_command s p c h ∙ rw other

-- and one that is gives no event, and changes nothing but the last pair, which is absent then
pub repeat_is_skipped : (s : Cea608State) (p : Pair) (c : ControlCode) → IsCommand p c → is_last p s.last_data ≡ true → step s p ≡ (answer None, forgotten s)
repeat_is_skipped s p c h same = step_command s p c h ∙ rw same

-- where it is not the last pair, `once` is `step`
pub once_where_no_repeat : (s : Cea608State) (p : Pair) (c : ControlCode) → IsCommand p c → is_last p s.last_data ≡ false → once s p ≡ step s p
once_where_no_repeat s p c h other = step_command (forgotten s) p c h ∙ sym (command_acts s p c h other)

-- a pair that cannot be read is refused by the reading's number
unread_is_refused : (s : Cea608State) (p : Pair) (n : ℕ) → read_pair p.0 p.1 ≡ refused n → step s p ≡ (refused n, s)
unfolding step
unread_is_refused s p n h = ap (after_reading s p) h

-- so the refusal is 1, exactly where a byte has an even count of ones
pub even_is_refused_1 : (s : Cea608State) (p : Pair) → is_odd_pair p ≡ false → step s p ≡ (refused 1, s)
even_is_refused_1 s p even = unread_is_refused s p 1 (even_is_refused p.0 p.1 even)

module _ (s : Cea608State) (p : Pair) (n : ℕ) where
  refused_command : (t : Bool) (x y : Stepped) → ((x.0 ≡ refused n) → ⊥) → ((y.0 ≡ refused n) → ⊥) → (cond t x y).0 ≡ refused n → ⊥
  refused_command true x y hx hy e = hx e
  refused_command false x y hx hy e = hy e

  refused_codes : (x y : Code) → (heard_codes s p x y).0 ≡ refused n → (heard_codes s p x y).1 ≡ s
  refused_codes (code.Control c) y e = absurd (refused_command (is_last p s.last_data) _ _ (λ q. clash q) (λ q. clash q) e)
  refused_codes code.Nul y e = absurd (clash e)
  refused_codes (code.Letter l) y e = absurd (clash e)
  refused_codes (code.Unknown b) y e = absurd (clash e)

  refused_reading : (o : Outcome (Code × Code)) → (after_reading s p o).0 ≡ refused n → (after_reading s p o).1 ≡ s
  refused_reading (answer codes) e = refused_codes codes.0 codes.1 e
  refused_reading (refused m) e = refl

  pub a_refusal_changes_nothing : (step s p).0 ≡ refused n → (step s p).1 ≡ s
  unfolding step
  a_refusal_changes_nothing e = refused_reading (read_pair p.0 p.1) e

  codes_are_answered : (x y : Code) → (heard_codes s p x y).0 ≡ refused n → ⊥
  codes_are_answered (code.Control c) y e = refused_command (is_last p s.last_data) _ _ (λ q. clash q) (λ q. clash q) e
  codes_are_answered code.Nul y e = clash e
  codes_are_answered (code.Letter l) y e = clash e
  codes_are_answered (code.Unknown b) y e = clash e

  pub odd_is_not_refused : is_odd_pair p ≡ true → (step s p).0 ≡ refused n → ⊥
  unfolding step
  odd_is_not_refused odd e =
      let codes = codes_of_bytes (stripped p.0) (stripped p.1) in
      codes_are_answered codes.0 codes.1 (sym (ap (λ (o : Outcome (Code × Code)). (after_reading s p o).0) (odd_is_read p.0 p.1 odd)) ∙ e)

-- what is no command is text, whatever the last pair was
no_command : (s : Cea608State) (p : Pair) (x y : Code) → ((c : ControlCode) → x ≡ code.Control c → ⊥) → heard_codes s p x y ≡ heard_text s p x y
no_command s p (code.Control c) y h = absurd (h c refl)
no_command s p code.Nul y h = refl
no_command s p (code.Letter l) y h = refl
no_command s p (code.Unknown b) y h = refl

pub text_is_never_skipped : (s : Cea608State) (p : Pair) → is_odd p.0 ≡ true → is_odd p.1 ≡ true → is_command (stripped p.0) ≡ false → step s p ≡ heard_text s p (single (stripped p.0)) (single (stripped p.1))
unfolding step
text_is_never_skipped s p odd0 odd1 text =
    ap (after_reading s p) (read_as_text p.0 p.1 odd0 odd1 text)
    ∙ no_command s p (single (stripped p.0)) (single (stripped p.1)) (single_is_no_command (stripped p.0))

-- read once, a command acts and text is text
pub command_once : (s : Cea608State) (p : Pair) (c : ControlCode) → IsCommand p c → once s p ≡ acts s p c
command_once s p c h = step_command (forgotten s) p c h

pub text_once : (s : Cea608State) (p : Pair) → is_odd p.0 ≡ true → is_odd p.1 ≡ true → is_command (stripped p.0) ≡ false → once s p ≡ heard_text s p (single (stripped p.0)) (single (stripped p.1))
text_once s p = text_is_never_skipped (forgotten s) p

-- alarms, flash and the text commands, `Unknown`, and a symbol without a character have no event
pub commands_without_event : (ch : Channel) → map (command_event ch) (AlarmOff ∷ AlarmOn ∷ FlashOn ∷ TextRestart ∷ ResumeTextDisplay ∷ []) ≡ None ∷ None ∷ None ∷ None ∷ None ∷ []
unfolding mode_of
commands_without_event ch = refl

pub unknown_without_event : (ch : Channel) (a b : ℕ) → control_event ch (control.Unknown a b) ≡ None
unknown_without_event ch a b = refl

pub symbol_without_event : (ch : Channel) (s : Symbol) → symbol_char s ≡ None → control_event ch (control.Symbol s) ≡ None
symbol_without_event ch s h = rw h

-- what a command leaves: it is the last pair, its channel is the last channel, and the last field is its own, or as it was
-- where it names none
pub record Sets (p : Pair) (c : ControlCode) (before after : Cea608State) : Type 0 where
  pub pair : after.last_data ≡ Some p
  pub channel : after.last_channel ≡ channel.Known c.channel
  pub own_field : (f : Field) → c.field ≡ Some f → last_field after ≡ Some f
  pub no_field : c.field ≡ None → last_field after ≡ last_field before

-- with an event or without one
pub a_command_sets : (s : Cea608State) (p : Pair) (c : ControlCode) → IsCommand p c → is_last p s.last_data ≡ false → Sets p c s (step s p).1
a_command_sets s p c h other =
    subst (λ (r : Stepped). Sets p c s r.1) (sym (command_acts s p c h other))
    (record {
      pair = refl;
      channel = refl;
      own_field = λ f own. ap (λ (g : Option Field). field_after g (last_field s)) own;
      no_field = λ none_named. ap (λ (g : Option Field). field_after g (last_field s)) none_named;
    })

pub silent_command_lem : (s : Cea608State) (p : Pair) (c : ControlCode) → IsCommand p c → is_last p s.last_data ≡ false → event_of c ≡ None → (step s p).0 ≡ answer None
silent_command_lem s p c h other silent = ap (λ (r : Stepped). r.0) (command_acts s p c h other) ∙ ap answer silent
