-- Text that shares one pair is heard, with the mark that its first code has; any text is heard character by character.
-- Assumes nothing.
use Rattle.std.specs.Prelude.{None, Option, Some}
use mathlib.Core.Bool.{true≢false}
use mathlib.Core.Path.{◌≡◌, refl, ap, ap₂, sym, subst, ◌∙◌}
use Prim.Native.Nat.{ℕ}
use native.Mathlib.Omega.{arith}
use Rattle.code.proofs.BothWays.{a_characters_code_has_it, a_characters_control_is_a_symbol, a_letter_has_a_character, absent_is_no_point}
use Rattle.code.proofs.OneAnswer.{same}
use Rattle.code.proofs.ReadBack.{symbol_reads_back, text_reads_back}
use Rattle.code.specs.Code.{char_of, needs_backspace, symbol_char}
use Rattle.code.specs.Outcome.{Outcome, answer, refused}
use Rattle.code.specs.ReadBack.{TextReadsBack}
use Rattle.code.specs.declared.channel.Channel.{Channel}
use Rattle.code.specs.declared.channel.Field.{Field}
use Rattle.code.specs.declared.code.Code.{Code}
use Rattle.code.specs.declared.code.Code.TheVariants as code
use Rattle.code.specs.declared.control.Control.TheVariants as control
use Rattle.code.specs.declared.control.ControlCode.{ControlCode}
use Rattle.code.specs.declared.letter.Letter.{Letter}
use Rattle.code.specs.declared.pair.Pair.{Pair}
use Rattle.code.specs.declared.symbol.Symbol.{Symbol}
use Rattle.event.specs.IntoCode.{character_code, codes, codes_of, in_order}
use Rattle.event.specs.declared.event.Cea608.{Cea608}
use Rattle.event.specs.declared.event.Cea608.TheVariants as event
use Rattle.event.specs.declared.event.Text.{Text}
use Rattle.receiver.proofs.SaidIsHeard.{control_reported, first_code, second_code}
use Rattle.receiver.specs.Heard as heard
use Rattle.receiver.specs.Heard.{plain_text, text_event, text_of}
use Rattle.receiver.specs.Receiver.{after_reading, heard_codes, heard_text, last_field, state, step, Stepped, text_for}
use Rattle.receiver.specs.SaidIsHeard.{CharacterByCharacterLaw, HeardAlone, InOnePair, Reported, TextIsHeardLaw, marked, only, only_a_first, only_a_second, only_a_symbol, two_letters}
use Rattle.receiver.specs.declared.state.Cea608State.{Cea608State}
use Rattle.receiver.specs.declared.state.LastChannel.{LastChannel}
use Rattle.receiver.specs.declared.state.LastChannel.TheVariants as channel

-- the code of a character, or NUL for none, has that character
has_its_character : (k : Option ℕ) (ch : Channel) (x : Code) → character_code k ch ≡ answer x → char_of x ≡ k
unfolding char_of
has_its_character (Some c) ch x e = a_characters_code_has_it c ch x e
has_its_character None ch x e = ap char_of (sym (same e))

-- the two codes of a text are those of its characters
both_codes : (o p : Outcome Code) (x y : Code) → in_order o p ≡ codes x y → (o ≡ answer x) × (p ≡ answer y)
unfolding first_code second_code
both_codes (answer v) (answer w) x y e = (ap answer (ap first_code e), ap answer (ap second_code e))
both_codes (answer v) (refused n) x y e = let z : ◌≡◌ {A = ℕ} 0 1 = cc in absurd (omega arith)
both_codes (refused n) (answer w) x y e = let z : ◌≡◌ {A = ℕ} 0 1 = cc in absurd (omega arith)
both_codes (refused n) (refused m) x y e = let z : ◌≡◌ {A = ℕ} 0 1 = cc in absurd (omega arith)

-- a text with a character, from its characters
made : (ch : Channel) (k l : Option ℕ) → (k ≡ None → l ≡ None → ⊥) → text_of ch k l ≡ Some (plain_text ch k l)
made ch (Some c) l some_character = refl
made ch None (Some d) some_character = refl
made ch None None some_character = absurd (some_character refl refl)

-- single codes that are read back are reported as text
plain_reported : (t : Text) (f : Field) (x y : Code) → TextReadsBack x y → ((s : Cea608State) (p : Pair) → heard_codes s p x y ≡ heard_text s p x y) → text_event t.channel x y ≡ Some (event.Text t) → Reported x y f (event.Text t)
unfolding step
plain_reported t f x y back as_text_lem is = record {
  pair = back.pair;
  written = back.written;
  command_decoded = λ is_a_command s other. absurd (true≢false (sym is_a_command ∙ back.no_command));
  text_decoded = λ is_text_lem s on.
      ap (after_reading s back.pair) back.read
      ∙ as_text_lem s back.pair
      ∙ ap {B = Stepped} (λ (l : LastChannel). (answer (text_for l x y), state (Some back.pair) l (last_field s))) on
      ∙ ap {B = Stepped} (λ (o : Option Cea608). (answer o, state (Some back.pair) (channel.Known t.channel) (last_field s))) is;
}

module _ (t : Text) (x y : Code) (first : character_code t.char1 t.channel ≡ answer x) (second : character_code t.char2 t.channel ≡ answer y) where
  first_is : char_of x ≡ t.char1
  first_is = has_its_character t.char1 t.channel x first

  second_is : char_of y ≡ t.char2
  second_is = has_its_character t.char2 t.channel y second

  pub its_text : (char_of x ≡ None → char_of y ≡ None → ⊥) → text_event t.channel x y ≡ Some (plain_text t.channel t.char1 t.char2)
  unfolding text_event
  its_text some_character =
      ap₂ (text_of t.channel) first_is second_is
      ∙ made t.channel t.char1 t.char2 (λ no_first no_second. some_character (first_is ∙ no_first) (second_is ∙ no_second))

has_one : (l : Letter) → char_of (code.Letter l) ≡ None → ⊥
has_one l e = absent_is_no_point (sym e ∙ (a_letter_has_a_character l).1)

-- a symbol alone
abbrev bare_symbol : Channel → Symbol → ControlCode
bare_symbol ch s = record { field = None; channel = ch; control = control.Symbol s }

abbrev as_text : ControlCode → Option ℕ → Option ℕ → Channel → Cea608
as_text c k l ch = event.Text (record { needs_backspace = needs_backspace (code.Control c); char1 = k; char2 = l; channel = ch })

symbol_heard : (f : Field) (ch : Channel) (k l : Option ℕ) (c : ControlCode) → character_code k ch ≡ answer (code.Control c) → character_code l ch ≡ answer code.Nul → Reported (code.Control c) code.Nul f (as_text c k l ch)
unfolding char_of
symbol_heard f ch (Some p) l c first second =
    let found = a_characters_control_is_a_symbol p ch c first in
    let s = found.0 in
    let has : symbol_char s ≡ Some p = ap char_of (sym (ap code.Control found.1)) ∙ a_characters_code_has_it p ch (code.Control c) first in
    let none_left : l ≡ None = sym (has_its_character l ch code.Nul second) in
    subst (λ (d : ControlCode). Reported (code.Control d) code.Nul f (as_text d (Some p) l ch)) (sym found.1)
    (subst (λ (m : Option ℕ). Reported (code.Control (bare_symbol ch s)) code.Nul f (as_text (bare_symbol ch s) (Some p) m ch)) (sym none_left)
    (control_reported None f ch (control.Symbol s) _ (symbol_reads_back None ch s) (ap (heard.symbol_text ch s) has) refl refl).0)
symbol_heard f ch None l c first second = let z : ◌≡◌ {A = ℕ} 0 1 = cc in absurd (omega arith)

shared : (t : Text) (f : Field) (x y : Code) → character_code t.char1 t.channel ≡ answer x → character_code t.char2 t.channel ≡ answer y → InOnePair x y → Reported x y f (event.Text (marked t x))
shared t f x y first second (two_letters l m) =
    plain_reported (marked t (code.Letter l)) f _ _ (text_reads_back (code.Letter l) (code.Letter m) refl refl) (λ s p. refl)
    (its_text t _ _ first second (λ no_first no_second. has_one l no_first))
shared t f x y first second (only_a_first l) =
    plain_reported (marked t (code.Letter l)) f _ _ (text_reads_back (code.Letter l) code.Nul refl refl) (λ s p. refl)
    (its_text t _ _ first second (λ no_first no_second. has_one l no_first))
shared t f x y first second (only_a_second l) =
    plain_reported (marked t code.Nul) f _ _ (text_reads_back code.Nul (code.Letter l) refl refl) (λ s p. refl)
    (its_text t _ _ first second (λ no_first no_second. has_one l no_second))
shared t f x y first second (only_a_symbol c) = symbol_heard f t.channel t.char1 t.char2 c first second

pub text_is_heard : TextIsHeardLaw
unfolding codes_of
text_is_heard t f x y told one =
    let both = both_codes (character_code t.char1 t.channel) (character_code t.char2 t.channel) x y told in
    shared t f x y both.0 both.1 one

-- a character's code alone is a letter or a symbol
alone_in_one : (c : ℕ) (x : Code) → char_of x ≡ Some c → InOnePair x code.Nul
unfolding char_of
alone_in_one c code.Nul has = absurd (absent_is_no_point has)
alone_in_one c (code.Control s) has = only_a_symbol s
alone_in_one c (code.Letter l) has = only_a_first l
alone_in_one c (code.Unknown b) has = absurd (absent_is_no_point has)

heard_alone : (t : Text) (f : Field) (x : Code) (k : Option ℕ) → character_code k t.channel ≡ answer x → HeardAlone t f x k
unfolding codes_of
heard_alone t f x k told c is =
    text_is_heard (only t x k) f x code.Nul (ap (λ (o : Outcome Code). in_order o (answer code.Nul)) told)
    (alone_in_one c x (has_its_character k t.channel x told ∙ is))

pub character_by_character : CharacterByCharacterLaw
unfolding codes_of
character_by_character t f x y told =
    let both = both_codes (character_code t.char1 t.channel) (character_code t.char2 t.channel) x y told in
    (heard_alone t f x t.char1 both.0, heard_alone t f y t.char2 both.1)
