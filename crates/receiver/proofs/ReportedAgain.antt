-- What a receiver has reported is said and heard again, mark and all: its codes for any field, written and received, give
-- the same event.
-- Assumes nothing.
use Rattle.std.specs.Prelude.{Option, None, Some}
use mathlib.Core.Bool.{Bool, true, false, cond}
use mathlib.Core.Logic.{◌⊎◌, inl, inr}
use Rattle.std.proofs.lemmas.Option.{none-some, same_Some}
use mathlib.Core.Path.{◌≡◌, refl, ap, ap₂, sym, subst, ◌∙◌}
use Prim.Native.Nat.{ℕ, ◌-◌, ◌<◌}
use borrow.Author.Tests.{le-leb}
use native.Mathlib.Omega.{arith}
use lib.Dec.{eqb, leb}
use Rattle.code.proofs.Both.{both_true}
use Rattle.code.proofs.BothWays.{a_letter_has_a_character, a_letter_is_its_characters_code, a_symbol_is_its_characters_code}
use Rattle.code.proofs.OneAnswer.{clash, same}
use Rattle.code.proofs.ReadBack.{symbol_reads_back}
use Rattle.code.proofs.RoundTrip.{row_that_was_read}
use Rattle.code.proofs.WrittenLemmas.{read_as_command}
use Rattle.code.specs.Code.{char_of, symbol_char}
use Rattle.code.specs.Control.{control_code}
use Rattle.code.specs.Letter.{letter_at}
use Rattle.code.specs.Outcome.{Outcome, answer}
use Rattle.code.specs.Parity.{is_odd, stripped}
use Rattle.code.specs.Read.{control_code_of, is_command_pair, is_odd_pair, single}
use Rattle.code.specs.declared.channel.Channel.{Channel}
use Rattle.code.specs.declared.channel.Field.{Field}
use Rattle.code.specs.declared.code.Code.{Code}
use Rattle.code.specs.declared.code.Code.TheVariants as code
use Rattle.code.specs.declared.control.Command.{Command}
use Rattle.code.specs.declared.control.Command.TheVariants as command
use Rattle.code.specs.declared.control.Control.{Control}
use Rattle.code.specs.declared.control.Control.TheVariants as control
use Rattle.code.specs.declared.control.ControlCode.{ControlCode}
use Rattle.code.specs.declared.control.Tab.{Tab}
use Rattle.code.specs.declared.control.Tab.TheVariants as tab
use Rattle.code.specs.declared.letter.Letter.{Letter}
use Rattle.code.specs.declared.pair.Pair.{Pair}
use Rattle.code.specs.declared.preamble.PreambleAddressCode.{PreambleAddressCode}
use Rattle.code.specs.declared.symbol.Symbol.{Symbol}
use Rattle.event.specs.Event.{is_text}
use Rattle.event.specs.IntoCode.{codes, codes_of, in_order}
use Rattle.event.specs.declared.event.Cea608.{Cea608}
use Rattle.event.specs.declared.event.Cea608.TheVariants as event
use Rattle.event.specs.declared.event.Text.{Text}
use Rattle.receiver.proofs.SaidIsHeard.{control_reported, said_is_heard}
use Rattle.receiver.proofs.Step.{even_is_refused_1, step_command, text_is_never_skipped}
use Rattle.receiver.proofs.TextIsHeard.{text_is_heard}
use Rattle.receiver.specs.Heard.{control_event, event_of, symbol_text, text_event, text_of}
use Rattle.receiver.specs.Receiver.{Stepped, is_last, step, text_for}
use Rattle.receiver.specs.SaidIsHeard.{Reported, ReportedAgainLaw, only_a_first, only_a_second, two_letters}
use Rattle.receiver.specs.declared.state.Cea608State.{Cea608State}
use Rattle.receiver.specs.declared.state.LastChannel.{LastChannel}
use Rattle.event.specs.Mode.{mode_of}
use Rattle.receiver.specs.declared.state.LastChannel.TheVariants as channel

abbrev Again : Cea608 → Field → Type 0
Again e f = (x : Code) × (y : Code) × (codes_of e f ≡ codes x y) × Reported x y f e

-- an event that is no text, by its codes
no_text_again : (e : Cea608) (f : Field) (x y : Code) → is_text e ≡ false → codes_of e f ≡ codes x y → Again e f
no_text_again e f x y is told = (x, y, told, (said_is_heard e f x y is told).0)

-- an event that is given is the one that was reported
is_given : (e : Cea608) (f : Field) (d : Cea608) → Some d ≡ Some e → Again d f → Again e f
is_given e f d same_event again = subst (λ (x : Cea608). Again x f) (same_Some d e same_event) again

none_given : (e : Cea608) (f : Field) → None ≡ Some e → Again e f
none_given e f no_event = absurd (none-some e no_event)

command_again_lem : (c : Command) (ch : Channel) (e : Cea608) (f : Field) → control_event ch (control.Command c) ≡ Some e → Again e f
unfolding codes_of mode_of
command_again_lem command.ResumeCaptionLoading ch e f is = is_given e f _ is (no_text_again _ f _ _ refl refl)
command_again_lem command.Backspace ch e f is = is_given e f _ is (no_text_again _ f _ _ refl refl)
command_again_lem command.AlarmOff ch e f is = none_given e f is
command_again_lem command.AlarmOn ch e f is = none_given e f is
command_again_lem command.DeleteToEndOfRow ch e f is = is_given e f _ is (no_text_again _ f _ _ refl refl)
command_again_lem command.RollUp2 ch e f is = is_given e f _ is (no_text_again _ f _ _ refl refl)
command_again_lem command.RollUp3 ch e f is = is_given e f _ is (no_text_again _ f _ _ refl refl)
command_again_lem command.RollUp4 ch e f is = is_given e f _ is (no_text_again _ f _ _ refl refl)
command_again_lem command.FlashOn ch e f is = none_given e f is
command_again_lem command.ResumeDirectionCaptioning ch e f is = is_given e f _ is (no_text_again _ f _ _ refl refl)
command_again_lem command.TextRestart ch e f is = none_given e f is
command_again_lem command.ResumeTextDisplay ch e f is = none_given e f is
command_again_lem command.EraseDisplayedMemory ch e f is = is_given e f _ is (no_text_again _ f _ _ refl refl)
command_again_lem command.CarriageReturn ch e f is = is_given e f _ is (no_text_again _ f _ _ refl refl)
command_again_lem command.EraseNonDisplayedMemory ch e f is = is_given e f _ is (no_text_again _ f _ _ refl refl)
command_again_lem command.EndOfCaption ch e f is = is_given e f _ is (no_text_again _ f _ _ refl refl)

tab_again : (t : Tab) (ch : Channel) (e : Cea608) (f : Field) → control_event ch (control.Tab t) ≡ Some e → Again e f
unfolding codes_of
tab_again tab.TabOffset1 ch e f is = is_given e f _ is (no_text_again _ f _ _ refl refl)
tab_again tab.TabOffset2 ch e f is = is_given e f _ is (no_text_again _ f _ _ refl refl)
tab_again tab.TabOffset3 ch e f is = is_given e f _ is (no_text_again _ f _ _ refl refl)

preamble_again : (p : PreambleAddressCode) (ch : Channel) (e : Cea608) (f : Field) → p.row < 15 → Some (event.Preamble ch p) ≡ Some e → Again e f
unfolding codes_of
preamble_again p ch e f inside is =
    is_given e f _ is
    (no_text_again (event.Preamble ch p) f (code.Control (control_code f ch (control.Preamble p))) code.Nul refl (rw (le-leb p.row 14 (omega arith)) refl))

-- a symbol, by its character
symbol_by : (s : Symbol) (ch : Channel) (e : Cea608) (f : Field) (k : Option ℕ) → symbol_char s ≡ k → symbol_text ch s k ≡ Some e → Again e f
unfolding codes_of char_of
symbol_by s ch e f None has is = none_given e f is
symbol_by s ch e f (Some c) has is =
    let x = code.Control (record { field = None; channel = ch; control = control.Symbol s }) in
    is_given e f _ is (
      x,
      code.Nul,
      ap (λ (o : Outcome Code). in_order o (answer code.Nul)) (a_symbol_is_its_characters_code None ch s c ch has),
      (control_reported None f ch (control.Symbol s) _ (symbol_reads_back None ch s) (ap (symbol_text ch s) has) refl refl).0,
    )

control_again : (c : Control) (ch : Channel) (e : Cea608) (f : Field) → ((p : PreambleAddressCode) → c ≡ control.Preamble p → p.row < 15) → control_event ch c ≡ Some e → Again e f
unfolding codes_of
control_again (control.MidRow m) ch e f row is = is_given e f _ is (no_text_again _ f _ _ refl refl)
control_again (control.Symbol s) ch e f row is = symbol_by s ch e f (symbol_char s) refl is
control_again (control.Command c) ch e f row is = command_again_lem c ch e f is
control_again (control.Tab t) ch e f row is = tab_again t ch e f is
control_again (control.Preamble p) ch e f row is = preamble_again p ch e f (row p refl) is
control_again (control.Unknown a b) ch e f row is = none_given e f is

-- a single code of a pair is a letter, or has no character
letter_or_none : (b : ℕ) → ((l : Letter) × (single b ≡ code.Letter l)) ⊎ (char_of (single b) ≡ None)
unfolding char_of
letter_or_none b = kind (eqb b 0) (leb 0x20 b)
  where
    kind : (t u : Bool) → ((l : Letter) × (cond t code.Nul (cond u (code.Letter (letter_at (b - 0x20))) (code.Unknown b)) ≡ code.Letter l)) ⊎ (char_of (cond t code.Nul (cond u (code.Letter (letter_at (b - 0x20))) (code.Unknown b))) ≡ None)
    kind true u = inr refl
    kind false true = inl (letter_at (b - 0x20), refl)
    kind false false = inr refl

-- two letters, or one
abbrev as_plain : Channel → Option ℕ → Option ℕ → Text
as_plain ch k l = record { needs_backspace = false; char1 = k; char2 = l; channel = ch }

letters_again : (l m : Letter) (ch : Channel) (e : Cea608) (f : Field) → text_event ch (code.Letter l) (code.Letter m) ≡ Some e → Again e f
unfolding text_event codes_of
letters_again l m ch e f is =
    let one = a_letter_has_a_character l in
    let two = a_letter_has_a_character m in
    let told = ap₂ in_order (a_letter_is_its_characters_code l one.0 ch one.1) (a_letter_is_its_characters_code m two.0 ch two.1) in
    let t = as_plain ch (Some one.0) (Some two.0) in
    is_given e f (event.Text t) (sym (ap₂ (text_of ch) one.1 two.1) ∙ is)
    (code.Letter l, code.Letter m, told, text_is_heard t f (code.Letter l) (code.Letter m) told (two_letters l m))

first_again : (l : Letter) (y : Code) (ch : Channel) (e : Cea608) (f : Field) → char_of y ≡ None → text_event ch (code.Letter l) y ≡ Some e → Again e f
unfolding text_event codes_of
first_again l y ch e f no_second is =
    let one = a_letter_has_a_character l in
    let told = ap (λ (o : Outcome Code). in_order o (answer code.Nul)) (a_letter_is_its_characters_code l one.0 ch one.1) in
    let t = as_plain ch (Some one.0) None in
    is_given e f (event.Text t) (sym (ap₂ (text_of ch) one.1 no_second) ∙ is)
    (code.Letter l, code.Nul, told, text_is_heard t f (code.Letter l) code.Nul told (only_a_first l))

second_again : (x : Code) (m : Letter) (ch : Channel) (e : Cea608) (f : Field) → char_of x ≡ None → text_event ch x (code.Letter m) ≡ Some e → Again e f
unfolding text_event codes_of
second_again x m ch e f no_first is =
    let two = a_letter_has_a_character m in
    let told = ap (in_order (answer code.Nul)) (a_letter_is_its_characters_code m two.0 ch two.1) in
    let t = as_plain ch None (Some two.0) in
    is_given e f (event.Text t) (sym (ap₂ (text_of ch) no_first two.1) ∙ is)
    (code.Nul, code.Letter m, told, text_is_heard t f code.Nul (code.Letter m) told (only_a_second m))

text_again : (a b : ℕ) (ch : Channel) (e : Cea608) (f : Field) → text_event ch (single a) (single b) ≡ Some e → Again e f
unfolding text_event
text_again a b ch e f is = by_letters (letter_or_none a) (letter_or_none b)
  where
    by_letters : ((l : Letter) × (single a ≡ code.Letter l)) ⊎ (char_of (single a) ≡ None) → ((m : Letter) × (single b ≡ code.Letter m)) ⊎ (char_of (single b) ≡ None) → Again e f
    by_letters (inl l) (inl m) = letters_again l.0 m.0 ch e f (sym (ap₂ (text_event ch) l.1 m.1) ∙ is)
    by_letters (inl l) (inr empty) = first_again l.0 (single b) ch e f empty (sym (ap (λ (x : Code). text_event ch x (single b)) l.1) ∙ is)
    by_letters (inr empty) (inl m) = second_again (single a) m.0 ch e f empty (sym (ap (text_event ch (single a)) m.1) ∙ is)
    by_letters (inr empty) (inr empty_too) = none_given e f (sym (ap₂ (text_of ch) empty empty_too) ∙ is)

-- a pair of text, and a command
by_channel : (l : LastChannel) (a b : ℕ) (e : Cea608) (f : Field) → text_for l (single a) (single b) ≡ Some e → Again e f
by_channel channel.Absent a b e f is = none_given e f is
by_channel (channel.Known ch) a b e f is = text_again a b ch e f is

by_repeat : (s : Cea608State) (p : Pair) (c : ControlCode) (e : Cea608) (t : Bool) → cond t (answer None) (answer (event_of c)) ≡ answer (Some e) → event_of c ≡ Some e
by_repeat s p c e true is = absurd (none-some e (same is))
by_repeat s p c e false is = same is

answer_of : (t : Bool) (x y : Stepped) → (cond t x y).0 ≡ cond t x.0 y.0
answer_of true x y = refl
answer_of false x y = refl

module _ (s : Cea608State) (p : Pair) (e : Cea608) (f : Field) (is : (step s p).0 ≡ answer (Some e)) where
  read_command : is_odd_pair p ≡ true → is_command_pair p ≡ true → Again e f
  unfolding event_of
  read_command odd command =
      let parity = both_true (is_odd p.0) (is_odd p.1) odd in
      let c = control_code_of (stripped p.0) (stripped p.1) in
      let stepped = step_command s p c (code.Nul, read_as_command p.0 p.1 parity.0 parity.1 command) in
      let answered = sym (answer_of (is_last p s.last_data) _ _) ∙ sym (ap (λ (r : Stepped). r.0) stepped) ∙ is in
      control_again c.control c.channel e f (λ q read. row_that_was_read p.0 p.1 q command read)
      (by_repeat s p c e (is_last p s.last_data) answered)

  read_text : is_odd_pair p ≡ true → is_command_pair p ≡ false → Again e f
  read_text odd text =
      let parity = both_true (is_odd p.0) (is_odd p.1) odd in
      by_channel s.last_channel (stripped p.0) (stripped p.1) e f
      (same (sym (ap (λ (r : Stepped). r.0) (text_is_never_skipped s p parity.0 parity.1 text)) ∙ is))

  by_pair : (odd command : Bool) → is_odd_pair p ≡ odd → is_command_pair p ≡ command → Again e f
  by_pair true true odd kind = read_command odd kind
  by_pair true false odd kind = read_text odd kind
  by_pair false command even kind = absurd (clash (sym is ∙ ap (λ (r : Stepped). r.0) (even_is_refused_1 s p even)))

pub reported_again : ReportedAgainLaw
reported_again s p e f is = by_pair s p e f is (is_odd_pair p) (is_command_pair p) refl refl
