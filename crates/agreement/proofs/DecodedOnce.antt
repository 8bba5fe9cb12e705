-- What a receiver decodes of pairs sent doubled over a line that corrupts at most one copy in each stretch: the same as
-- if each pair were read once. Along a stretch it holds no command before the corrupted copy, and the stretch's own
-- after it. So one of the two copies of each pair acts: the first before the corrupted copy, the second after it.
-- Assumes nothing.
use mathlib.Core.Bool.{Bool, true, false, cond, true≢false}
use mathlib.Core.List.{List, [], ◌∷◌}
use Rattle.std.specs.Prelude.{Option, None, Some}
use mathlib.Core.Path.{◌≡◌, refl, ap, sym, subst, ◌∙◌}
use Rattle.code.proofs.Both.{both_true}
use Rattle.code.proofs.WrittenLemmas.{read_as_command}
use Rattle.code.specs.Outcome.{Outcome, answer, refused}
use Rattle.code.specs.Parity.{is_odd, stripped}
use Rattle.code.specs.Read.{control_code_of, is_command_pair, is_odd_pair, single}
use Rattle.code.specs.declared.code.Code.TheVariants as code
use Rattle.code.specs.declared.control.ControlCode.{ControlCode}
use Rattle.code.specs.declared.pair.Pair.{Pair}
use Rattle.event.specs.declared.event.Cea608.{Cea608}
use Rattle.receiver.proofs.Copies.{last_is_last}
use Rattle.agreement.proofs.FrameRate.{quiet_is_no_repeat}
use Rattle.receiver.proofs.Step.{IsCommand, command_acts, command_once, even_is_refused_1, repeat_is_skipped, text_is_never_skipped, text_once}
use Rattle.agreement.specs.FrameRate.{awaits}
use Rattle.receiver.specs.Reading.{after, after_once, answers, events, once, read_once}
use Rattle.receiver.specs.Receiver.{acts, field_after, forgotten, heard_text, is_last, step, text_for}
use Rattle.receiver.specs.declared.state.Cea608State.{Cea608State}
use Rattle.receiver.specs.declared.state.LastChannel.{LastChannel}
use Rattle.agreement.proofs.OneByOne.{same_is_equal}
use Rattle.code.proofs.SamePair.{same_itself}
use Rattle.agreement.specs.Doubled.{doubled}
use Rattle.agreement.specs.OneByOne.{AllOdd, OneByOne, goes_on, was_corrupted}
use Rattle.agreement.specs.OneByOne as one

-- two states with the same channel and field, whatever their last pairs
pub record Same (s t : Cea608State) : Type 0 where
  pub channel : s.last_channel ≡ t.last_channel
  pub field : s.last_received_field ≡ t.last_received_field

-- what arrived, read from one state, gives the events of the pairs read once from another
pub record Agrees (s t : Cea608State) (arrived ps : List Pair) : Type 0 where
  pub same_events : events (answers s arrived) ≡ events (read_once t ps)
  pub ends_same : Same (after s arrived) (after_once t ps)

-- what the receiver holds: after a corrupted copy the stretch's own command, else no command
abbrev pub Ready : Option Pair → Option Pair → Type 0
Ready None l = awaits l ≡ false
Ready (Some p) l = l ≡ Some p

-- so it takes a copy for a repeat exactly where one was corrupted before in the stretch
repeat_is_told : (h : Option Pair) (l : Option Pair) (p : Pair) (c : ControlCode) → IsCommand p c → Ready h l → is_last p l ≡ was_corrupted h p
repeat_is_told None l p c k r = quiet_is_no_repeat p c k.0 l k.1 r
repeat_is_told (Some q) l p c k r = ap (is_last p) r

-- an answer before both, and one without an event before what arrived alone
pub events_after : (o : Outcome (Option Cea608)) (xs ys : List (Outcome (Option Cea608))) → events xs ≡ events ys → events (o ∷ xs) ≡ events (o ∷ ys)
events_after (answer None) xs ys e = e
events_after (answer (Some x)) xs ys e = ap (λ (l : List Cea608). x ∷ l) e
events_after (refused n) xs ys e = e

heard_in_front : (s t s' t' : Cea608State) (o : Outcome (Option Cea608)) (q p : Pair) (qs ps : List Pair) → step s q ≡ (o, s') → once t p ≡ (o, t') → Agrees s' t' qs ps → Agrees s t (q ∷ qs) (p ∷ ps)
heard_in_front s t s' t' o q p qs ps one other a = record {
  same_events = rw (one, other) (events_after o (answers s' qs) (read_once t' ps) a.same_events);
  ends_same = rw (one, other) a.ends_same;
}

silent_in_front : (s t s' : Cea608State) (q : Pair) (qs ps : List Pair) → step s q ≡ (answer None, s') → Agrees s' t qs ps → Agrees s t (q ∷ qs) ps
silent_in_front s t s' q qs ps one a = record { same_events = rw one a.same_events; ends_same = rw one a.ends_same }

corrupted_in_front : (s t : Cea608State) (q : Pair) (qs ps : List Pair) → is_odd_pair q ≡ false → Agrees s t qs ps → Agrees s t (q ∷ qs) ps
corrupted_in_front s t q qs ps even a =
    let one = even_is_refused_1 s q even in
    record { same_events = rw one a.same_events; ends_same = rw one a.ends_same }

-- the rest of the pairs gives the same events, wherever the line and the receiver stand
abbrev Continues : List Pair → Type 0
Continues ps =
    (h : Option Pair) (qs : List Pair) (s t : Cea608State) → OneByOne h (doubled ps) qs → Ready h s.last_data → Same s t → Agrees s t qs ps

module _ (p : Pair) (ps : List Pair) (odd : is_odd_pair p ≡ true) (go : Continues ps) where
  parity : (is_odd p.0 ≡ true) × (is_odd p.1 ≡ true)
  parity = both_true (is_odd p.0) (is_odd p.1) odd

  -- text arrives as it was sent, and is read by both; the receiver holds it then
  holds_text : (h : Option Pair) (t : Bool) → was_corrupted h p ≡ t → is_command_pair p ≡ false → Ready (cond t h None) (Some p)
  holds_text h false w is = is
  holds_text None true w is = absurd (true≢false (sym w))
  holds_text (Some q) true w is = ap Some (sym (same_is_equal q p w))

  text_heard : (h : Option Pair) (qs : List Pair) (s t : Cea608State) → is_command_pair p ≡ false → OneByOne h (p ∷ doubled ps) qs → Same s t → Agrees s t qs (p ∷ ps)
  text_heard h qs s t is (one.is_corrupted c w even rest) same = absurd (true≢false (sym c ∙ is))
  text_heard h qs s t is (one.arrives {qs = qs'} rest) same =
      let x = single (stripped p.0) in
      let y = single (stripped p.1) in
      let told : once t p ≡ ((heard_text s p x y).0, (heard_text t p x y).1) =
      text_once t p parity.0 parity.1 is
      ∙ ap {B = Outcome (Option Cea608) × Cea608State} (λ (ch : LastChannel). (answer (text_for ch x y), (heard_text t p x y).1)) (sym same.channel) in
      heard_in_front s t _ _ _ p p qs' ps (text_is_never_skipped s p parity.0 parity.1 is) told
      (go (goes_on h p) qs' _ _ rest (holds_text h (was_corrupted h p) refl is) (record { channel = same.channel; field = same.field }))

  abbrev heard_code : ControlCode
  heard_code = control_code_of (stripped p.0) (stripped p.1)

  is_a_command : is_command_pair p ≡ true → IsCommand p heard_code
  is_a_command is = (code.Nul, read_as_command p.0 p.1 parity.0 parity.1 is)

  -- a command that acts for both leaves the same channel and field
  acted_same : (s t : Cea608State) → Same s t → Same (acts s p heard_code).1 (acts t p heard_code).1
  acted_same s t same = record { channel = refl; field = ap (field_after heard_code.field) same.field }

  -- a copy that is not the last pair acts, and the rest of the line follows
  acts_heard : (s t : Cea608State) (qs : List Pair) → is_command_pair p ≡ true → is_last p s.last_data ≡ false → Agrees (acts s p heard_code).1 (acts t p heard_code).1 qs ps → Agrees s t (p ∷ qs) (p ∷ ps)
  acts_heard s t qs is other a =
      heard_in_front s t _ _ (acts s p heard_code).0 p p qs ps (command_acts s p heard_code (is_a_command is) other)
      (command_once t p heard_code (is_a_command is)) a

  -- after a first copy that acted: its repeat is skipped, or corrupted
  second_after_acting : (s t : Cea608State) (qs : List Pair) → is_command_pair p ≡ true → Same s t → s.last_data ≡ Some p → OneByOne None (p ∷ doubled ps) qs → Agrees s t qs ps
  second_after_acting s t qs is same holds (one.arrives {qs = qs'} rest) =
      silent_in_front s t (forgotten s) p qs' ps
      (repeat_is_skipped s p heard_code (is_a_command is) (ap (is_last p) holds ∙ last_is_last p))
      (go None qs' (forgotten s) t rest refl (record { channel = same.channel; field = same.field }))
  second_after_acting s t qs is same holds (one.is_corrupted {q = q} {qs = qs'} c w even rest) =
      corrupted_in_front s t q qs' ps even (go (Some p) qs' s t rest holds same)

  -- after a first copy that was corrupted or skipped: the second arrives, and acts
  second_acts : (h : Option Pair) (s t : Cea608State) (qs : List Pair) → is_command_pair p ≡ true → Same s t → was_corrupted h p ≡ true → is_last p s.last_data ≡ false → OneByOne h (p ∷ doubled ps) qs → Agrees s t qs (p ∷ ps)
  second_acts h s t qs is same corrupted other (one.is_corrupted c w even rest) = absurd (true≢false (sym corrupted ∙ w))
  second_acts None s t qs is same corrupted other (one.arrives rest) = absurd (true≢false (sym corrupted))
  second_acts (Some q) s t qs is same corrupted other (one.arrives {qs = qs'} rest) =
      let on = subst (λ (b : Bool). OneByOne (cond b (Some q) None) (doubled ps) qs') corrupted rest in
      acts_heard s t qs' is other
      (go (Some q) qs' _ _ on (ap Some (sym (same_is_equal q p corrupted))) (acted_same s t same))

  -- the two copies of a command
  command_heard : (h : Option Pair) (qs : List Pair) (s t : Cea608State) (corrupted : Bool) → was_corrupted h p ≡ corrupted → is_command_pair p ≡ true → OneByOne h (p ∷ p ∷ doubled ps) qs → Ready h s.last_data → Same s t → Agrees s t qs (p ∷ ps)
  command_heard h qs s t false w is (one.arrives {qs = qs'} rest) ready same =
      let first = subst (λ (b : Bool). OneByOne (cond b h None) (p ∷ doubled ps) qs') w rest in
      let other = repeat_is_told h s.last_data p heard_code (is_a_command is) ready ∙ w in
      acts_heard s t qs' is other (second_after_acting _ _ qs' is (acted_same s t same) refl first)
  command_heard h qs s t true w is (one.arrives {qs = qs'} rest) ready same =
      let on = subst (λ (b : Bool). OneByOne (cond b h None) (p ∷ doubled ps) qs') w rest in
      let again = repeat_is_told h s.last_data p heard_code (is_a_command is) ready ∙ w in
      silent_in_front s t (forgotten s) p qs' (p ∷ ps) (repeat_is_skipped s p heard_code (is_a_command is) again)
      (second_acts h (forgotten s) t qs' is (record { channel = same.channel; field = same.field }) w refl on)
  command_heard h qs s t corrupted w is (one.is_corrupted {q = q} {qs = qs'} c fine even rest) ready same =
      let other = repeat_is_told h s.last_data p heard_code (is_a_command is) ready ∙ fine in
      corrupted_in_front s t q qs' (p ∷ ps) even (second_acts (Some p) s t qs' is same (same_itself p) other rest)

  pair_heard : (t : Bool) → is_command_pair p ≡ t → Continues (p ∷ ps)
  pair_heard true is h qs s t sent ready same =
      let twice = subst (λ (b : Bool). OneByOne h (cond b (p ∷ p ∷ doubled ps) (p ∷ doubled ps)) qs) is sent in
      command_heard h qs s t (was_corrupted h p) refl is twice ready same
  pair_heard false is h qs s t sent ready same =
      let single = subst (λ (b : Bool). OneByOne h (cond b (p ∷ p ∷ doubled ps) (p ∷ doubled ps)) qs) is sent in
      text_heard h qs s t is single same

nothing_heard : (h : Option Pair) (qs : List Pair) (s t : Cea608State) → OneByOne h [] qs → Same s t → Agrees s t qs []
nothing_heard h qs s t one.ends same = record { same_events = refl; ends_same = same }

pub doubled_is_decoded_once : (ps : List Pair) → AllOdd ps → Continues ps
doubled_is_decoded_once [] odd h qs s t sent ready same = nothing_heard h qs s t sent same
doubled_is_decoded_once (p ∷ ps) odd h qs s t sent ready same =
    pair_heard p ps odd.0 (doubled_is_decoded_once ps odd.1) (is_command_pair p) refl h qs s t sent ready same
