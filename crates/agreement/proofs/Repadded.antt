-- The frame-rate law over whole streams: padding put in and taken out, at any number of places where it may be, changes no
-- answer to another pair, nor the channel or the field at the end. And cases: a stream with a place of each kind, and the
-- place between the two copies of a carriage return, where padding makes a window scroll twice.
-- Assumes nothing.
use mathlib.Core.Bool.{Bool, true, false, cond, true≢false}
use mathlib.Core.List.{List, [], ◌∷◌, ◌++◌}
use Rattle.std.specs.Prelude.{Option}
use mathlib.Core.Path.{◌≡◌, refl, ap, sym, ◌∙◌}
use lib.Count.{ones, ones_in}
use Rattle.code.specs.Channel.{channel_one}
use Rattle.code.specs.Outcome.{Outcome}
use Rattle.code.specs.Read.{control_code_of, meaning, read_pair}
use Rattle.code.specs.Pair.{pair}
use Rattle.code.specs.declared.pair.Pair.{Pair}
use Rattle.event.specs.declared.event.Cea608.{Cea608}
use Rattle.event.specs.declared.event.Cea608.TheVariants as event
use Rattle.agreement.proofs.DecodedOnce.{events_after}
use Rattle.agreement.proofs.FrameRate.{frame_rate_law, may_repad_changes_nothing, reached_may_repad}
use Rattle.agreement.proofs.Padding.{padding_step}
use Rattle.agreement.proofs.OneByOne.{same_is_equal}
use Rattle.agreement.specs.FrameRate.{Repadded, RepaddedLaw, SameCaptions, Unchanged, harmless, to_others}
use Rattle.agreement.specs.FrameRate as repadded
use Rattle.agreement.specs.Pairs.{carriage_return, hi, is_padding, padding}
use Rattle.receiver.specs.Reading.{after, answers, events}
use Rattle.receiver.specs.Receiver.{fresh, step, Stepped}
use Rattle.receiver.specs.Heard.{event_of, text_event}
use Rattle.event.specs.Mode.{mode_of}
use Rattle.code.specs.Code.{char_of}
use Rattle.receiver.specs.declared.state.Cea608State.{Cea608State}

pub repadded_law : RepaddedLaw
repadded_law s ps qs repadded.ends = record { same_answers = refl; same_channel = refl; same_field = refl }
repadded_law s ps qs (repadded.keeps {p = p} {ps = ps'} {qs = qs'} r) =
    let later = repadded_law (step s p).1 ps' qs' r in
    record {
      same_answers = ap (λ (l : List (Outcome (Option Cea608))). cond (is_padding p) l ((step s p).0 ∷ l)) later.same_answers;
      same_channel = later.same_channel;
      same_field = later.same_field;
    }
repadded_law s ps qs (repadded.puts_in {qs = qs'} may r) =
    let same = may_repad_changes_nothing s ps may in
    let later = repadded_law (step s padding).1 ps qs' r in
    record {
      same_answers = ap (to_others ps) same.same_answers ∙ later.same_answers;
      same_channel = same.same_channel ∙ later.same_channel;
      same_field = same.same_field ∙ later.same_field;
    }
repadded_law s ps qs (repadded.takes_out {ps = ps'} may r) =
    let same = may_repad_changes_nothing s ps' may in
    let later = repadded_law s ps' qs r in
    record {
      same_answers = sym (ap (to_others ps') same.same_answers) ∙ later.same_answers;
      same_channel = sym same.same_channel ∙ later.same_channel;
      same_field = sym same.same_field ∙ later.same_field;
    }

-- and one conversion may follow another
pub step_by_step : (s : Cea608State) (ps qs rs : List Pair) → Repadded s ps qs → Repadded s qs rs → SameCaptions s ps rs
step_by_step s ps qs rs first second =
    let one = repadded_law s ps qs first in
    let two = repadded_law s qs rs second in
    record {
      same_answers = one.same_answers ∙ two.same_answers;
      same_channel = one.same_channel ∙ two.same_channel;
      same_field = one.same_field ∙ two.same_field;
    }

-- padding gives no event, so the events are those of the other pairs
module _ (s : Cea608State) (p : Pair) (os xs : List (Outcome (Option Cea608))) where
  padding_is_silent : is_padding p ≡ true → events ((step s p).0 ∷ os) ≡ events os
  padding_is_silent is =
      ap (λ (q : Pair). events ((step s q).0 ∷ os)) (same_is_equal p padding is)
      ∙ ap (λ (x : Stepped). events (x.0 ∷ os)) (padding_step s)

  others_first : (t : Bool) → is_padding p ≡ t → events xs ≡ events os → events (cond t xs ((step s p).0 ∷ xs)) ≡ events ((step s p).0 ∷ os)
  others_first true is e = e ∙ sym (padding_is_silent is)
  others_first false is e = events_after (step s p).0 xs os e

events_of_others : (s : Cea608State) (ps : List Pair) → events (to_others ps (answers s ps)) ≡ events (answers s ps)
events_of_others s [] = refl
events_of_others s (p ∷ ps) =
    others_first s p (answers (step s p).1 ps) (to_others ps (answers (step s p).1 ps)) (is_padding p) refl
    (events_of_others (step s p).1 ps)

pub same_events : (s : Cea608State) (ps qs : List Pair) → Repadded s ps qs → events (answers s ps) ≡ events (answers s qs)
same_events s ps qs r =
    sym (events_of_others s ps) ∙ ap events (repadded_law s ps qs r).same_answers ∙ events_of_others s qs

abbrev flash : Pair
flash = pair 0x94 0xA8

abbrev corrupted : Pair
corrupted = pair 0x94 0x2D

-- a carriage return whose repeat is corrupted, Hi, padding, flash with its repeat, and a carriage return
abbrev stream : List Pair
stream = carriage_return ∷ corrupted ∷ hi ∷ padding ∷ flash ∷ flash ∷ carriage_return ∷ []

-- padding is put in after the corrupted copy (c), taken out after the text (a), put in between the copies of flash (d)
-- and put in at the end (b)
pub a_place_of_each_case : Repadded fresh stream (carriage_return ∷ corrupted ∷ padding ∷ hi ∷ flash ∷ padding ∷ flash ∷ carriage_return ∷ padding ∷ [])
unfolding read_pair ones ones_in step event_of mode_of meaning control_code_of
a_place_of_each_case =
    let c = reached_may_repad (carriage_return ∷ corrupted ∷ []) (hi ∷ padding ∷ flash ∷ flash ∷ carriage_return ∷ []) refl in
    let a = reached_may_repad (carriage_return ∷ corrupted ∷ padding ∷ hi ∷ []) (flash ∷ flash ∷ carriage_return ∷ []) refl in
    let d = reached_may_repad (carriage_return ∷ corrupted ∷ padding ∷ hi ∷ flash ∷ []) (flash ∷ carriage_return ∷ []) refl in
    let b = reached_may_repad (carriage_return ∷ corrupted ∷ padding ∷ hi ∷ flash ∷ padding ∷ flash ∷ carriage_return ∷ []) [] refl in
    repadded.keeps
    (repadded.keeps
    (repadded.puts_in c
    (repadded.keeps
    (repadded.takes_out a
    (repadded.keeps (repadded.puts_in d (repadded.keeps (repadded.keeps (repadded.puts_in b repadded.ends)))))))))

-- The place between a carriage return and its repeat is of no case, so a receiver notices padding there: without it the
-- window scrolls once, with it twice.
abbrev one_copy : List Pair
one_copy = carriage_return ∷ []

pub harmful_between_copies : harmless (after fresh one_copy) one_copy ≡ false
unfolding read_pair ones ones_in step event_of meaning control_code_of
harmful_between_copies = refl

pub noticed_between_copies : Unchanged (after fresh one_copy) one_copy → ⊥
noticed_between_copies unchanged =
    true≢false (sym ((frame_rate_law one_copy one_copy).1 unchanged) ∙ harmful_between_copies)

pub doubled_scrolls_once : events (answers fresh (carriage_return ∷ carriage_return ∷ [])) ≡ event.CarriageReturn channel_one ∷ []
unfolding read_pair ones ones_in step event_of meaning control_code_of
doubled_scrolls_once = refl

pub padded_inside_scrolls_twice : events (answers fresh (carriage_return ∷ padding ∷ carriage_return ∷ [])) ≡ event.CarriageReturn channel_one ∷ event.CarriageReturn channel_one ∷ []
unfolding read_pair ones ones_in step event_of text_event char_of meaning control_code_of
padded_inside_scrolls_twice = refl

-- Copies in pairs are not enough to go by. One of a backspace's copies is corrupted, a second backspace follows doubled,
-- then padding, then one more copy: three act. Without the padding two do.
abbrev backspace : Pair
backspace = pair 0x94 0xA1

abbrev first_corrupted : List Pair
first_corrupted = pair 0x14 0xA1 ∷ backspace ∷ backspace ∷ backspace ∷ []

pub three_backspaces_act : events (answers fresh (first_corrupted ++ (padding ∷ backspace ∷ []))) ≡ event.Backspace channel_one ∷ event.Backspace channel_one ∷ event.Backspace channel_one ∷ []
unfolding read_pair ones ones_in step event_of text_event char_of meaning control_code_of
three_backspaces_act = refl

pub two_without_the_padding : events (answers fresh (first_corrupted ++ (backspace ∷ []))) ≡ event.Backspace channel_one ∷ event.Backspace channel_one ∷ []
unfolding read_pair ones ones_in step event_of text_event char_of meaning control_code_of
two_without_the_padding = refl
