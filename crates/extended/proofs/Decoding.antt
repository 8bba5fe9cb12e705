-- What a pair gives, by its parity and by its part: the definition opened once, for the proof of `decode` and for the laws.
-- Assumes nothing.
use mathlib.Core.Bool.{Bool, true, false}
use mathlib.Core.Path.{◌≡◌, refl, ap, sym, ◌∙◌}
use Rattle.code.proofs.OneAnswer.{clash}
use Rattle.code.specs.Outcome.{answer, refused}
use Rattle.code.specs.declared.read.InvalidParity.{InvalidParity}
use Rattle.event.specs.declared.event.Cea608.{Cea608}
use Rattle.receiver.specs.declared.state.Cea608State.{Cea608State}
use Rattle.std.specs.Prelude.{Option, Result, Ok, Err}
use Rattle.code.specs.Parity.{stripped}
use Rattle.code.specs.Read.{is_odd_pair}
use Rattle.code.specs.declared.pair.Pair.{Pair}
use Rattle.extended.specs.Part.{part_of}
use Rattle.extended.specs.State.{by_part_state, step}
use Rattle.extended.specs.declared.state.ExtendedState.{ExtendedState}
use Rattle.receiver.proofs.Step.{even_is_refused_1, odd_is_not_refused}
use Rattle.receiver.specs.Heard.{heard_outcome}
use Rattle.receiver.specs.Receiver as receiver
use Rattle.receiver.specs.Receiver.{Stepped, decoded_outcome}

pub even_pair : (s : ExtendedState) (p : Pair) → is_odd_pair p ≡ false → step s p ≡ (s, refused 1)
unfolding step
even_pair s p even = rw even

pub odd_pair : (s : ExtendedState) (p : Pair) → is_odd_pair p ≡ true → step s p ≡ by_part_state s (receiver.step s.captions p) (part_of (stripped p.0)) (stripped p.0) (stripped p.1)
unfolding step
odd_pair s p odd = rw odd

-- a pair that the captions' receiver takes has odd parity
odd_by : (r : Cea608State) (p : Pair) (d : Cea608State × Result (Option Cea608) InvalidParity) (h : Option Cea608) (t : Bool) → is_odd_pair p ≡ t → decoded_outcome d ≡ receiver.step r p → d.1 ≡ Ok h → t ≡ true
odd_by r p d h true odd e is = refl
odd_by r p d h false even e is =
    absurd (clash (ap heard_outcome (sym is) ∙ ap (λ (y : Stepped). y.0) (e ∙ even_is_refused_1 r p even)))

pub heard_is_odd : (r : Cea608State) (p : Pair) (d : Cea608State × Result (Option Cea608) InvalidParity) (h : Option Cea608) → decoded_outcome d ≡ receiver.step r p → d.1 ≡ Ok h → is_odd_pair p ≡ true
heard_is_odd r p d h e is = odd_by r p d h (is_odd_pair p) refl e is

-- the receiver refuses a pair exactly where its parity is even
module _ (s : ExtendedState) (p : Pair) (d : Cea608State × Result (Option Cea608) InvalidParity) (e : decoded_outcome d ≡ receiver.step s.captions p) where
  even_unless_heard : (t : Bool) → is_odd_pair p ≡ t → (x : InvalidParity) → d.1 ≡ Err x → t ≡ false
  even_unless_heard true odd x unheard = absurd (odd_is_not_refused s.captions p 1 odd (ap (λ (y : Stepped). y.0) (sym e) ∙ ap heard_outcome unheard))
  even_unless_heard false even x unheard = refl

  pub unheard_is_even : (x : InvalidParity) → d.1 ≡ Err x → is_odd_pair p ≡ false
  unheard_is_even = even_unless_heard (is_odd_pair p) refl

  taken_by_parity : (t : Bool) → is_odd_pair p ≡ t → (h : Option Cea608) → d.1 ≡ Ok h → by_part_state s (answer h, d.0) (part_of (stripped p.0)) (stripped p.0) (stripped p.1) ≡ step s p
  taken_by_parity true odd h is =
      ap (λ (y : Stepped). by_part_state s y (part_of (stripped p.0)) (stripped p.0) (stripped p.1))
      (ap (λ (r : Result (Option Cea608) InvalidParity). (heard_outcome r, d.0)) (sym is) ∙ e)
      ∙ sym (odd_pair s p odd)
  taken_by_parity false even h is =
      absurd (clash (ap heard_outcome (sym is) ∙ ap (λ (y : Stepped). y.0) (e ∙ even_is_refused_1 s.captions p even)))

  -- one that it takes is read by its part
  pub taken_pair : (h : Option Cea608) → d.1 ≡ Ok h → by_part_state s (answer h, d.0) (part_of (stripped p.0)) (stripped p.0) (stripped p.1) ≡ step s p
  taken_pair = taken_by_parity (is_odd_pair p) refl
