-- Copies of one command in a row: read where the last pair is another, the odd ones act and the even ones are skipped;
-- read where it is the last pair, the other way round. Proved of the answers, and of the states too, which distinguish
-- an acting copy from a skipped one even where the command has no event.
-- Assumes nothing.
use Rattle.std.specs.Prelude.{Some, Option, None}
use Rattle.code.specs.declared.channel.Field.{Field}
use mathlib.Core.Bool.{Bool, true, false, cond}
use mathlib.Core.List.{List, [], ◌∷◌}
use mathlib.Core.Path.{◌≡◌, refl, ap, ap₂, ◌∙◌}
use Prim.Native.Nat.{ℕ, zero, suc}
use lib.ListN.{replicate}
use Rattle.code.proofs.SamePair.{same_itself}
use Rattle.code.specs.Outcome.{Outcome, answer}
use Rattle.code.specs.declared.control.ControlCode.{ControlCode}
use Rattle.code.specs.declared.pair.Pair.{Pair}
use Rattle.event.specs.declared.event.Cea608.{Cea608}
use Rattle.receiver.proofs.Step.{command_acts, IsCommand, repeat_is_skipped, step_command}
use Rattle.receiver.specs.Heard.{event_of}
use Rattle.receiver.specs.Reading.{answers, steps}
use Rattle.receiver.specs.Receiver.{acts, field_after, forgotten, is_last, Stepped}
use Rattle.receiver.specs.declared.state.Cea608State.{Cea608State}

-- n in all, a and b in turn
abbrev pub in_turn : {A : Type 0} → ℕ → A → A → List A
in_turn zero a b = []
in_turn (suc n) a b = a ∷ in_turn n b a

pub last_is_last : (p : Pair) → is_last p (Some p) ≡ true
last_is_last p = same_itself p

-- a command that acts again sets no other field
pub field_again : (f : Option Field) (before : Option Field) → field_after f (field_after f before) ≡ field_after f before
field_again (Some x) before = refl
field_again None before = refl

module _ (p : Pair) (c : ControlCode) (command : IsCommand p c) where
  abbrev acted : Outcome (Option Cea608)
  acted = answer (event_of c)

  abbrev skipped : Outcome (Option Cea608)
  skipped = answer None

  copies : (n : ℕ) (t : Bool) (s : Cea608State) → is_last p s.last_data ≡ t → answers s (replicate n p) ≡ in_turn n (cond t skipped acted) (cond t acted skipped)
  copies zero t s e = refl
  copies (suc n) true s e = rw (step_command s p c command, e) (ap₂ ◌∷◌ refl (copies n false _ refl))
  copies (suc n) false s e = rw (step_command s p c command, e) (ap₂ ◌∷◌ refl (copies n true _ (last_is_last p)))

  pub odd_copies_act : (n : ℕ) (s : Cea608State) → is_last p s.last_data ≡ false → answers s (replicate n p) ≡ in_turn n acted skipped
  odd_copies_act n s other = copies n false s other

  pub even_copies_act : (n : ℕ) (s : Cea608State) → is_last p s.last_data ≡ true → answers s (replicate n p) ≡ in_turn n skipped acted
  even_copies_act n s same = copies n true s same

  -- a copy that is skipped: the state as it was, and no last pair
  abbrev pub skipped_from : Cea608State → Stepped
  skipped_from s = (skipped, forgotten s)

  acts_again : (s : Cea608State) → acts (skipped_from (acts s p c).1).1 p c ≡ acts s p c
  acts_again s = rw (field_again c.field s.last_received_field)

  pub odd_copies_step : (n : ℕ) (s : Cea608State) → is_last p s.last_data ≡ false → steps s (replicate n p) ≡ in_turn n (acts s p c) (skipped_from (acts s p c).1)
  odd_copies_step zero s other = refl
  odd_copies_step (suc zero) s other = rw (command_acts s p c command other)
  odd_copies_step (suc (suc n)) s other =
      rw (command_acts s p c command other, repeat_is_skipped (acts s p c).1 p c command (last_is_last p))
      (ap (λ (l : List Stepped). acts s p c ∷ skipped_from (acts s p c).1 ∷ l)
      (odd_copies_step n (skipped_from (acts s p c).1).1 refl
      ∙ ap (λ (a : Stepped). in_turn n a (skipped_from a.1)) (acts_again s)))

  pub even_copies_step : (n : ℕ) (s : Cea608State) → is_last p s.last_data ≡ true → steps s (replicate (suc n) p) ≡ skipped_from s ∷ in_turn n (acts s p c) (skipped_from (acts s p c).1)
  even_copies_step n s same =
      rw (repeat_is_skipped s p c command same)
      (ap (λ (l : List Stepped). skipped_from s ∷ l) (odd_copies_step n (skipped_from s).1 refl))
