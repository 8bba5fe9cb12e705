-- What the sends of any calls give, whatever is asked of one send: what holds of each send of a well-formed sender holds of
-- all of them together.
-- Assumes nothing.
use mathlib.Core.List.{List, [], ◌∷◌, ◌++◌}
use mathlib.Core.Path.{◌≡◌, ap₂, ◌∙◌}
use Prim.Native.Nat.{ℕ, zero, suc}
use Rattle.sender.proofs.Order.{call_stays_good}
use Rattle.sender.proofs.Refines.{send_good}
use Rattle.sender.specs.Calls.{Call, in_calls, in_sends, on_sender, sends_by}
use Rattle.sender.specs.Good.{Good}
use Rattle.sender.specs.Sender.{send_sender}
use Rattle.sender.specs.declared.sender.Sender.{Sender}

-- what holds of none, of two parts together, and of each send
module _ {A : Type 0} (one : Sender → List A) (Holds : List A → Type 0) (of_none : Holds []) (of_both : (a b : List A) → Holds a → Holds b → Holds (a ++ b)) (of_each : (s : Sender) → Good s → Holds (one s)) where
  holds_in_sends : (n : ℕ) (s : Sender) → Good s → Holds (in_sends one n s)
  holds_in_sends zero s g = of_none
  holds_in_sends (suc n) s g =
      of_both (one s) (in_sends one n (send_sender s).1) (of_each s g) (holds_in_sends n (send_sender s).1 (send_good s g))

  pub holds_in_calls : (cs : List Call) (s : Sender) → Good s → Holds (in_calls one cs s)
  holds_in_calls [] s g = of_none
  holds_in_calls (c ∷ cs) s g =
      of_both (in_sends one (sends_by (on_sender c s).0) s) (in_calls one cs (on_sender c s).1)
      (holds_in_sends (sends_by (on_sender c s).0) s g) (holds_in_calls cs (on_sender c s).1 (call_stays_good c s g))

-- and what is read from each send, part by part, is read from all of them
module _ {A B : Type 0} (one : Sender → List A) (other : Sender → List B) (part : List A → List B) (of_none : part [] ≡ []) (of_both : (a b : List A) → part (a ++ b) ≡ part a ++ part b) (of_each : (s : Sender) → Good s → part (one s) ≡ other s) where
  part_in_sends : (n : ℕ) (s : Sender) → Good s → part (in_sends one n s) ≡ in_sends other n s
  part_in_sends zero s g = of_none
  part_in_sends (suc n) s g =
      of_both (one s) (in_sends one n (send_sender s).1)
      ∙ ap₂ ◌++◌ (of_each s g) (part_in_sends n (send_sender s).1 (send_good s g))

  pub part_in_calls : (cs : List Call) (s : Sender) → Good s → part (in_calls one cs s) ≡ in_calls other cs s
  part_in_calls [] s g = of_none
  part_in_calls (c ∷ cs) s g =
      of_both (in_sends one (sends_by (on_sender c s).0) s) (in_calls one cs (on_sender c s).1)
      ∙ ap₂ ◌++◌ (part_in_sends (sends_by (on_sender c s).0) s g) (part_in_calls cs (on_sender c s).1 (call_stays_good c s g))
