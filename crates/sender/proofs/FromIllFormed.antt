-- Any sequence of calls from an ill-formed state: up to the first reset every call is refused, 12, and the state stays as
-- it was; from the reset on the replies and the states are those of a fresh sender.
-- Assumes nothing.
use mathlib.Core.Bool.{Bool, true, false, not}
use mathlib.Core.List.{List, [], ◌∷◌, ◌++◌, append-nil, map}
use mathlib.Core.Path.{◌≡◌, refl, ap, sym, subst, ◌∙◌}
use Prim.Native.Nat.{ℕ}
use native.Mathlib.Omega.{arith}
use Rattle.code.proofs.Both.{both_left, both_right}
use Rattle.code.specs.Outcome.{Outcome}
use Rattle.code.specs.declared.pair.Pair.{Pair}
use Rattle.sender.proofs.Answers.{sender_answers_as_the_lists}
use Rattle.sender.proofs.FirstInFirstOut.{first_in_first_out}
use Rattle.sender.proofs.Lent.{ill_formed_drain}
use Rattle.sender.proofs.Refines.{fresh_good, ill_formed_count, ill_formed_idle, ill_formed_push, ill_formed_send}
use Rattle.sender.specs.Calls.{Call, pushing, sending, draining, counting, asking, resetting, Reply, to_ask, to_count, to_drain, to_push, to_reset, to_send, History, InOrder, begun, is_reset, no_reset, on_sender, recorded, recorded_all, sender_after, sender_replies}
use Rattle.sender.specs.Replies.{list_replies, ill_formed_reply}
use Rattle.sender.specs.Sender.{fresh_sender, well_formed}
use Rattle.sender.specs.Sending.{empty_lists}
use Rattle.sender.specs.declared.sender.Sender.{Sender}

-- one call
call_refused : (c : Call) (s : Sender) → well_formed s ≡ false → not (is_reset c) ≡ true → on_sender c s ≡ (ill_formed_reply c, s)
call_refused (pushing x) s e stays =
    ap {B = Reply × Sender} (λ (r : Outcome Unit × Sender). (to_push r.0, r.1)) (ill_formed_push s x e)
call_refused sending s e stays =
    ap {B = Reply × Sender} (λ (r : Outcome Pair × Sender). (to_send r.0, r.1)) (ill_formed_send s e)
call_refused (draining out start limit) s e stays =
    ap {B = Reply × Sender} (λ (r : Outcome ℕ × Sender × List ℕ). (to_drain r.0 r.2, r.1)) (ill_formed_drain s out start limit e)
call_refused counting s e stays =
    ap {B = Reply × Sender} (λ (r : Outcome ℕ × Sender). (to_count r.0, r.1)) (ill_formed_count s e)
call_refused asking s e stays =
    ap {B = Reply × Sender} (λ (r : Outcome Bool × Sender). (to_ask r.0, r.1)) (ill_formed_idle s e)
call_refused resetting s e stays = let z : ◌≡◌ {A = ℕ} 0 1 = cc in absurd (omega arith)

-- calls without a reset among them leave the very same state
pub unchanged_without_reset : (cs : List Call) (s : Sender) → well_formed s ≡ false → no_reset cs ≡ true → sender_after cs s ≡ s
unchanged_without_reset [] s e has_no_reset = refl
unchanged_without_reset (c ∷ cs) s e has_no_reset =
    ap (λ (r : Reply × Sender). sender_after cs r.1) (call_refused c s e (both_left (not (is_reset c)) (no_reset cs) has_no_reset))
    ∙ unchanged_without_reset cs s e (both_right (not (is_reset c)) (no_reset cs) has_no_reset)

-- and are refused, each of them, whatever comes after
refused_before : (cs later : List Call) (s : Sender) → well_formed s ≡ false → no_reset cs ≡ true → sender_replies (cs ++ later) s ≡ map ill_formed_reply cs ++ sender_replies later s
refused_before [] later s e has_no_reset = refl
refused_before (c ∷ cs) later s e has_no_reset =
    ap (λ (r : Reply × Sender). r.0 ∷ sender_replies (cs ++ later) r.1) (call_refused c s e (both_left (not (is_reset c)) (no_reset cs) has_no_reset))
    ∙ ap (λ (l : List Reply). ill_formed_reply c ∷ l) (refused_before cs later s e (both_right (not (is_reset c)) (no_reset cs) has_no_reset))

pub refused_without_reset : (cs : List Call) (s : Sender) → well_formed s ≡ false → no_reset cs ≡ true → sender_replies cs s ≡ map ill_formed_reply cs
refused_without_reset cs s e has_no_reset =
    ap (λ (l : List Call). sender_replies l s) (sym (append-nil cs))
    ∙ refused_before cs [] s e has_no_reset
    ∙ append-nil (map ill_formed_reply cs)

-- up to the first reset refusals, from it on the replies of a fresh sender
pub refused_until_reset : (before later : List Call) (s : Sender) → well_formed s ≡ false → no_reset before ≡ true → sender_replies (before ++ (resetting ∷ later)) s ≡ map ill_formed_reply before ++ (to_reset ∷ sender_replies later fresh_sender)
refused_until_reset before later s e has_no_reset = refused_before before (resetting ∷ later) s e has_no_reset

-- which are the empty lists'
pub as_the_empty_lists_from_reset : (before later : List Call) (s : Sender) → well_formed s ≡ false → no_reset before ≡ true → sender_replies (before ++ (resetting ∷ later)) s ≡ map ill_formed_reply before ++ (to_reset ∷ list_replies later empty_lists)
as_the_empty_lists_from_reset before later s e has_no_reset =
    refused_until_reset before later s e has_no_reset
    ∙ ap (λ (l : List Reply). map ill_formed_reply before ++ (to_reset ∷ l)) (sender_answers_as_the_lists later fresh_sender fresh_good)

-- of any state at all: after a reset the state, and its history, are what they would be from a fresh sender on
pub fresh_from_reset : (before later : List Call) (s : Sender) → sender_after (before ++ (resetting ∷ later)) s ≡ sender_after later fresh_sender
fresh_from_reset [] later s = refl
fresh_from_reset (c ∷ before) later s = fresh_from_reset before later (on_sender c s).1

history_from_reset : (before later : List Call) (h : History) → recorded_all (before ++ (resetting ∷ later)) h ≡ recorded_all later (begun fresh_sender)
history_from_reset [] later h = refl
history_from_reset (c ∷ before) later h = history_from_reset before later (recorded c h)

-- so first in first out holds after a reset, whatever state was handed in
pub first_in_first_out_from_reset : (before later : List Call) (h : History) → InOrder (recorded_all (before ++ (resetting ∷ later)) h)
first_in_first_out_from_reset before later h =
    subst InOrder (sym (history_from_reset before later h)) (first_in_first_out later)
