-- Any sequence of calls from an ill-formed state: up to the first reset every call is refused, 12, and the state stays as
-- it was; from the reset on the replies and the states are those of a fresh queue.
-- Assumes nothing.
use mathlib.Core.Bool.{true, false, not}
use mathlib.Core.List.{List, [], ◌∷◌, ◌++◌, append-nil, map}
use mathlib.Core.Path.{◌≡◌, refl, ap, sym, subst, ◌∙◌}
use Prim.Native.Nat.{ℕ}
use native.Mathlib.Omega.{arith}
use Rattle.code.specs.Outcome.{Outcome}
use Rattle.code.specs.declared.pair.Pair.{Pair}
use Rattle.queue.proofs.FirstInFirstOut.{first_in_first_out, ring_answers_as_the_list}
use Rattle.queue.proofs.Refines.{fresh_good, ill_formed_count, ill_formed_pop, ill_formed_push}
use Rattle.code.proofs.Both.{both_left, both_right}
use Rattle.queue.specs.Calls.{Call, pushing, popping, counting, resetting, Reply, to_count, to_pop, to_push, to_reset, History, InOrder, recorded, recorded_all, begun, is_reset, list_replies, no_reset, on_ring, ill_formed_reply, ring_after, ring_replies}
use Rattle.queue.specs.Queue.{empty}
use Rattle.queue.specs.Ring.{fresh_ring, well_formed}
use Rattle.queue.specs.declared.ring.Queue.{Queue}

-- one call
call_refused : (c : Call) (q : Queue) → well_formed q ≡ false → not (is_reset c) ≡ true → on_ring c q ≡ (ill_formed_reply c, q)
call_refused (pushing x) q e stays =
    ap {B = Reply × Queue} (λ (r : Outcome Unit × Queue). (to_push r.0, r.1)) (ill_formed_push q x e)
call_refused popping q e stays =
    ap {B = Reply × Queue} (λ (r : Outcome Pair × Queue). (to_pop r.0, r.1)) (ill_formed_pop q e)
call_refused counting q e stays =
    ap {B = Reply × Queue} (λ (r : Outcome ℕ × Queue). (to_count r.0, r.1)) (ill_formed_count q e)
call_refused resetting q e stays = let z : ◌≡◌ {A = ℕ} 0 1 = cc in absurd (omega arith)

-- calls without a reset among them leave the very same state
pub unchanged_without_reset : (cs : List Call) (q : Queue) → well_formed q ≡ false → no_reset cs ≡ true → ring_after cs q ≡ q
unchanged_without_reset [] q e none = refl
unchanged_without_reset (c ∷ cs) q e none =
    ap (λ (r : Reply × Queue). ring_after cs r.1) (call_refused c q e (both_left (not (is_reset c)) (no_reset cs) none))
    ∙ unchanged_without_reset cs q e (both_right (not (is_reset c)) (no_reset cs) none)

-- and are refused, each of them, whatever comes after
refused_before : (cs later : List Call) (q : Queue) → well_formed q ≡ false → no_reset cs ≡ true → ring_replies (cs ++ later) q ≡ map ill_formed_reply cs ++ ring_replies later q
refused_before [] later q e none = refl
refused_before (c ∷ cs) later q e none =
    ap (λ (r : Reply × Queue). r.0 ∷ ring_replies (cs ++ later) r.1) (call_refused c q e (both_left (not (is_reset c)) (no_reset cs) none))
    ∙ ap (λ (l : List Reply). ill_formed_reply c ∷ l) (refused_before cs later q e (both_right (not (is_reset c)) (no_reset cs) none))

pub refused_without_reset : (cs : List Call) (q : Queue) → well_formed q ≡ false → no_reset cs ≡ true → ring_replies cs q ≡ map ill_formed_reply cs
refused_without_reset cs q e none =
    ap (λ (l : List Call). ring_replies l q) (sym (append-nil cs))
    ∙ refused_before cs [] q e none
    ∙ append-nil (map ill_formed_reply cs)

-- up to the first reset refusals, from it on the replies of a fresh queue
pub refused_until_reset : (before later : List Call) (q : Queue) → well_formed q ≡ false → no_reset before ≡ true → ring_replies (before ++ (resetting ∷ later)) q ≡ map ill_formed_reply before ++ (to_reset ∷ ring_replies later fresh_ring)
refused_until_reset before later q e none = refused_before before (resetting ∷ later) q e none

-- which are the empty list's
pub as_the_empty_list_from_reset : (before later : List Call) (q : Queue) → well_formed q ≡ false → no_reset before ≡ true → ring_replies (before ++ (resetting ∷ later)) q ≡ map ill_formed_reply before ++ (to_reset ∷ list_replies later empty)
as_the_empty_list_from_reset before later q e none =
    refused_until_reset before later q e none
    ∙ ap (λ (l : List Reply). map ill_formed_reply before ++ (to_reset ∷ l)) (ring_answers_as_the_list later fresh_ring fresh_good)

-- of any state at all: after a reset the state, and its history, are what they would be from a fresh queue on
pub fresh_from_reset : (before later : List Call) (q : Queue) → ring_after (before ++ (resetting ∷ later)) q ≡ ring_after later fresh_ring
fresh_from_reset [] later q = refl
fresh_from_reset (c ∷ before) later q = fresh_from_reset before later (on_ring c q).1

history_from_reset : (before later : List Call) (h : History) → recorded_all (before ++ (resetting ∷ later)) h ≡ recorded_all later (begun fresh_ring)
history_from_reset [] later h = refl
history_from_reset (c ∷ before) later h = history_from_reset before later (recorded c h)

-- so first in first out holds after a reset, whatever state was handed in
pub first_in_first_out_from_reset : (before later : List Call) (h : History) → InOrder (recorded_all (before ++ (resetting ∷ later)) h)
first_in_first_out_from_reset before later h =
    subst InOrder (sym (history_from_reset before later h)) (first_in_first_out later)
