-- A sender is idle by three tests: no code waits, none is held, nothing is owed. The ring's list is as long as its number
-- of waiting codes, whatever state was handed in.
-- Assumes nothing.
use mathlib.Core.Bool.{Bool, false, ◌&&◌, not}
use Rattle.std.specs.Option.{is_none}
use Rattle.std.specs.Prelude.{Option, None, Some, is_some}
use mathlib.Core.Path.{◌≡◌, refl, ap, ap₂, sym, ◌∙◌}
use Prim.Native.Nat.{ℕ, zero, suc, ◌+◌}
use native.Mathlib.Omega.{arith}
use borrow.Author.Tests.{ne_eqb}
use lib.Dec.{eqb}
use lib.ListN.{length}
use Rattle.code.proofs.Both.{both_fail}
use Rattle.code.specs.declared.pair.Pair.{Pair}
use Rattle.queue.proofs.Places.{how_many_lem}
use Rattle.queue.specs.Queue.{held_codes}
use Rattle.queue.specs.Ring.{held_in}
use Rattle.sender.specs.Sender.{view}
use Rattle.sender.specs.Sending.{is_idle, none_owed}
use Rattle.sender.specs.declared.sender.Sender.{Sender}

-- no code at all: none waits and none is held
no_codes : (n : ℕ) (h : Option ℕ) → eqb (n + length (held_codes (held_in h))) 0 ≡ (eqb n 0 && not (is_some h))
no_codes zero None = refl
no_codes zero (Some k) = refl
no_codes (suc n) h =
    ne_eqb (suc n + length (held_codes (held_in h))) 0 (λ e. omega (arith, e))
    ∙ sym (ap (λ (t : Bool). t && not (is_some h)) (ne_eqb (suc n) 0 (λ e. omega (arith, e))))

pub idle_by_parts : (s : Sender) → is_idle (view s) ≡ (eqb s.queue.waiting 0 && not (is_some s.queue.held) && not (is_some s.repeats.owed))
idle_by_parts s =
    ap (λ (n : ℕ). eqb (n + length (held_codes (held_in s.queue.held))) 0 && none_owed s.repeats) (how_many_lem s.queue.places s.queue.start s.queue.waiting)
    ∙ ap (λ (t : Bool). t && none_owed s.repeats) (no_codes s.queue.waiting s.queue.held)

-- the tests one after the other: a code that waits, one that is held, a pair that is owed
pub some_wait : (s : Sender) → (s.queue.waiting ≡ 0 → ⊥) → is_idle (view s) ≡ false
some_wait s more =
    idle_by_parts s
    ∙ ap (λ (t : Bool). t && not (is_some s.queue.held) && not (is_some s.repeats.owed)) (ne_eqb s.queue.waiting 0 more)

pub a_code_is_held : (s : Sender) (k : ℕ) → s.queue.held ≡ Some k → is_idle (view s) ≡ false
a_code_is_held s k e =
    idle_by_parts s
    ∙ ap (λ (h : Option ℕ). eqb s.queue.waiting 0 && not (is_some h) && not (is_some s.repeats.owed)) e
    ∙ ap (λ (t : Bool). t && not (is_some s.repeats.owed)) (both_fail (eqb s.queue.waiting 0))

pub no_code_left : (s : Sender) (o : Option Pair) → s.queue.waiting ≡ 0 → s.queue.held ≡ None → s.repeats.owed ≡ o → is_idle (view s) ≡ is_none o
no_code_left s o none absent owed =
    idle_by_parts s
    ∙ ap₂ (λ (n : ℕ) (h : Option ℕ). eqb n 0 && not (is_some h) && not (is_some s.repeats.owed)) none absent
    ∙ ap (λ (x : Option Pair). is_none x) owed
