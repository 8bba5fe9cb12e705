-- Every pop of a queue that is not empty makes progress: twice the waiting codes plus the held one falls. So a queue of
-- n codes is empty after at most 2 n pops.
-- Assumes nothing.
use mathlib.Core.List.{List, [], ◌∷◌}
use Rattle.std.specs.Prelude.{Option, None, Some}
use mathlib.Core.Path.{◌≡◌, refl}
use Prim.Native.Nat.{ℕ, zero, suc, ◌*◌, ◌≤◌, ◌<◌}
use native.Mathlib.Decide.{dec_lt}
use native.Mathlib.Omega.{arith}
use Rattle.code.specs.declared.code.Code.{Code}
use Rattle.queue.proofs.Ways.{Way, held_code, nothing_inside, last_code, two_codes, before_command, space_first, command_goes, way_of}
use Rattle.queue.specs.Progress.{pop_times, work}
use Rattle.queue.specs.Queue.{Pop, Queued, count, pop, pop_held, queued}

work_falls : {v : Queued} {p : Pop} → Way v p → 0 < count v → work p.next < work v
work_falls (held_code c l) more = omega arith
work_falls nothing_inside more = omega arith
work_falls (last_code x e) more = omega arith
work_falls (two_codes x y l e next) more = omega arith
work_falls (before_command x y l e next) more = omega arith
work_falls (space_first x l e wants) more = omega arith
work_falls (command_goes x l e wants) more = omega arith

pub pop_makes_progress : (v : Queued) → 0 < count v → work (pop v).next < work v
pop_makes_progress v more = work_falls (way_of v) more

empty_stays : (v : Queued) → count v ≡ 0 → count (pop v).next ≡ 0
unfolding pop
empty_stays v e = nothing_left_lem v.held v.waiting e
  where
    nothing_left_lem : (h : Option Code) (l : List Code) → count (queued l h) ≡ 0 → count (pop_held h l).next ≡ 0
    nothing_left_lem (Some c) l z = omega (arith, z)
    nothing_left_lem None [] z = refl
    nothing_left_lem None (x ∷ rest) z = absurd (omega (arith, z))

work_or_none : (n : ℕ) (v : Queued) → work v ≤ n → count (pop_times n v) ≡ 0
work_or_none zero v h = omega arith
work_or_none (suc n) v h =
    elim (dec_lt 0 (count v)) [
      | yes more ↦ work_or_none n (pop v).next (omega (arith, pop_makes_progress v more))
      | no idle ↦ work_or_none n (pop v).next (omega (arith, empty_stays v (omega (arith, idle))))
    ]

pub emptied : (v : Queued) → count (pop_times (2 * count v) v) ≡ 0
emptied v = work_or_none (2 * count v) v (omega arith)
