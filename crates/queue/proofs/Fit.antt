-- A push and a pop keep the list well formed: never above 64 waiting, each waiting code one that may wait, and no held
-- code or one that may be held.
-- Assumes nothing.
use mathlib.Core.Bool.{Bool, true, false}
use mathlib.Core.List.{List, [], ◌∷◌, ◌++◌}
use Rattle.std.specs.Prelude.{None, Some}
use mathlib.Core.Path.{◌≡◌, refl}
use Prim.Native.Nat.{◌+◌, ◌≤◌}
use native.Mathlib.Omega.{arith}
use lib.Dec.{lit≤}
use lib.ListN.{length, length-append}
use Rattle.code.proofs.Lengths.{not_one_is_two}
use Rattle.code.specs.Outcome.{Outcome, answer, refused}
use Rattle.code.specs.declared.code.Code.{Code}
use Rattle.code.proofs.Both.{both_left, both_right}
use Rattle.queue.proofs.Ways.{Way, held_code, nothing_inside, last_code, two_codes, before_command, space_first, command_goes, way_of}
use Rattle.queue.proofs.WellFormed.{may_queueable, one_held, stored_has_room, stored_may_wait}
use Rattle.queue.specs.Good.{Fit}
use Rattle.queue.specs.Queue.{Pop, Queued, queued, admit, count, empty, entered, is_single, may_be_held, may_wait, pop, push}
use Rattle.queue.specs.Ring.{all_may_wait}

empty_fits : Fit empty
empty_fits = record { size = lit≤ tt; held = refl; codes = refl }

-- `n_codes` is at most 65
pub at_most_65 : (v : Queued) → Fit v → count v ≤ 65
at_most_65 v f = omega (arith, f.size, one_held v.held)

all_after : (l : List Code) (c : Code) → all_may_wait l ≡ true → may_wait c ≡ true → all_may_wait (l ++ (c ∷ [])) ≡ true
all_after [] c all one = rw one
all_after (x ∷ l) c all one =
    let first = both_left (may_wait x) (all_may_wait l) all in
    rw first (all_after l c (both_right (may_wait x) (all_may_wait l) all) one)

one_after : (l : List Code) (c : Code) → length (l ++ (c ∷ [])) ≡ length l + 1
one_after l c = length-append l (c ∷ [])

entered_fits : (o : Outcome Bool) (c : Code) (v : Queued) → admit c (length v.waiting) ≡ o → Fit v → Fit (entered o (queued (v.waiting ++ (c ∷ [])) v.held) v).1
entered_fits (answer true) c v e f = record {
  size = omega (arith, one_after v.waiting c, stored_has_room c (length v.waiting) e);
  held = f.held;
  codes = all_after v.waiting c f.codes (stored_may_wait c (length v.waiting) e);
}
entered_fits (answer false) c v e f = f
entered_fits (refused n) c v e f = f

pub push_fits : (c : Code) (v : Queued) → Fit v → Fit (push c v).1
push_fits c v f = entered_fits (admit c (length v.waiting)) c v refl f

-- a waiting code that is no single code may be held
command_may_be_held : (c : Code) → is_single c ≡ false → may_wait c ≡ true → may_be_held c ≡ true
command_may_be_held c e may = rw (not_one_is_two c e) (may_queueable c may)

-- what waits without the first code, and with nothing held
rest_fits : (x : Code) (l : List Code) → Fit (queued (x ∷ l) None) → Fit (queued l None)
rest_fits x l f = record { size = omega (arith, f.size); held = refl; codes = both_right (may_wait x) (all_may_wait l) f.codes }

first_may : (x : Code) (l : List Code) → Fit (queued (x ∷ l) None) → may_wait x ≡ true
first_may x l f = both_left (may_wait x) (all_may_wait l) f.codes

-- the first code held
first_held : (x : Code) (l : List Code) → is_single x ≡ false → Fit (queued (x ∷ l) None) → Fit (queued l (Some x))
first_held x l e f =
    let rest = rest_fits x l f in
    record { size = rest.size; held = command_may_be_held x e (first_may x l f); codes = rest.codes }

left_fits : {v : Queued} {p : Pop} → Way v p → Fit v → Fit p.next
left_fits (held_code c l) f = record { size = f.size; held = refl; codes = f.codes }
left_fits nothing_inside f = f
left_fits (last_code x e) f = empty_fits
left_fits (two_codes x y l e next) f = rest_fits y l (rest_fits x (y ∷ l) f)
left_fits (before_command x y l e next) f = first_held y l next (rest_fits x (y ∷ l) f)
left_fits (space_first x l e wants) f = first_held x l e f
left_fits (command_goes x l e wants) f = rest_fits x l f

pub pop_fits : (v : Queued) → Fit v → Fit (pop v).next
pop_fits v f = left_fits (way_of v) f
