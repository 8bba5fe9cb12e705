-- The seven ways of a pop, by what waits and what is held. The cases of its definition are gone through here, once, for every
-- law of the list's pop that needs them.
-- Assumes nothing.
use mathlib.Core.Bool.{Bool, true, false, cond}
use mathlib.Core.List.{List, [], ◌∷◌}
use Rattle.std.specs.Prelude.{Option, None, Some}
use mathlib.Core.Path.{◌≡◌, refl}
use Rattle.code.specs.Code.{needs_backspace}
use Rattle.code.specs.Pair.{pair}
use Rattle.code.specs.declared.code.Code.{Code}
use Rattle.queue.specs.Queue.{Pop, Queued, byte_of, empty, is_single, pair_of, pop, pop_command, pop_held, pop_of, pop_single, pop_two, pop_waiting, queued}

pub data Way : Queued → Pop → Type 0 where
  held_code : (c : Code) (l : List Code) → Way (queued l (Some c)) (pop_of (pair_of c) (c ∷ []) l None)
  nothing_inside : Way empty (pop_of (pair 0x80 0x80) [] [] None)
  last_code : (x : Code) → is_single x ≡ true → Way (queued (x ∷ []) None) (pop_of (pair (byte_of x) 0x80) (x ∷ []) [] None)
  two_codes : (x y : Code) (l : List Code) → is_single x ≡ true → is_single y ≡ true → Way (queued (x ∷ y ∷ l) None) (pop_of (pair (byte_of x) (byte_of y)) (x ∷ y ∷ []) l None)
  before_command : (x y : Code) (l : List Code) → is_single x ≡ true → is_single y ≡ false → Way (queued (x ∷ y ∷ l) None) (pop_of (pair (byte_of x) (cond (needs_backspace y) 0x20 0x80)) (x ∷ []) l (Some y))
  space_first : (x : Code) (l : List Code) → is_single x ≡ false → needs_backspace x ≡ true → Way (queued (x ∷ l) None) (pop_of (pair 0x20 0x80) [] l (Some x))
  command_goes : (x : Code) (l : List Code) → is_single x ≡ false → needs_backspace x ≡ false → Way (queued (x ∷ l) None) (pop_of (pair_of x) (x ∷ []) l None)

command_way : (x : Code) (l : List Code) (t : Bool) → is_single x ≡ false → needs_backspace x ≡ t → Way (queued (x ∷ l) None) (pop_command x l)
command_way x l true e wants = rw wants (space_first x l e wants)
command_way x l false e wants = rw wants (command_goes x l e wants)

two_way : (x y : Code) (l : List Code) (t : Bool) → is_single x ≡ true → is_single y ≡ t → Way (queued (x ∷ y ∷ l) None) (pop_two x y l)
two_way x y l true e next = rw next (two_codes x y l e next)
two_way x y l false e next = rw next (before_command x y l e next)

single_way : (x : Code) (l : List Code) → is_single x ≡ true → Way (queued (x ∷ l) None) (pop_single x l)
single_way x [] e = last_code x e
single_way x (y ∷ l) e = two_way x y l (is_single y) e refl

waiting_way : (x : Code) (l : List Code) (t : Bool) → is_single x ≡ t → Way (queued (x ∷ l) None) (pop_waiting (x ∷ l))
waiting_way x l true e = rw e (single_way x l e)
waiting_way x l false e = rw e (command_way x l (needs_backspace x) e refl)

held_way : (h : Option Code) (l : List Code) → Way (queued l h) (pop_held h l)
held_way (Some c) l = held_code c l
held_way None [] = nothing_inside
held_way None (x ∷ l) = waiting_way x l (is_single x) refl

pub way_of : (v : Queued) → Way v (pop v)
unfolding pop
way_of v = held_way v.held v.waiting
