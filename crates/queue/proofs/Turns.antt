-- What a pop does by the numbers at the first two places alone: what waits after them matters neither to the pair, nor to
-- the places freed, nor to what is held.
-- Assumes nothing.
use mathlib.Core.Bool.{Bool, true, false, cond}
use mathlib.Core.List.{List, [], ◌∷◌}
use Rattle.std.specs.Prelude.{Option, None, Some}
use mathlib.Core.Path.{◌≡◌, refl, ap, ap₂, sym, ◌∙◌}
use Prim.Native.Nat.{ℕ, zero, suc, ◌+◌, ◌-◌, ◌%◌, ◌≤◌, ◌<◌}
use native.Mathlib.Omega.{arith}
use lib.ListN.{length}
use Rattle.code.specs.Code.{needs_backspace}
use Rattle.code.specs.Outcome.{Outcome, answer, refused}
use Rattle.code.specs.Pair.{pair}
use Rattle.code.specs.declared.code.Code.{Code}
use Rattle.code.specs.declared.pair.Pair.{Pair}
use Rattle.queue.proofs.Places.{how_many_lem}
use Rattle.queue.proofs.Refines.{ill_formed_pop, popped_as}
use Rattle.queue.proofs.WellFormed.{formed}
use Rattle.queue.specs.Number.{code_of}
use Rattle.queue.specs.Queue.{Pop, byte_of, is_single, pair_of, pop, pop_command, pop_single, pop_two, pop_waiting, queued}
use Rattle.queue.specs.Ring.{code_at_place, codes_from, held_as, held_in, left_in, number_at, pop_ring, view, well_formed}
use Rattle.queue.specs.Turn.{command_turn, freeing, front_turn, moved_on, single_turn, turn_by, turn_in, turn_of}
use Rattle.queue.specs.declared.pop.Turn.{Turn}
use Rattle.queue.specs.declared.ring.Queue.{Queue}

none_freed : (n : ℕ) → n - n ≡ 0
none_freed n = omega arith

one_freed : (n : ℕ) → suc n - n ≡ 1
one_freed n = omega arith

two_freed : (n : ℕ) → suc (suc n) - n ≡ 2
two_freed n = omega arith

abbrev turning : Pair → ℕ → Option ℕ → Turn
turning p freed h = record { pair = p; freed = freed; held = h }

-- a held code goes out, and no place is freed
pub held_turn : (first second waiting n : ℕ) → turn_of first second waiting (Some n) ≡ turning (pair_of (code_of n)) 0 None
unfolding pop
held_turn first second zero n = refl
held_turn first second (suc zero) n = refl
held_turn first second (suc (suc waiting)) n = refl

-- padding where nothing waits
pub empty_turn : (first second waiting : ℕ) → waiting ≡ 0 → turn_of first second waiting None ≡ turning (pair 0x80 0x80) 0 None
unfolding pop
empty_turn first second zero e = refl
empty_turn first second (suc waiting) e = absurd (omega (arith, e))

-- a command, whatever waits after it
pub command_turns : (first second waiting : ℕ) → 0 < waiting → is_single (code_of first) ≡ false → front_turn first second waiting ≡ command_turn first
unfolding pop
command_turns first second zero more e = absurd (omega arith)
command_turns first second (suc zero) more e = rw e refl
command_turns first second (suc (suc waiting)) more e = rw e (by_backspace (needs_backspace (code_of first)) refl)
  where
    by_backspace : (t : Bool) → needs_backspace (code_of first) ≡ t → turn_by (first ∷ second ∷ []) (pop_command (code_of first) (code_of second ∷ [])) ≡ command_turn first
    by_backspace true wants = rw wants refl
    by_backspace false wants = rw wants refl

-- a single code with nothing after it
pub last_turns : (first second waiting : ℕ) → waiting ≡ 1 → is_single (code_of first) ≡ true → front_turn first second waiting ≡ turning (pair (byte_of (code_of first)) 0x80) 1 None
unfolding pop
last_turns first second zero one e = absurd (omega (arith, one))
last_turns first second (suc zero) one e = rw e refl
last_turns first second (suc (suc waiting)) one e = absurd (omega (arith, one))

-- and with a code after it
pub single_turns : (first second waiting : ℕ) → 1 < waiting → is_single (code_of first) ≡ true → front_turn first second waiting ≡ single_turn first second
unfolding pop
single_turns first second zero more e = absurd (omega arith)
single_turns first second (suc zero) more e = absurd (omega arith)
single_turns first second (suc (suc waiting)) more e = rw e refl

-- the turn of the ring itself
abbrev ring_turn : List ℕ → ℕ → List Code → Pop → Turn
ring_turn places at l p =
    turning p.pair (length l - length p.next.waiting) (held_as (number_at places (at + (length l - length p.next.waiting - 1))) p.next.held)

start_is : (places : List ℕ) (at : ℕ) → number_at places (at + 0) ≡ number_at places at
start_is places at =
    let here : at + 0 ≡ at = omega arith in
    ap (number_at places) here

command_in_ring : (places : List ℕ) (at : ℕ) (rest : List Code) (t : Bool) → needs_backspace (code_at_place places at) ≡ t → ring_turn places at (code_at_place places at ∷ rest) (pop_command (code_at_place places at) rest) ≡ command_turn (number_at places at)
command_in_ring places at rest true e =
    rw e
    (ap₂ (λ (k i : ℕ). turning (pair 0x20 0x80) k (Some (number_at places (at + i)))) (one_freed (length rest)) (ap (λ (k : ℕ). k - 1) (one_freed (length rest)))
    ∙ ap (λ (n : ℕ). turning (pair 0x20 0x80) 1 (Some n)) (start_is places at))
command_in_ring places at rest false e =
    rw e (ap (λ (k : ℕ). turning (pair_of (code_at_place places at)) k None) (one_freed (length rest)))

two_in_ring : (places : List ℕ) (at : ℕ) (rest : List Code) (t : Bool) → is_single (code_at_place places (at + 1)) ≡ t → ring_turn places at (code_at_place places at ∷ code_at_place places (at + 1) ∷ rest) (pop_two (code_at_place places at) (code_at_place places (at + 1)) rest) ≡ single_turn (number_at places at) (number_at places (at + 1))
two_in_ring places at rest true e =
    rw e (ap (λ (k : ℕ). turning (pair (byte_of (code_at_place places at)) (byte_of (code_at_place places (at + 1)))) k None) (two_freed (length rest)))
two_in_ring places at rest false e =
    rw e
    (ap₂ (λ (k i : ℕ). turning (pair (byte_of (code_at_place places at)) (cond (needs_backspace (code_at_place places (at + 1))) 0x20 0x80)) k (Some (number_at places (at + i)))) (two_freed (length rest)) (ap (λ (k : ℕ). k - 1) (two_freed (length rest))))

single_in_ring : (places : List ℕ) (at n : ℕ) → is_single (code_at_place places at) ≡ true → front_turn (number_at places at) (number_at places (at + 1)) (suc n) ≡ ring_turn places at (codes_from places at (suc n)) (pop_single (code_at_place places at) (codes_from places (at + 1) n))
single_in_ring places at zero e = last_turns (number_at places at) (number_at places (at + 1)) 1 refl e
single_in_ring places at (suc n) e =
    single_turns (number_at places at) (number_at places (at + 1)) (suc (suc n)) (omega arith) e
    ∙ sym (two_in_ring places at (codes_from places (at + 1 + 1) n) (is_single (code_at_place places (at + 1))) refl)

front_in_ring : (places : List ℕ) (at n : ℕ) (t : Bool) → is_single (code_at_place places at) ≡ t → front_turn (number_at places at) (number_at places (at + 1)) (suc n) ≡ ring_turn places at (codes_from places at (suc n)) (pop_waiting (codes_from places at (suc n)))
front_in_ring places at n true e = single_in_ring places at n e ∙ rw e refl
front_in_ring places at n false e =
    command_turns (number_at places at) (number_at places (at + 1)) (suc n) (omega arith) e
    ∙ sym (command_in_ring places at (codes_from places (at + 1) n) (needs_backspace (code_at_place places at)) refl)
    ∙ rw e refl

in_ring : (places : List ℕ) (at n : ℕ) (h : Option ℕ) → turn_of (number_at places at) (number_at places (at + 1)) n h ≡ ring_turn places at (codes_from places at n) (pop (queued (codes_from places at n) (held_in h)))
unfolding pop
in_ring places at n (Some k) =
    held_turn (number_at places at) (number_at places (at + 1)) n k
    ∙ ap (λ (i : ℕ). turning (pair_of (code_of k)) i None) (sym (none_freed (length (codes_from places at n))))
in_ring places at zero None = refl
in_ring places at (suc n) None = front_in_ring places at n (is_single (code_at_place places at)) refl

-- the turn by the first two numbers is the ring's pop
pub turn_is_the_pop : (q : Queue) → (turn_in q).pair ≡ (pop (view q)).pair
turn_is_the_pop q = ap (λ (t : Turn). t.pair) (in_ring q.places q.start q.waiting q.held)

pub turn_leaves : (q : Queue) → freeing q (turn_in q) ≡ left_in q
turn_leaves q = ap (freeing q) (in_ring q.places q.start q.waiting q.held)

-- no more places are freed than there are codes
pub turn_frees_waiting : (q : Queue) → (turn_in q).freed ≤ q.waiting
turn_frees_waiting q =
    omega (arith, ap (λ (t : Turn). t.freed) (in_ring q.places q.start q.waiting q.held), how_many_lem q.places q.start q.waiting)

-- the start and the places freed may be counted modulo 64 first
pub start_moved_on : (start freed : ℕ) → (start % 64 + freed % 64) % 64 ≡ (start + freed) % 64
start_moved_on start freed = omega arith

-- a well-formed ring is left as its turn says
pub taken_by_turn : (q next : Queue) (t : Turn) → well_formed q ≡ true → t ≡ turn_in q → next ≡ moved_on q t.freed t.held → (answer t.pair, next) ≡ pop_ring q
taken_by_turn q next t formed is left =
    ap₂ {C = Outcome Pair × Queue} (λ (p : Pair) (r : Queue). (answer p, r)) (ap (λ (x : Turn). x.pair) is ∙ turn_is_the_pop q) (left ∙ ap (freeing q) is ∙ turn_leaves q)
    ∙ sym (popped_as q formed)

pub refused_pop : (q : Queue) → well_formed q ≡ false → (refused 12, q) ≡ pop_ring q
refused_pop q e = sym (ill_formed_pop q e)
