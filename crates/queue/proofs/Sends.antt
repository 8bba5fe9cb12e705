-- What a pop sends is what it took: its pair is made of the codes taken, by what is then in the queue. The next pop takes
-- a command that is then held, alone. With first in first out, no code is sent that was not accepted, none is left out, and
-- the bytes are in order.
-- Assumes nothing.
use mathlib.Core.Bool.{Bool, true, false, cond, true≢false}
use mathlib.Core.List.{List, [], ◌∷◌}
use Rattle.std.specs.Prelude.{Option, None, Some}
use mathlib.Core.Path.{◌≡◌, refl, ap, ap₂, sym, ◌∙◌}
use Prim.Native.Nat.{ℕ}
use borrow.Author.Tests.{eqb-true}
use lib.Dec.{eqb, ltb}
use Rattle.code.proofs.Both.{both_left, both_right}
use Rattle.code.proofs.Lengths.{not_one_is_two}
use Rattle.code.specs.Code.{byte_len, needs_backspace}
use Rattle.code.specs.Outcome.{Outcome, answer, refused}
use Rattle.code.specs.Pair.{pair}
use Rattle.code.specs.Write.{as_single, write_code}
use Rattle.code.specs.declared.code.Code.{Code}
use Rattle.code.specs.declared.code.Code.TheVariants as code
use Rattle.code.specs.declared.pair.Pair.{Pair}
use Rattle.queue.proofs.Pairs.{code_goes_out_as_written}
use Rattle.queue.proofs.Ways.{Way, held_code, nothing_inside, last_code, two_codes, before_command, space_first, command_goes, way_of}
use Rattle.queue.proofs.WellFormed.{held_has_two, held_queueable, may_queueable}
use Rattle.queue.specs.Good.{Fit}
use Rattle.queue.specs.Made.{AfterHeld, IsByte, MadeOf, one_command, last_single, nothing_to_send, single_before, space_before, two_singles}
use Rattle.queue.specs.Queue.{Pop, Queued, byte_of, is_single, may_wait, pair_of, pair_written, pop, pop_held, queued}
use Rattle.queue.specs.Queueable.{is_queueable}
use Rattle.queue.specs.Ring.{all_may_wait}

-- a single code is written with 0x80 after it
nul_after : (b : ℕ) (t : Bool) → (pair_written (cond t (as_single b) (refused 2))).1 ≡ 0x80
nul_after b true = refl
nul_after b false = refl

second_is_nul : (x : Code) → is_single x ≡ true → (pair_of x).1 ≡ 0x80
unfolding pair_of write_code
second_is_nul code.Nul single = refl
second_is_nul (code.Control c) single = absurd (true≢false (sym single))
second_is_nul (code.Letter l) single = refl
second_is_nul (code.Unknown b) single = nul_after b (ltb b 0x80)

single_as_byte : (x : Code) (l : List Code) → all_may_wait (x ∷ l) ≡ true → is_single x ≡ true → IsByte x (byte_of x)
single_as_byte x l all single =
    code_goes_out_as_written x (may_queueable x (both_left (may_wait x) (all_may_wait l) all))
    ∙ ap₂ {C = Outcome (Pair × ℕ)} (λ (b n : ℕ). answer (pair (byte_of x) b, n)) (second_is_nul x single) (eqb-true (byte_len x) 1 single)

-- and a two-byte code as its pair
command_as_pair : (c : Code) → is_queueable c ≡ true → eqb (byte_len c) 2 ≡ true → write_code c ≡ answer (pair_of c, 2)
command_as_pair c may two =
    code_goes_out_as_written c may
    ∙ ap {B = Outcome (Pair × ℕ)} (λ (n : ℕ). answer (pair_of c, n)) (eqb-true (byte_len c) 2 two)

made_by : {v : Queued} {p : Pop} → Way v p → Fit v → MadeOf p.pair p.took p.next
made_by (held_code c l) f =
    one_command c (pair_of c) l (command_as_pair c (held_queueable c f.held) (held_has_two c f.held))
made_by nothing_inside f = nothing_to_send
made_by (last_code x e) f = last_single x (byte_of x) (single_as_byte x [] f.codes e)
made_by (two_codes x y l e next) f =
    two_singles x y (byte_of x) (byte_of y) l (single_as_byte x (y ∷ l) f.codes e)
    (single_as_byte y l (both_right (may_wait x) (all_may_wait (y ∷ l)) f.codes) next)
made_by (before_command x y l e next) f =
    single_before x y (byte_of x) l (single_as_byte x (y ∷ l) f.codes e) (eqb-true (byte_len y) 2 (not_one_is_two y next))
made_by (space_first x l e wants) f = space_before x l wants
made_by (command_goes x l e wants) f =
    one_command x (pair_of x) l
    (command_as_pair x (may_queueable x (both_left (may_wait x) (all_may_wait l) f.codes)) (not_one_is_two x e))

pub made_of : (v : Queued) → Fit v → MadeOf (pop v).pair (pop v).took (pop v).next
made_of v f = made_by (way_of v) f

-- what is held goes out next, alone, and those waiting stay
pub held_goes_next : (v : Queued) (c : Code) → v.held ≡ Some c → pop v ≡ record { pair = pair_of c; took = c ∷ []; next = queued v.waiting None }
unfolding pop
held_goes_next v c e = ap (λ (h : Option Code). pop_held h v.waiting) e

-- and a command that needs a backspace goes out only after it was held: no single code needs one
no_backspace : (x : Code) → is_single x ≡ true → needs_backspace x ≡ false
no_backspace code.Nul single = refl
no_backspace (code.Control c) single = absurd (true≢false (sym single))
no_backspace (code.Letter l) single = refl
no_backspace (code.Unknown b) single = refl

after_way : {v : Queued} {p : Pop} → Way v p → AfterHeld v.held p.took
after_way (held_code c l) = refl
after_way nothing_inside = refl
after_way (last_code x e) = rw (no_backspace x e) refl
after_way (two_codes x y l e next) = rw (no_backspace x e, no_backspace y next) refl
after_way (before_command x y l e next) = rw (no_backspace x e) refl
after_way (space_first x l e wants) = refl
after_way (command_goes x l e wants) = rw wants refl

pub after_held : (v : Queued) → AfterHeld v.held (pop v).took
after_held v = after_way (way_of v)
