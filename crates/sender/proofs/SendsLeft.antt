-- The sends that are left are counted exactly: a send of a sender that is not idle leaves one fewer, and with none left it is
-- idle. There are at most 3 n + 1 of them, n being the codes that it has.
-- Assumes nothing.
use mathlib.Core.Bool.{Bool, true, false, cond, ◌&&◌, true≢false}
use mathlib.Core.List.{List, [], ◌∷◌}
use Rattle.std.specs.Prelude.{Option, None, Some}
use mathlib.Core.Path.{◌≡◌, refl, ap, sym, ◌∙◌}
use Prim.Native.Nat.{ℕ, zero, suc, ◌+◌, ◌*◌, ◌≤◌, ◌<◌}
use native.Mathlib.Omega.{arith}
use borrow.Author.Tests.{le-leb, leb-false, leb-true, lt-leb, ne_eqb}
use lib.Dec.{eqb, leb}
use lib.ListN.{length}
use Rattle.code.proofs.Both.{both_left, both_right}
use Rattle.code.specs.Code.{needs_backspace}
use Rattle.code.specs.Outcome.{answer}
use Rattle.code.specs.Read.{is_command_pair}
use Rattle.code.specs.Pair.{pair}
use Rattle.code.specs.Write.{is_command_code}
use Rattle.code.specs.declared.code.Code.{Code}
use Rattle.code.specs.declared.pair.Pair.{Pair}
use Rattle.queue.proofs.Commands.{code_says}
use Rattle.queue.proofs.Fit.{pop_fits}
use Rattle.queue.proofs.Refines.{good_fits}
use Rattle.queue.proofs.Ways.{Way, held_code, nothing_inside, last_code, two_codes, before_command, space_first, command_goes, way_of}
use Rattle.queue.proofs.WellFormed.{held_queueable, may_queueable}
use Rattle.queue.specs.Good.{Fit}
use Rattle.queue.specs.Queue.{Pop, Queued, byte_of, count, held_codes, is_single, may_wait, pair_of, pop, empty, queued}
use Rattle.queue.specs.Queueable.{is_queueable}
use Rattle.queue.specs.Ring.{all_may_wait}
use Rattle.sender.proofs.Order.{sends_stay_good}
use Rattle.sender.proofs.Refines.{queue_formed, says_whether_idle, send_good, send_refines}
use Rattle.sender.specs.Drain.{send_sender_times}
use Rattle.sender.specs.Good.{Good}
use Rattle.sender.specs.Sender.{idle_sender, send_sender, view}
use Rattle.sender.specs.SendsLeft.{copies, sends_for, sends_for_held, sends_left, spaces}
use Rattle.std.specs.Option.{is_none}
use Rattle.sender.specs.Sending.{Sending, Source, ahead, is_idle, none_owed, owed_pairs, pops, repeats_after, send, send_from, send_times, source, source_by, still_owed}
use Rattle.sender.specs.declared.sender.Sender.{Sender}

-- what is owed after a pair that begins with a code is the second of its copies
abbrev owes : Pair → ℕ
owes p = length (still_owed (repeats_after p))

owes_by : (t u : Bool) (p : Pair) → is_command_pair p ≡ t → t ≡ u → suc (owes p) ≡ cond u 2 1
owes_by true true p e same = rw e refl
owes_by true false p e same = absurd (true≢false same)
owes_by false true p e same = absurd (true≢false (sym same))
owes_by false false p e same = rw e refl

second_copy : (c : Code) (p : Pair) → is_command_pair p ≡ is_command_pair (pair_of c) → is_queueable c ≡ true → suc (owes p) ≡ copies c
second_copy c p first may = owes_by (is_command_pair p) (is_command_code c) p refl (first ∙ code_says c may)

first_waits : (x : Code) (l : List Code) → all_may_wait (x ∷ l) ≡ true → is_queueable x ≡ true
first_waits x l all = may_queueable x (both_left (may_wait x) (all_may_wait l) all)

-- a pop, and the send of its pair, leaves one fewer
abbrev of_queue : Queued → ℕ
of_queue q = sends_for_held q.held + sends_for false q.waiting

popped_fewer : {q : Queued} {p : Pop} → Way q p → Fit q → 0 < count q → of_queue q ≡ suc (owes p.pair + of_queue p.next)
popped_fewer (held_code c l) f busy = omega (arith, second_copy c (pair_of c) refl (held_queueable c f.held))
popped_fewer nothing_inside f busy = absurd (omega (arith, busy))
popped_fewer (last_code x e) f busy =
    rw e (omega (arith, second_copy x (pair (byte_of x) 0x80) refl (first_waits x [] f.codes)))
popped_fewer (two_codes x y l e next) f busy =
    rw (e, next) (omega (arith, second_copy x (pair (byte_of x) (byte_of y)) refl (first_waits x (y ∷ l) f.codes)))
popped_fewer (before_command x y l e next) f busy =
    rw (e, next)
    (omega (arith, second_copy x (pair (byte_of x) (cond (needs_backspace y) 0x20 0x80)) refl (first_waits x (y ∷ l) f.codes)))
popped_fewer (space_first x l e wants) f busy = rw (e, wants) (omega arith)
popped_fewer (command_goes x l e wants) f busy =
    rw (e, wants) (omega (arith, second_copy x (pair_of x) refl (first_waits x l f.codes)))

sent_fewer : (o : Option Pair) (s : Sending) → s.repeats.owed ≡ o → Fit s.queue → is_idle s ≡ false → sends_left s ≡ suc (sends_left (send_from (source_by o) s.queue).next)
unfolding sends_left
sent_fewer (Some p) s e f busy = rw e (omega arith)
sent_fewer None s e f busy =
    rw e (omega (arith, popped_fewer (way_of s.queue) f (has_codes (count s.queue) (rw e at busy))))
  where
    has_codes : (n : ℕ) → (eqb n 0 && true) ≡ false → 0 < n
    has_codes zero e = absurd (true≢false e)
    has_codes (suc n) e = omega arith

pub one_fewer_left : (s : Sending) → Fit s.queue → is_idle s ≡ false → sends_left s ≡ suc (sends_left (send s).next)
unfolding send
one_fewer_left s f busy = sent_fewer s.repeats.owed s refl f busy

-- the queue of what is left fits again
fits_after : (o : Source) (q : Queued) → Fit q → Fit (send_from o q).next.queue
fits_after (ahead p) q f = f
fits_after pops q f = pop_fits q f

pub send_fits : (s : Sending) → Fit s.queue → Fit (send s).next.queue
unfolding send
send_fits s f = fits_after (source s) s.queue f

-- idle: nothing is owed, and the queue is empty
nothing_waits : (l : List Code) (h : Option Code) → eqb (count (queued l h)) 0 ≡ true → queued l h ≡ empty
nothing_waits [] None e = refl
nothing_waits [] (Some c) e = absurd (true≢false (sym e))
nothing_waits (x ∷ l) h e = absurd (true≢false (sym e ∙ ne_eqb (count (queued (x ∷ l) h)) 0 (λ (z : count (queued (x ∷ l) h) ≡ 0). omega (arith, z))))

nothing_owed : (o : Option Pair) → is_none o ≡ true → o ≡ None
nothing_owed None e = refl
nothing_owed (Some p) e = absurd (true≢false (sym e))

module _ (s : Sending) (idle : is_idle s ≡ true) where
  empty_queue : s.queue ≡ empty
  empty_queue = nothing_waits s.queue.waiting s.queue.held (both_left (eqb (count s.queue) 0) (none_owed s.repeats) idle)

  pub none_owed_lem : s.repeats.owed ≡ None
  none_owed_lem = nothing_owed s.repeats.owed (both_right (eqb (count s.queue) 0) (none_owed s.repeats) idle)

  pub idle_has_none_left : sends_left s ≡ 0
  unfolding sends_left
  idle_has_none_left = rw (empty_queue, none_owed_lem) refl

  -- it stays so: it sends padding
  idle_stays : is_idle (send s).next ≡ true
  unfolding send pop
  idle_stays = rw (empty_queue, none_owed_lem) refl

-- so it is busy for exactly so many sends, and idle from then on
one_more_lem : (a n : ℕ) (t : Bool) → leb a n ≡ t → t ≡ leb (suc a) (suc n)
one_more_lem a n true e = sym (le-leb (suc a) (suc n) (omega (arith, leb-true a n e)))
one_more_lem a n false e = sym (lt-leb (suc a) (suc n) (omega (arith, leb-false a n e)))

left_by : (n : ℕ) (s : Sending) (t : Bool) → is_idle s ≡ t → Fit s.queue → is_idle (send_times n s) ≡ leb (sends_left s) n
left_by zero s true e f = e ∙ ap (λ (k : ℕ). leb k 0) (sym (idle_has_none_left s e))
left_by zero s false e f = e ∙ sym (lt-leb (sends_left s) 0 (omega (arith, one_fewer_left s f e)))
left_by (suc n) s true e f =
    left_by n (send s).next true (idle_stays s e) (send_fits s f)
    ∙ le-leb (sends_left (send s).next) n (omega (arith, idle_has_none_left (send s).next (idle_stays s e)))
    ∙ sym (le-leb (sends_left s) (suc n) (omega (arith, idle_has_none_left s e)))
left_by (suc n) s false e f =
    left_by n (send s).next (is_idle (send s).next) refl (send_fits s f)
    ∙ one_more_lem (sends_left (send s).next) n (leb (sends_left (send s).next) n) refl
    ∙ ap (λ (k : ℕ). leb k (suc n)) (sym (one_fewer_left s f e))

pub exactly_so_many : (n : ℕ) (s : Sending) → Fit s.queue → is_idle (send_times n s) ≡ leb (sends_left s) n
exactly_so_many n s f = left_by n s (is_idle s) refl f

-- at most 3 n + 1
two_copies : (t : Bool) → cond t 2 1 ≤ 2
two_copies true = omega arith
two_copies false = omega arith

one_space : (t : Bool) → cond t 1 0 ≤ 1
one_space true = omega arith
one_space false = omega arith

either_at_most : (t : Bool) (a b n : ℕ) → a ≤ n → b ≤ n → cond t a b ≤ n
either_at_most true a b n left right = left
either_at_most false a b n left right = right

three_a_code : (half : Bool) (l : List Code) → sends_for half l ≤ 3 * length l
three_a_code half [] = omega arith
three_a_code false (c ∷ cs) =
    either_at_most (is_single c) (copies c + sends_for true cs) (spaces c + copies c + sends_for false cs) (3 * suc (length cs))
    (omega (arith, two_copies (is_command_code c), three_a_code true cs))
    (omega (arith, one_space (needs_backspace c), two_copies (is_command_code c), three_a_code false cs))
three_a_code true (c ∷ cs) =
    either_at_most (is_single c) (sends_for false cs) (copies c + sends_for false cs) (3 * suc (length cs))
    (omega (arith, three_a_code false cs))
    (omega (arith, two_copies (is_command_code c), three_a_code false cs))

held_at_most : (h : Option Code) → sends_for_held h ≤ 3 * length (held_codes h)
held_at_most None = omega arith
held_at_most (Some c) = omega (arith, two_copies (is_command_code c))

one_owed : (o : Option Pair) → length (owed_pairs o) ≤ 1
one_owed None = omega arith
one_owed (Some p) = omega arith

pub at_most_three_a_code : (s : Sending) → sends_left s ≤ 3 * count s.queue + 1
unfolding sends_left
at_most_three_a_code s =
    omega (arith, one_owed s.repeats.owed, held_at_most s.queue.held, three_a_code false s.queue.waiting)

-- a state with n codes is idle after at most 3 n + 1 sends
pub idle_after : (s : Sending) → Fit s.queue → is_idle (send_times (3 * count s.queue + 1) s) ≡ true
idle_after s f = exactly_so_many (3 * count s.queue + 1) s f ∙ le-leb (sends_left s) (3 * count s.queue + 1) (at_most_three_a_code s)

-- the same of the code's state: after so many sends, and not before, it says that it is idle
pub sends_refine : (n : ℕ) (s : Sender) → Good s → view (send_sender_times n s) ≡ send_times n (view s)
sends_refine zero s g = refl
sends_refine (suc n) s g =
    sends_refine n (send_sender s).1 (send_good s g) ∙ ap (send_times n) (send_refines s g).1

pub says_exactly : (n : ℕ) (s : Sender) → Good s → (idle_sender (send_sender_times n s)).0 ≡ answer (leb (sends_left (view s)) n)
says_exactly n s g =
    says_whether_idle (send_sender_times n s) (sends_stay_good n s g).formed
    ∙ ap answer (ap is_idle (sends_refine n s g) ∙ exactly_so_many n (view s) (good_fits s.queue (queue_formed s g.formed)))

pub says_idle : (s : Sender) → Good s → (idle_sender (send_sender_times (3 * count (view s).queue + 1) s)).0 ≡ answer true
says_idle s g =
    let n = 3 * count (view s).queue + 1 in
    says_exactly n s g ∙ ap answer (le-leb (sends_left (view s)) n (at_most_three_a_code (view s)))
