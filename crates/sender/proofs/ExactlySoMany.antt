-- There is no better bound than 3 n + 1 sends: n codes that each need a space before them, after a command whose repeat
-- is owed, take all of them. For every n up to 64 such a state is reached from a fresh one.
-- Assumes nothing.
use mathlib.Core.Bool.{Bool, true, false}
use mathlib.Core.List.{List, [], ◌∷◌, ◌++◌}
use Rattle.std.specs.Prelude.{None}
use mathlib.Core.Path.{◌≡◌, refl, ap, ◌∙◌}
use Prim.Native.Nat.{ℕ, zero, suc, ◌+◌, ◌*◌, ◌≤◌, ◌<◌}
use native.Mathlib.Omega.{arith}
use borrow.Author.Tests.{lt-leb}
use lib.Count.{ones, ones_in}
use lib.Dec.{leb}
use lib.ListN.{length, length-replicate, replicate}
use Rattle.code.specs.Outcome.{Outcome, answer}
use Rattle.code.specs.Write.{control_bytes, in_domain, on_line, write_code}
use Rattle.code.specs.declared.code.Code.{Code}
use Rattle.queue.specs.Number.{code_of}
use Rattle.queue.specs.Queue.{admit, entered, pair_of, pop, queued}
use Rattle.queue.specs.Queueable.{queueable}
use Rattle.queue.specs.Ring.{pop_ring, push_ring}
use Rattle.queue.specs.Ring as ring
use Rattle.sender.proofs.Refines.{push_good, push_refines}
use Rattle.sender.proofs.SendsLeft.{says_exactly}
use Rattle.sender.specs.Calls.{pushing, sender_after}
use Rattle.sender.specs.Calls as call
use Rattle.sender.specs.Drain.{send_sender_times}
use Rattle.sender.specs.Good.{Good}
use Rattle.sender.specs.Sender.{fresh_sender, idle_sender, push_sender, send_sender, view, well_formed}
use Rattle.sender.specs.SendsLeft.{a_acute, full_of, sends_for, sends_left}
use Rattle.sender.specs.Sending.{Sending, push, repeating, send, sending_of}
use Rattle.code.specs.Read.{meaning}
use Rattle.sender.specs.declared.sender.Sender.{Sender}

-- such a code takes three sends, and the repeat of the one before is owed
three_each : (n : ℕ) → sends_for false (replicate n a_acute) ≡ 3 * n
three_each zero = refl
three_each (suc n) = omega (arith, three_each n)

pub needs_them_all : (n : ℕ) → sends_left (full_of a_acute n) ≡ 3 * n + 1
unfolding sends_left
needs_them_all n = omega (arith, three_each n)

-- such a code is Á, 12 20: sent once as 92 20, with n more waiting after it
abbrev pub pushed_times : ℕ → Sender → Sender
pushed_times zero s = s
pushed_times (suc n) s = (push_sender (pushed_times n s) a_acute).1

abbrev pub sent_once : Sender
sent_once = sender_after (pushing a_acute ∷ call.sending ∷ call.sending ∷ []) fresh_sender

one_after : (n : ℕ) → replicate n a_acute ++ (a_acute ∷ []) ≡ replicate (suc n) a_acute
one_after zero = refl
one_after (suc n) = ap (λ (l : List Code). a_acute ∷ l) (one_after n)

admitted : (n : ℕ) → n < 64 → admit a_acute n ≡ answer true
unfolding admit in_domain queueable
admitted n less = rw (lt-leb 64 n less) refl

sent_once_lem : (view sent_once ≡ full_of a_acute 0) × Good sent_once
unfolding ones ones_in code_of write_code in_domain queueable admit pair_of pop push_ring pop_ring ring.well_formed well_formed push_sender send send_sender on_line control_bytes meaning
sent_once_lem = (refl, record { formed = refl; places = refl })

pushed_good : (n : ℕ) → Good (pushed_times n sent_once)
pushed_good zero = sent_once_lem.1
pushed_good (suc n) = push_good (pushed_times n sent_once) a_acute (pushed_good n)

pushed_view : (n : ℕ) → n ≤ 64 → view (pushed_times n sent_once) ≡ full_of a_acute n
pushed_view zero few = sent_once_lem.0
pushed_view (suc n) few =
    let before = pushed_view n (omega arith) in
    let long : length (replicate n a_acute) ≡ n = length-replicate n a_acute in
    (push_refines (pushed_times n sent_once) a_acute (pushed_good n)).1
    ∙ ap (λ (v : Sending). (push a_acute v).1) before
    ∙ ap (λ (o : Outcome Bool). sending_of (entered o (queued (replicate n a_acute ++ (a_acute ∷ [])) None) (queued (replicate n a_acute) None)).1 (repeating (pair_of a_acute)))
    (ap (admit a_acute) long ∙ admitted n (omega arith))
    ∙ ap (λ (l : List Code). sending_of (queued l None) (repeating (pair_of a_acute))) (one_after n)

-- for every n up to 64 a state with n codes, reached from a fresh one, that does not report idle before 3 n + 1 sends
pub needs_exactly_so_many : (n k : ℕ) → n ≤ 64 → (idle_sender (send_sender_times k (pushed_times n sent_once))).0 ≡ answer (leb (3 * n + 1) k)
needs_exactly_so_many n k few =
    says_exactly k (pushed_times n sent_once) (pushed_good n)
    ∙ ap (λ (m : ℕ). answer (leb m k)) (ap sends_left (pushed_view n few) ∙ needs_them_all n)
