-- What is sent: the queue's pairs in order, each text pair once and each command pair twice in a row, but for a repeat
-- that is still owed. And every pair of the queue has odd parity.
-- Assumes nothing.
use Rattle.std.specs.Prelude.{None, Option, Some}
use mathlib.Core.Bool.{Bool, true, false, cond, not}
use mathlib.Core.List.{List, [], ◌∷◌, ◌++◌, append_assoc, append-nil}
use mathlib.Core.Path.{◌≡◌, refl, ap, ap₂, sym, subst, ◌∙◌}
use Prim.Native.Nat.{ℕ, zero, suc}
use Rattle.code.proofs.Both.{both_left, both_right}
use Rattle.code.specs.Outcome.{Outcome, answer}
use Rattle.code.specs.Read.{is_command_pair, is_odd_pair}
use Rattle.code.specs.declared.pair.Pair.{Pair}
use Rattle.queue.proofs.Pairs.{popped_is_sent}
use Rattle.queue.proofs.Refines.{good_fits, popped_as}
use Rattle.queue.specs.Queue.{pop}
use Rattle.queue.specs.Ring.{pop_ring}
use Rattle.queue.specs.Ring as queue
use Rattle.queue.specs.declared.ring.Queue.{Queue}
use Rattle.sender.proofs.AnyState.{odd_of_sent}
use Rattle.sender.proofs.InCalls.{holds_in_calls}
use Rattle.sender.proofs.Order.{call_owes, call_stays_good}
use Rattle.sender.proofs.Refines.{queue_formed, send_good, send_refines}
use Rattle.agreement.proofs.Drains.{calls_send_so_many, sent_in_a_row}
use Rattle.agreement.specs.Agreement.{All, given, from_queue, queue_pair, queue_pairs, sent_by, sent_in}
use Rattle.agreement.specs.Doubled.{doubled}
use Rattle.sender.specs.Calls.{Call, in_sends, is_reset, no_reset, on_sender, sender_after, sends_by}
use Rattle.sender.specs.Drain.{send_sender_times}
use Rattle.sender.specs.Good.{Good}
use Rattle.agreement.specs.OneByOne.{AllOdd, IsOdd}
use Rattle.sender.specs.Sender.{send_sender, view}
use Rattle.sender.specs.Sending.{Sending, Source, ahead, owed_pairs, pops, repeats_after, send, send_from, source, source_by, still_owed}
use Rattle.sender.specs.declared.sender.Repeats.{Repeats}
use Rattle.sender.specs.declared.sender.Sender.{Sender}

-- a well-formed queue gives its pair
pub pair_of_queue : (q : Queue) → queue.well_formed q ≡ true → (pop_ring q).0 ≡ answer (pop (queue.view q)).pair
pair_of_queue q e = ap (λ (r : Outcome Pair × Queue). r.0) (popped_as q e)

-- a pair of the queue, and what is owed of it
twice : (p : Pair) (ps : List Pair) (t : Bool) → is_command_pair p ≡ t → p ∷ (still_owed (repeats_after p) ++ doubled ps) ≡ doubled (p ∷ ps)
twice p ps true e = rw e refl
twice p ps false e = rw e refl

-- one send before what is sent later
one_send : (o : Option Pair) (q : Queue) (later ps : List Pair) → queue.well_formed q ≡ true → later ≡ still_owed (send_from (source_by o) (queue.view q)).next.repeats ++ doubled ps → (send_from (source_by o) (queue.view q)).pair ∷ later ≡ owed_pairs o ++ doubled (from_queue (source_by o) q ++ ps)
one_send (Some p) q later ps formed e = ap (λ (l : List Pair). p ∷ l) e
one_send None q later ps formed e =
    let p = (pop (queue.view q)).pair in
    ap (λ (l : List Pair). p ∷ l) e
    ∙ twice p ps (is_command_pair p) refl
    ∙ ap (λ (o : Outcome Pair). doubled (given o ++ ps)) (sym (pair_of_queue q formed))

-- in so many sends in a row: what is sent, then what is still owed, is what was owed, then the queue's pairs doubled
sends_are_doubled : (n : ℕ) (s : Sender) → Good s → sent_in_a_row n s ++ still_owed (send_sender_times n s).repeats ≡ still_owed s.repeats ++ doubled (in_sends queue_pair n s)
unfolding send
sends_are_doubled zero s g = sym (append-nil (still_owed s.repeats))
sends_are_doubled (suc n) s g =
    let next = (send_sender s).1 in
    let told = send_refines s g in
    let end = still_owed (send_sender_times n next).repeats in
    let later = sent_in_a_row n next ++ end in
    append_assoc (given (send_sender s).0) (sent_in_a_row n next) end
    ∙ ap (λ (o : Outcome Pair). given o ++ later) told.0
    ∙ one_send s.repeats.owed s.queue later (in_sends queue_pair n next) (queue_formed s g.formed)
    (sends_are_doubled n next (send_good s g)
    ∙ ap (λ (v : Sending). still_owed v.repeats ++ doubled (in_sends queue_pair n next)) told.1)

-- of one call
call_is_doubled : (c : Call) (s : Sender) → Good s → not (is_reset c) ≡ true → sent_in c s ++ still_owed (on_sender c s).1.repeats ≡ still_owed s.repeats ++ doubled (in_sends queue_pair (sends_by (on_sender c s).0) s)
call_is_doubled c s g stays =
    let n = sends_by (on_sender c s).0 in
    ap₂ (λ (l : List Pair) (r : Repeats). l ++ still_owed r) (calls_send_so_many c s g) (call_owes c s g stays)
    ∙ sends_are_doubled n s g

-- doubled part by part
one_doubled_first : (p : Pair) (ps qs : List Pair) (t : Bool) → cond t (p ∷ p ∷ (ps ++ qs)) (p ∷ (ps ++ qs)) ≡ cond t (p ∷ p ∷ ps) (p ∷ ps) ++ qs
one_doubled_first p ps qs true = refl
one_doubled_first p ps qs false = refl

doubled_by_parts : (ps qs : List Pair) → doubled (ps ++ qs) ≡ doubled ps ++ doubled qs
doubled_by_parts [] qs = refl
doubled_by_parts (p ∷ ps) qs =
    ap (λ (l : List Pair). cond (is_command_pair p) (p ∷ p ∷ l) (p ∷ l)) (doubled_by_parts ps qs)
    ∙ one_doubled_first p (doubled ps) (doubled qs) (is_command_pair p)

-- in any run of calls
pub sent_is_doubled : (calls : List Call) (s : Sender) → Good s → no_reset calls ≡ true → sent_by calls s ++ still_owed (sender_after calls s).repeats ≡ still_owed s.repeats ++ doubled (queue_pairs calls s)
sent_is_doubled [] s g none = sym (append-nil (still_owed s.repeats))
sent_is_doubled (c ∷ calls) s g none =
    let next = (on_sender c s).1 in
    let before = still_owed s.repeats in
    let here = in_sends queue_pair (sends_by (on_sender c s).0) s in
    let later = queue_pairs calls next in
    append_assoc (sent_in c s) (sent_by calls next) (still_owed (sender_after calls next).repeats)
    ∙ ap (λ (l : List Pair). sent_in c s ++ l) (sent_is_doubled calls next (call_stays_good c s g) (both_right (not (is_reset c)) (no_reset calls) none))
    ∙ sym (append_assoc (sent_in c s) (still_owed next.repeats) (doubled later))
    ∙ ap (λ (l : List Pair). l ++ doubled later) (call_is_doubled c s g (both_left (not (is_reset c)) (no_reset calls) none))
    ∙ append_assoc before (doubled here) (doubled later)
    ∙ ap (λ (l : List Pair). before ++ l) (sym (doubled_by_parts here later))

-- every pair of the queue has odd parity, and so has every pair that is sent
popped_odd : (o : Source) (q : Queue) → queue.well_formed q ≡ true → AllOdd (from_queue o q)
popped_odd (ahead p) q formed = tt
popped_odd pops q formed =
    subst (λ (o : Outcome Pair). AllOdd (given o)) (sym (pair_of_queue q formed))
    (odd_of_sent (pop (queue.view q)).pair (popped_is_sent (queue.view q) (good_fits q formed)), tt)

pub all_of_both : {A : Type 0} (Is : A → Type 0) (xs ys : List A) → All Is xs → All Is ys → All Is (xs ++ ys)
all_of_both Is [] ys first second = second
all_of_both Is (x ∷ xs) ys first second = (first.0, all_of_both Is xs ys first.1 second)

pub queue_pairs_are_odd : (calls : List Call) (s : Sender) → Good s → AllOdd (queue_pairs calls s)
queue_pairs_are_odd calls s g =
    holds_in_calls queue_pair AllOdd tt (all_of_both IsOdd)
    (λ (r : Sender) (good : Good r). popped_odd (source (view r)) r.queue (queue_formed r good.formed)) calls s g

doubled_odd : (p : Pair) (ps : List Pair) (t : Bool) → is_odd_pair p ≡ true → AllOdd ps → AllOdd (cond t (p ∷ p ∷ ps) (p ∷ ps))
doubled_odd p ps true odd all = (odd, (odd, all))
doubled_odd p ps false odd all = (odd, all)

pub doubled_is_odd : (ps : List Pair) → AllOdd ps → AllOdd (doubled ps)
doubled_is_odd [] all = tt
doubled_is_odd (p ∷ ps) all = doubled_odd p (doubled ps) (is_command_pair p) all.0 (doubled_is_odd ps all.1)
