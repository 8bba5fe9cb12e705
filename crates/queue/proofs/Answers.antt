-- What is known of every answer of the ring, whatever state was handed in: a popped pair has odd parity, is read as a
-- command where its first stripped byte is 10 to 1F, and has such a byte exactly where the pop took a two-byte code, or
-- half a command first; a count is at most 65, a pop of a queue that is not empty makes progress, and twice as many pops
-- as there are codes empty it.
-- Assumes nothing.
use mathlib.Core.Bool.{Bool, true, false, cond}
use mathlib.Core.List.{[]}
use mathlib.Core.Path.{◌≡◌, refl, ap, sym, subst, ◌∙◌}
use Prim.Native.Nat.{ℕ, zero, suc, ◌*◌, ◌≤◌, ◌<◌}
use native.Mathlib.Omega.{arith}
use lib.ListN.{replicate}
use Rattle.code.proofs.OneAnswer.{clash, same}
use Rattle.code.proofs.WrittenLemmas.{SentPair}
use Rattle.code.specs.Outcome.{Outcome, answer}
use Rattle.code.specs.Read.{is_command_pair, read_pair}
use Rattle.code.specs.declared.pair.Pair.{Pair}
use Rattle.queue.proofs.Commands.{popped_is_a_command}
use Rattle.queue.proofs.FirstInFirstOut.{calls_stay_good}
use Rattle.queue.proofs.Fit.{at_most_65}
use Rattle.queue.proofs.Pairs.{popped_command, popped_is_sent}
use Rattle.queue.proofs.Progress.{emptied, pop_makes_progress}
use Rattle.queue.proofs.Refines.{count_refines, good_fits, ill_formed_count, ill_formed_pop, pop_good, pop_refines}
use Rattle.queue.specs.Calls.{popping, ring_after, taken_by}
use Rattle.queue.specs.Good.{Good}
use Rattle.queue.specs.Progress.{pop_times, work}
use Rattle.queue.specs.Queue.{Queued, count, pop}
use Rattle.queue.specs.Ring.{count_ring, pop_ring, view, well_formed}
use Rattle.queue.specs.Made.{makes_command, reads_command}
use Rattle.queue.specs.declared.ring.Queue.{Queue}

-- an answer that is no refusal came from a well-formed state, and is the definition's
pop_answer : (q : Queue) (p : Pair) (t : Bool) → well_formed q ≡ t → (pop_ring q).0 ≡ answer p → (well_formed q ≡ true) × (p ≡ (pop (view q)).pair)
unfolding pop_ring
pop_answer q p true e answered = (e, sym (same (rw e at answered)))
pop_answer q p false e answered =
    absurd (clash (sym answered ∙ ap (λ (r : Outcome Pair × Queue). r.0) (ill_formed_pop q e)))

pub sent_pair_is_odd : (q : Queue) (p : Pair) → (pop_ring q).0 ≡ answer p → SentPair p
sent_pair_is_odd q p answered =
    let known = pop_answer q p (well_formed q) refl answered in
    subst SentPair (sym known.1) (popped_is_sent (view q) (good_fits q known.0))

pub sent_pair_is_read_as_a_command : (q : Queue) (p : Pair) → (pop_ring q).0 ≡ answer p → reads_command (read_pair p.0 p.1) ≡ is_command_pair p
sent_pair_is_read_as_a_command q p answered =
    let known = pop_answer q p (well_formed q) refl answered in
    subst (λ (x : Pair). reads_command (read_pair x.0 x.1) ≡ is_command_pair x) (sym known.1)
    (popped_command (view q) (good_fits q known.0))

-- T-04: it is one exactly where the pop took a two-byte code, or half a command first
pub sent_pair_is_a_command : (q : Queue) (p : Pair) → (pop_ring q).0 ≡ answer p → is_command_pair p ≡ makes_command (taken_by q)
sent_pair_is_a_command q p answered =
    let known = pop_answer q p (well_formed q) refl answered in
    ap is_command_pair known.1
    ∙ popped_is_a_command (view q) (good_fits q known.0)
    ∙ sym (ap (λ (t : Bool). makes_command (cond t (pop (view q)).took [])) known.0)

count_answer : (q : Queue) (n : ℕ) (t : Bool) → well_formed q ≡ t → (count_ring q).0 ≡ answer n → n ≤ 65
unfolding count_ring
count_answer q n true e answered =
    let here : count (view q) ≡ n = same (rw e at answered) in
    omega (arith, here, at_most_65 (view q) (good_fits q e))
count_answer q n false e answered =
    absurd (clash (sym answered ∙ ap (λ (r : Outcome ℕ × Queue). r.0) (ill_formed_count q e)))

pub n_codes_at_most_65 : (q : Queue) (n : ℕ) → (count_ring q).0 ≡ answer n → n ≤ 65
n_codes_at_most_65 q n answered = count_answer q n (well_formed q) refl answered

pub ring_makes_progress : (q : Queue) → Good q → 0 < count (view q) → work (view (pop_ring q).1) < work (view q)
ring_makes_progress q g more =
    let next = ap (λ (r : Outcome Pair × Queued). work r.1) (pop_refines q g) in
    omega (arith, next, pop_makes_progress (view q) more)

-- pops in a row
pops_refine : (n : ℕ) (q : Queue) → Good q → view (ring_after (replicate n popping) q) ≡ pop_times n (view q)
pops_refine zero q g = refl
pops_refine (suc n) q g =
    pops_refine n (pop_ring q).1 (pop_good q g) ∙ ap (λ (r : Outcome Pair × Queued). pop_times n r.1) (pop_refines q g)

pub ring_emptied : (q : Queue) → Good q → count (view (ring_after (replicate (2 * count (view q)) popping) q)) ≡ 0
ring_emptied q g = ap count (pops_refine (2 * count (view q)) q g) ∙ emptied (view q)

-- the same by what `n_codes` answers before and after
pub counted_down_to_none : (q : Queue) (n : ℕ) → Good q → (count_ring q).0 ≡ answer n → (count_ring (ring_after (replicate (2 * n) popping) q)).0 ≡ answer 0
counted_down_to_none q n g answered =
    let many = same (sym (ap (λ (r : Outcome ℕ × Queue). r.0) (count_refines q g)) ∙ answered) in
    let next = ring_after (replicate (2 * n) popping) q in
    ap (λ (r : Outcome ℕ × Queue). r.0) (count_refines next (calls_stay_good (replicate (2 * n) popping) q g))
    ∙ ap answer (subst (λ (k : ℕ). count (view (ring_after (replicate (2 * k) popping) q)) ≡ 0) many (ring_emptied q g))
