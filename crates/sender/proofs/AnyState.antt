-- What is known of every answer of the sender, whatever state was handed in: a count is at most 65, and a pair that is sent
-- has odd parity in both bytes, a repeat too.
-- Assumes nothing.
use mathlib.Core.Bool.{Bool, true, false}
use Rattle.std.specs.Prelude.{Option, None, Some}
use mathlib.Core.Path.{◌≡◌, refl, ap, sym, ◌∙◌}
use Prim.Native.Nat.{ℕ, ◌≤◌}
use native.Mathlib.Omega.{arith}
use Rattle.code.proofs.Both.{both_left}
use Rattle.code.proofs.OneAnswer.{clash, same}
use Rattle.code.proofs.WrittenLemmas.{SentPair}
use Rattle.code.specs.Outcome.{Outcome, answer}
use Rattle.code.specs.Read.{is_command_pair, is_odd_pair}
use Rattle.code.specs.declared.pair.Pair.{Pair}
use Rattle.queue.proofs.Fit.{at_most_65}
use Rattle.queue.proofs.Pairs.{popped_is_sent}
use Rattle.queue.proofs.Refines.{good_fits}
use Rattle.queue.specs.Queue.{pop}
use Rattle.queue.specs.Ring as queue
use Rattle.queue.specs.declared.ring.Queue.{Queue}
use Rattle.sender.proofs.Refines.{counts_codes, ill_formed_count, ill_formed_send, queue_formed, repeats_formed, sent_pair}
use Rattle.sender.specs.Sender.{count_sender, owed_fits, send_sender, view, well_formed}
use Rattle.sender.specs.Sending.{send, send_from, source_by}
use Rattle.sender.specs.declared.sender.Sender.{Sender}

-- an answer that is no refusal came from a well-formed state
count_answer : (s : Sender) (n : ℕ) (t : Bool) → well_formed s ≡ t → (count_sender s).0 ≡ answer n → n ≤ 65
count_answer s n true e answered =
    omega (arith, same (sym (counts_codes s e) ∙ answered), at_most_65 (view s).queue (good_fits s.queue (queue_formed s e)))
count_answer s n false e answered =
    absurd (clash (sym answered ∙ ap (λ (r : Outcome ℕ × Sender). r.0) (ill_formed_count s e)))

pub n_codes_at_most_65 : (s : Sender) (n : ℕ) → (count_sender s).0 ≡ answer n → n ≤ 65
n_codes_at_most_65 s n answered = count_answer s n (well_formed s) refl answered

-- a pair of the queue has odd parity, and so has one that may be owed
pub odd_of_sent : (p : Pair) → SentPair p → is_odd_pair p ≡ true
odd_of_sent p sent = rw (sent.first.odd, sent.second.odd) refl

odd_by_owed : (o : Option Pair) (q : Queue) → owed_fits o ≡ true → queue.well_formed q ≡ true → is_odd_pair (send_from (source_by o) (queue.view q)).pair ≡ true
odd_by_owed (Some p) q fits formed = both_left (is_odd_pair p) (is_command_pair p) fits
odd_by_owed None q fits formed =
    odd_of_sent (pop (queue.view q)).pair (popped_is_sent (queue.view q) (good_fits q formed))

send_answer : (s : Sender) (p : Pair) (t : Bool) → well_formed s ≡ t → (send_sender s).0 ≡ answer p → is_odd_pair p ≡ true
unfolding send
send_answer s p true e answered =
    ap is_odd_pair (sym (same (sym (sent_pair s e) ∙ answered)))
    ∙ odd_by_owed s.repeats.owed s.queue (repeats_formed s e) (queue_formed s e)
send_answer s p false e answered =
    absurd (clash (sym answered ∙ ap (λ (r : Outcome Pair × Sender). r.0) (ill_formed_send s e)))

pub sent_pair_is_odd : (s : Sender) (p : Pair) → (send_sender s).0 ≡ answer p → is_odd_pair p ≡ true
sent_pair_is_odd s p answered = send_answer s p (well_formed s) refl answered
