-- Where the owed pair fits, 12 is the queue's own test: a push and a count of the sender are then those of its queue,
-- refused ones too. Where it does not fit, the state is ill-formed whatever its queue. It fits where it is a command pair of
-- odd parity.
-- Assumes nothing.
use mathlib.Core.Bool.{Bool, true, false, ◌&&◌}
use Rattle.std.specs.Prelude.{Option, Some, Result}
use mathlib.Core.Path.{◌≡◌, refl, ap, sym, ◌∙◌}
use Prim.Native.Nat.{ℕ}
use Rattle.code.proofs.Both.{both_fail, both_left, both_right}
use Rattle.code.specs.Outcome.{Outcome, refused}
use Rattle.code.specs.Read.{is_command_pair, is_odd_pair}
use Rattle.code.specs.declared.code.Code.{Code}
use Rattle.code.specs.declared.pair.Pair.{Pair}
use Rattle.queue.proofs.Refines as ring
use Rattle.queue.specs.Ring.{count_outcome, count_ring, formed_outcome, push_answer_outcome, push_outcome, push_ring}
use Rattle.queue.specs.Ring as queue
use Rattle.queue.specs.declared.push.PushError.{PushError}
use Rattle.queue.specs.declared.ring.Queue.{Queue}
use Rattle.queue.specs.declared.well_formed.IllFormed.{IllFormed}
use Rattle.sender.proofs.Refines.{ill_formed_count, ill_formed_push, pushed_as, repeats_formed, well_formed_lem}
use Rattle.sender.specs.Sender.{count_sender, owed_fits, push_sender, repeats_fit, sender, well_formed}
use Rattle.sender.specs.declared.sender.Sender.{Sender}

queue_fails : (s : Sender) → queue.well_formed s.queue ≡ false → well_formed s ≡ false
unfolding well_formed
queue_fails s e = rw e refl

pub repeats_fail : (s : Sender) → repeats_fit s.repeats ≡ false → well_formed s ≡ false
unfolding well_formed
repeats_fail s e = rw e (both_fail (queue.well_formed s.queue))

-- what is owed is a command pair of odd parity
owed_by : (o : Option Pair) (p : Pair) → o ≡ Some p → owed_fits o ≡ true → (is_odd_pair p ≡ true) × (is_command_pair p ≡ true)
owed_by o p is fits =
    let both : (is_odd_pair p && is_command_pair p) ≡ true = rw is at fits in
    (both_left (is_odd_pair p) (is_command_pair p) both, both_right (is_odd_pair p) (is_command_pair p) both)

pub owed_is_a_command : (s : Sender) (p : Pair) → well_formed s ≡ true → s.repeats.owed ≡ Some p → (is_odd_pair p ≡ true) × (is_command_pair p ≡ true)
owed_is_a_command s p formed is = owed_by s.repeats.owed p is (repeats_formed s formed)

abbrev pushed_by : Sender → Outcome Unit × Queue → Outcome Unit × Sender
pushed_by s r = (r.0, sender r.1 s.repeats)

push_by : (s : Sender) (c : Code) (t : Bool) → queue.well_formed s.queue ≡ t → repeats_fit s.repeats ≡ true → pushed_by s (push_ring s.queue c) ≡ push_sender s c
push_by s c true e fits = sym (pushed_as s c (well_formed_lem s.queue s.repeats e fits))
push_by s c false e fits =
    ap (pushed_by s) (ring.ill_formed_push s.queue c e) ∙ sym (ill_formed_push s c (queue_fails s e))

push_is_the_queue's : (s : Sender) (c : Code) → repeats_fit s.repeats ≡ true → ((push_ring s.queue c).0, sender (push_ring s.queue c).1 s.repeats) ≡ push_sender s c
push_is_the_queue's s c fits = push_by s c (queue.well_formed s.queue) refl fits

pub pushed_by_queue : (s : Sender) (c : Code) (r : Queue × Result Unit PushError) → repeats_fit s.repeats ≡ true → push_outcome r ≡ push_ring s.queue c → (push_answer_outcome r.1, sender r.0 s.repeats) ≡ push_sender s c
pushed_by_queue s c r fits done = ap (pushed_by s) done ∙ push_is_the_queue's s c fits

abbrev counted_by : Sender → Outcome ℕ × Queue → Outcome ℕ × Sender
counted_by s r = (r.0, s)

count_by : (s : Sender) (t : Bool) → queue.well_formed s.queue ≡ t → repeats_fit s.repeats ≡ true → counted_by s (count_ring s.queue) ≡ count_sender s
unfolding count_ring count_sender
count_by s true e fits = rw (e, well_formed_lem s.queue s.repeats e fits) refl
count_by s false e fits = ap (counted_by s) (ring.ill_formed_count s.queue e) ∙ sym (ill_formed_count s (queue_fails s e))

pub count_is_the_queue's : (s : Sender) → repeats_fit s.repeats ≡ true → ((count_ring s.queue).0, s) ≡ count_sender s
count_is_the_queue's s fits = count_by s (queue.well_formed s.queue) refl fits

pub counted_by_queue : (s : Sender) (r : Result ℕ IllFormed) → repeats_fit s.repeats ≡ true → count_outcome (s.queue, r) ≡ count_ring s.queue → (formed_outcome r, s) ≡ count_sender s
counted_by_queue s r fits counted = ap (counted_by s) counted ∙ count_is_the_queue's s fits

-- where it does not fit, both are refused
pub refused_push : (s : Sender) (c : Code) → repeats_fit s.repeats ≡ false → (refused 12, s) ≡ push_sender s c
refused_push s c e = sym (ill_formed_push s c (repeats_fail s e))

pub refused_count : (s : Sender) → repeats_fit s.repeats ≡ false → (refused 12, s) ≡ count_sender s
refused_count s e = sym (ill_formed_count s (repeats_fail s e))
