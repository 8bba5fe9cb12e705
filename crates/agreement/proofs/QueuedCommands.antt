-- What is queued as a command is sent as a command, twice. Each pop is well packed (`Sends` and `Commands` of `queue`),
-- what it holds is the next one's, and what the sends take is what was accepted, in order (`FirstInFirstOut` of `sender`).
-- Assumes nothing.
use mathlib.Core.Bool.{Bool, true, false, cond, not, true≢false}
use mathlib.Core.List.{List, [], ◌∷◌, ◌++◌, append_assoc, append-nil}
use Rattle.std.specs.Prelude.{Option}
use mathlib.Core.Path.{◌≡◌, refl, ap, ap₂, sym, subst, ◌∙◌}
use Prim.Native.Nat.{ℕ, zero, suc}
use lib.ListN.{length}
use Rattle.code.proofs.Both.{both_left, both_right}
use Rattle.code.specs.Outcome.{Outcome, answer, refused}
use Rattle.code.specs.Read.{is_command_pair}
use Rattle.code.specs.declared.code.Code.{Code}
use Rattle.code.specs.declared.pair.Pair.{Pair}
use Rattle.queue.proofs.Commands.{popped_is_a_command}
use Rattle.queue.proofs.Refines.{good_fits}
use Rattle.queue.proofs.Sends.{after_held, made_of}
use Rattle.queue.specs.Calls as of_the_queue
use Rattle.queue.specs.Queue.{Queued, admit, entered, inside, pop}
use Rattle.queue.specs.Ring.{pop_ring}
use Rattle.queue.specs.Ring as queue
use Rattle.queue.specs.declared.ring.Queue.{Queue}
use Rattle.sender.proofs.FirstInFirstOut.{first_in_first_out, sender_of_history, taken_by_sends}
use Rattle.sender.proofs.InCalls.{holds_in_calls, part_in_calls}
use Rattle.sender.proofs.Order.{a_drain_is_sends, a_send_is_one, call_stays_good, count_same, idle_same, taken_is}
use Rattle.sender.proofs.Refines.{fresh_good, popped_view, push_refines, queue_formed, send_good, send_refines}
use Rattle.sender.specs.Calls.{Call, pushing, sending, draining, counting, asking, resetting, begun, in_sends, is_reset, no_reset, on_sender, recorded_all, sender_after, sends_by, taken_by}
use Rattle.sender.specs.Drain.{send_sender_times}
use Rattle.sender.specs.Good.{Good}
use Rattle.sender.specs.Sender.{fresh_sender, send_sender, view}
use Rattle.sender.specs.Sending.{Sending, Source, ahead, pops, send, send_from, source}
use Rattle.sender.specs.declared.sender.Sender.{Sender}
use Rattle.agreement.proofs.Doubled.{all_of_both, pair_of_queue, sent_is_doubled}
use Rattle.agreement.specs.Agreement.{All, given, from_queue, queue_pair, queue_pairs}
use Rattle.agreement.specs.Doubled.{doubled}
use Rattle.agreement.specs.QueuedCommands.{HeldNext, Packed, QueuedCommandsLaw, WellPacked, codes_in, packed, packed_by, packed_of, packed_pair, pairs_in, sent_by_codes}

-- they are the queue's pairs
pairs_by_parts : (ms ns : List Packed) → pairs_in (ms ++ ns) ≡ pairs_in ms ++ pairs_in ns
pairs_by_parts [] ns = refl
pairs_by_parts (m ∷ ms) ns = ap (λ (l : List Pair). m.pair ∷ l) (pairs_by_parts ms ns)

pair_packed : (o : Outcome Pair) (taken : List Code) (left : Queued) → pairs_in (packed_of o taken left) ≡ given o
pair_packed (answer p) taken left = refl
pair_packed (refused n) taken left = refl

pair_of_send : (o : Source) (q : Queue) → pairs_in (packed_by o q) ≡ from_queue o q
pair_of_send (ahead p) q = refl
pair_of_send pops q = pair_packed (pop_ring q).0 (of_the_queue.taken_by q) (queue.view (pop_ring q).1)

pairs_are_the_queues : (calls : List Call) (s : Sender) → Good s → pairs_in (packed calls s) ≡ queue_pairs calls s
pairs_are_the_queues calls s g =
    part_in_calls packed_pair queue_pair pairs_in refl pairs_by_parts
    (λ (r : Sender) (good : Good r). pair_of_send (source (view r)) r.queue) calls s g

-- a pop of a well-formed queue makes one pair, of what it takes and what it leaves
abbrev packed_pop : Queue → Packed
packed_pop q = let p = pop (queue.view q) in record { pair = p.pair; codes = p.took; left = p.next }

one_packed : (q : Queue) → queue.well_formed q ≡ true → packed_by pops q ≡ packed_pop q ∷ []
one_packed q formed =
    ap₂ (λ (l : List Code) (o : Outcome Pair). packed_of o l (queue.view (pop_ring q).1))
    (ap (λ (t : Bool). cond t (pop (queue.view q)).took []) formed) (pair_of_queue q formed)
    ∙ ap (packed_of (answer (pop (queue.view q)).pair) (pop (queue.view q)).took) (popped_view q formed)

send_well_packed : (o : Source) (q : Queue) → queue.well_formed q ≡ true → All WellPacked (packed_by o q)
send_well_packed (ahead p) q formed = tt
send_well_packed pops q formed =
    let fits = good_fits q formed in
    rw (one_packed q formed)
    (record { is_made_of = made_of (queue.view q) fits; command = popped_is_a_command (queue.view q) fits }, tt)

all_well_packed : (calls : List Call) (s : Sender) → Good s → All WellPacked (packed calls s)
all_well_packed calls s g =
    holds_in_calls packed_pair (All WellPacked) tt (all_of_both WellPacked)
    (λ (r : Sender) (good : Good r). send_well_packed (source (view r)) r.queue (queue_formed r good.formed)) calls s g

-- what is held goes from part to part
held_by_parts : (before middle after : Option Code) (ms ns : List Packed) → HeldNext before ms middle → HeldNext middle ns after → HeldNext before (ms ++ ns) after
held_by_parts before middle after [] ns first second = subst (λ (h : Option Code). HeldNext h ns after) (sym first) second
held_by_parts before middle after (m ∷ ms) ns first second =
    (first.0, held_by_parts m.left.held middle after ms ns first.1 second)

-- the held code of a sender
abbrev held_by : Sender → Option Code
held_by s = (view s).queue.held

-- of one send: a pair that goes ahead leaves the queue as it is
held_by_source : (o : Source) (q : Queue) → queue.well_formed q ≡ true → HeldNext (queue.view q).held (packed_by o q) (send_from o (queue.view q)).next.queue.held
held_by_source (ahead p) q formed = refl
held_by_source pops q formed = rw (one_packed q formed) (after_held (queue.view q), refl)

held_by_send : (s : Sender) → Good s → HeldNext (held_by s) (packed_pair s) (held_by (send_sender s).1)
unfolding send
held_by_send s g =
    subst (λ (v : Sending). HeldNext (held_by s) (packed_pair s) v.queue.held) (sym (send_refines s g).1)
    (held_by_source (source (view s)) s.queue (queue_formed s g.formed))

held_by_sends : (n : ℕ) (s : Sender) → Good s → HeldNext (held_by s) (in_sends packed_pair n s) (held_by (send_sender_times n s))
held_by_sends zero s g = refl
held_by_sends (suc n) s g =
    let next = (send_sender s).1 in
    held_by_parts (held_by s) (held_by next) _ (packed_pair s) (in_sends packed_pair n next)
    (held_by_send s g) (held_by_sends n next (send_good s g))

-- what is held after a call is what is held after its sends: a push leaves it
entered_holds : (o : Outcome Bool) (more same : Queued) → more.held ≡ same.held → (entered o more same).1.held ≡ same.held
entered_holds (answer true) more same e = e
entered_holds (answer false) more same e = refl
entered_holds (refused n) more same e = refl

call_holds : (c : Call) (s : Sender) → Good s → not (is_reset c) ≡ true → held_by (on_sender c s).1 ≡ held_by (send_sender_times (sends_by (on_sender c s).0) s)
call_holds (pushing x) s g stays =
    ap (λ (v : Sending). v.queue.held) (push_refines s x g).1
    ∙ entered_holds (admit x (length (view s).queue.waiting)) _ (view s).queue refl
call_holds sending s g stays = ap held_by (a_send_is_one s g)
call_holds (draining out start limit) s g stays = ap held_by (a_drain_is_sends s out start limit g)
call_holds counting s g stays = ap held_by (count_same s g)
call_holds asking s g stays = ap held_by (idle_same s g)
call_holds resetting s g stays = absurd (true≢false (sym stays))

-- so a held command is the next pair, whatever calls are between
held_by_calls : (calls : List Call) (s : Sender) → Good s → no_reset calls ≡ true → HeldNext (held_by s) (packed calls s) (held_by (sender_after calls s))
held_by_calls [] s g stays = refl
held_by_calls (c ∷ calls) s g stays =
    let next = (on_sender c s).1 in
    let n = sends_by (on_sender c s).0 in
    held_by_parts (held_by s) (held_by next) _ (in_sends packed_pair n s) (packed calls next)
    (subst (HeldNext (held_by s) (in_sends packed_pair n s)) (sym (call_holds c s g (both_left (not (is_reset c)) (no_reset calls) stays))) (held_by_sends n s g))
    (held_by_calls calls next (call_stays_good c s g) (both_right (not (is_reset c)) (no_reset calls) stays))

-- their codes are those that the sends took
codes_by_parts : (ms ns : List Packed) → codes_in (ms ++ ns) ≡ codes_in ms ++ codes_in ns
codes_by_parts [] ns = refl
codes_by_parts (m ∷ ms) ns =
    ap (λ (l : List Code). m.codes ++ l) (codes_by_parts ms ns) ∙ sym (append_assoc m.codes (codes_in ms) (codes_in ns))

codes_of_send : (o : Source) (q : Queue) → queue.well_formed q ≡ true → codes_in (packed_by o q) ≡ (send_from o (queue.view q)).took
codes_of_send (ahead p) q formed = refl
codes_of_send pops q formed = ap codes_in (one_packed q formed) ∙ append-nil (pop (queue.view q)).took

codes_of_one : (s : Sender) → Good s → codes_in (packed_pair s) ≡ taken_by s
unfolding send
codes_of_one s g = codes_of_send (source (view s)) s.queue (queue_formed s g.formed) ∙ sym (taken_is s g)

-- so they, and those still inside, are what was accepted
codes_in_order : (calls : List Call) → no_reset calls ≡ true → codes_in (packed calls fresh_sender) ++ inside (view (sender_after calls fresh_sender)).queue ≡ (recorded_all calls (begun fresh_sender)).accepted
codes_in_order calls has_no_reset =
    ap₂ (λ (l : List Code) (s : Sender). l ++ inside (view s).queue)
    (part_in_calls packed_pair taken_by codes_in refl codes_by_parts codes_of_one calls fresh_sender fresh_good ∙ sym (taken_by_sends calls (begun fresh_sender) has_no_reset))
    (sym (sender_of_history calls (begun fresh_sender)))
    ∙ sym (first_in_first_out calls)

-- well-packed pairs are doubled by their codes
one_by_codes : (p : Pair) (t : Bool) (a b : List Pair) → is_command_pair p ≡ t → a ≡ b → cond (is_command_pair p) (p ∷ p ∷ a) (p ∷ a) ≡ cond t (p ∷ p ∷ b) (p ∷ b)
one_by_codes p t a b e same = ap₂ (λ (u : Bool) (l : List Pair). cond u (p ∷ p ∷ l) (p ∷ l)) e same

doubled_by_codes : (ms : List Packed) → All WellPacked ms → doubled (pairs_in ms) ≡ sent_by_codes ms
doubled_by_codes [] all = refl
doubled_by_codes (m ∷ ms) all =
    one_by_codes m.pair _ (doubled (pairs_in ms)) (sent_by_codes ms) all.0.command (doubled_by_codes ms all.1)

pub queued_commands : QueuedCommandsLaw
queued_commands calls has_no_reset =
    let all = all_well_packed calls fresh_sender fresh_good in
    let pairs = pairs_are_the_queues calls fresh_sender fresh_good in
    record {
      all_pairs = pairs;
      all_codes = codes_in_order calls has_no_reset;
      well_packed = all;
      held_is_next = held_by_calls calls fresh_sender fresh_good has_no_reset;
      is_sent_by_codes =
          sent_is_doubled calls fresh_sender fresh_good has_no_reset
          ∙ ap doubled (sym pairs)
          ∙ doubled_by_codes (packed calls fresh_sender) all;
    }
