-- What a call sends is what so many sends in a row send: a drain's pairs, read from the bytes of its output, are those of as
-- many sends as it answers, and a call that makes none sends nothing.
-- Assumes nothing.
use mathlib.Core.Bool.{Bool, true, false, cond}
use mathlib.Core.List.{List, [], ◌∷◌, ◌++◌}
use mathlib.Core.Path.{◌≡◌, refl, ap, ap₂, sym, ◌∙◌}
use Prim.Native.Nat.{ℕ, zero, suc, ◌≤◌}
use borrow.Author.Tests.{ltb-false, ltb-true}
use lib.Dec.{ltb}
use lib.ListN.{drop, length}
use Rattle.code.specs.Outcome.{Outcome, answer, refused}
use Rattle.code.specs.declared.pair.Pair.{Pair}
use Rattle.agreement.specs.Agreement.{given, sent_in}
use Rattle.sender.proofs.DrainedBytes.{drains_as, its_pairs_in_the_output, its_pairs}
use Rattle.sender.proofs.Lent.{start_past_end}
use Rattle.sender.proofs.Refines.{send_good, send_refines}
use Rattle.sender.specs.Calls.{Call, pushing, sending, draining, counting, asking, resetting, to_send, in_sends, on_sender, sends_by, sends_in}
use Rattle.sender.specs.Drain.{drain_sender, drained_pairs, pairs_from}
use Rattle.sender.specs.Good.{Good}
use Rattle.sender.specs.Sender.{send_sender, view}
use Rattle.sender.specs.Sending.{is_idle, send}
use Rattle.sender.specs.declared.sender.Sender.{Sender}

-- the pairs of n sends in a row
abbrev pub sent_in_a_row : ℕ → Sender → List Pair
sent_in_a_row n s = in_sends (sent_in sending) n s

-- the pairs that a drain is to send
drained_pairs_are_sent : (limit room : ℕ) (s : Sender) → Good s → drained_pairs limit room (view s) ≡ sent_in_a_row (length (drained_pairs limit room (view s))) s
drained_pairs_are_sent zero room s g = refl
drained_pairs_are_sent (suc limit) zero s g = refl
drained_pairs_are_sent (suc limit) (suc zero) s g = refl
drained_pairs_are_sent (suc limit) (suc (suc room)) s g =
    unless_idle (is_idle (view s)) (drained_pairs_are_sent limit room (send_sender s).1 (send_good s g))
  where
    unless_idle : (t : Bool) → drained_pairs limit room (view (send_sender s).1) ≡ sent_in_a_row (length (drained_pairs limit room (view (send_sender s).1))) (send_sender s).1 → cond t [] ((send (view s)).pair ∷ drained_pairs limit room (send (view s)).next) ≡ sent_in_a_row (length (cond t [] ((send (view s)).pair ∷ drained_pairs limit room (send (view s)).next))) s
    unless_idle true later = refl
    unless_idle false later =
        let sent = send_refines s g in
        let here = ap (drained_pairs limit room) sent.1 in
        ap₂ (λ (l : List Pair) (o : Outcome Pair). given o ++ l) (sym here ∙ later ∙ ap (λ (l : List Pair). sent_in_a_row (length l) (send_sender s).1) here) (sym sent.0)

-- and those in its output
drain_sends : (s : Sender) (out : List ℕ) (start limit : ℕ) → Good s → start ≤ length out → sent_in (draining out start limit) s ≡ sent_in_a_row (sends_in (drain_sender s out start limit).0) s
drain_sends s out start limit g inside =
    let counted : sends_in (drain_sender s out start limit).0 ≡ length (its_pairs s out start limit g.formed inside) =
    ap (λ (r : Outcome ℕ × Sender × List ℕ). sends_in r.0) (drains_as s out start limit g.formed inside) in
    ap (λ (n : ℕ). pairs_from n (drop start (drain_sender s out start limit).2)) counted
    ∙ its_pairs_in_the_output s out start limit g.formed inside
    ∙ drained_pairs_are_sent limit (length (drop start out)) s g
    ∙ ap (λ (n : ℕ). sent_in_a_row n s) (sym counted)

-- a refused drain sends nothing
any_drain_sends : (s : Sender) (out : List ℕ) (start limit : ℕ) (t : Bool) → ltb (length out) start ≡ t → Good s → sent_in (draining out start limit) s ≡ sent_in_a_row (sends_in (drain_sender s out start limit).0) s
any_drain_sends s out start limit true past g =
    rw (start_past_end s out start limit g.formed (ltb-true (length out) start past)) refl
any_drain_sends s out start limit false past g = drain_sends s out start limit g (ltb-false (length out) start past)

-- a send is one
send_sends : (o : Outcome Pair) (s : Sender) → (send_sender s).0 ≡ o → given o ≡ sent_in_a_row (sends_by (to_send o)) s
send_sends (answer p) s e = sym (ap (λ (o : Outcome Pair). given o ++ []) e)
send_sends (refused n) s e = refl

pub calls_send_so_many : (c : Call) (s : Sender) → Good s → sent_in c s ≡ sent_in_a_row (sends_by (on_sender c s).0) s
calls_send_so_many (pushing c) s g = refl
calls_send_so_many sending s g = send_sends (send_sender s).0 s refl
calls_send_so_many (draining out start limit) s g = any_drain_sends s out start limit (ltb (length out) start) refl g
calls_send_so_many counting s g = refl
calls_send_so_many asking s g = refl
calls_send_so_many resetting s g = refl
