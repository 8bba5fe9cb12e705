-- How many sends a drain makes, exactly: it stops at its limit, with less than a pair of room, or idle, whichever comes first.
-- So it writes no padding, and leaves nothing that had room.
-- Assumes nothing.
use mathlib.Core.Bool.{Bool, true, false, cond}
use mathlib.Core.List.{List, [], ◌∷◌}
use mathlib.Core.Path.{◌≡◌, refl, ap, ap₂, sym, ◌∙◌}
use Prim.Native.Nat.{ℕ, zero, suc, ◌/◌, ◌≤◌}
use native.Mathlib.Omega.{arith}
use borrow.Author.Tests.{le-leb, leb-false, leb-true, lt-leb}
use lib.Dec.{leb}
use lib.ListN.{drop, length}
use Rattle.code.specs.Outcome.{Outcome, answer}
use Rattle.queue.proofs.Refines.{good_fits}
use Rattle.queue.specs.Good.{Fit}
use Rattle.sender.proofs.Lent.{drained_as}
use Rattle.sender.proofs.Refines.{queue_formed}
use Rattle.sender.proofs.SendsLeft.{idle_has_none_left, one_fewer_left, send_fits}
use Rattle.sender.specs.Drain.{drain_sender, drained_pairs}
use Rattle.sender.specs.Sender.{view, well_formed}
use Rattle.sender.specs.SendsLeft.{drains_exactly, least, sends_left}
use Rattle.sender.specs.Sending.{Sending, is_idle, send}
use Rattle.sender.specs.declared.sender.Sender.{Sender}

-- the least of two, one of them none, and both one more
none_first : (b : ℕ) → least 0 b ≡ 0
none_first b = rw (le-leb 0 b (omega arith)) refl

none_second : (a : ℕ) → least a 0 ≡ 0
none_second zero = refl
none_second (suc a) = rw (lt-leb (suc a) 0 (omega arith)) refl

more_by : (a b : ℕ) (t : Bool) → leb a b ≡ t → least (suc a) (suc b) ≡ suc (least a b)
more_by a b true e = rw (e, le-leb (suc a) (suc b) (omega (arith, leb-true a b e))) refl
more_by a b false e = rw (e, lt-leb (suc a) (suc b) (omega (arith, leb-false a b e))) refl

one_more_lem : (a b : ℕ) → least (suc a) (suc b) ≡ suc (least a b)
one_more_lem a b = more_by a b (leb a b) refl

no_room : (limit room : ℕ) (v : Sending) → room / 2 ≡ 0 → 0 ≡ drains_exactly limit room v
no_room limit room v e =
    sym (ap (λ (n : ℕ). least limit (least n (sends_left v))) e ∙ ap (least limit) (none_first (sends_left v)) ∙ none_second limit)

none_left : (limit room : ℕ) (v : Sending) → is_idle v ≡ true → 0 ≡ drains_exactly limit room v
none_left limit room v idle =
    sym (ap (λ (n : ℕ). least limit (least (room / 2) n)) (idle_has_none_left v idle) ∙ ap (least limit) (none_second (room / 2)) ∙ none_second limit)

-- a send that has room, within the limit
one_sent : (limit room : ℕ) (v : Sending) → Fit v.queue → is_idle v ≡ false → suc (drains_exactly limit room (send v).next) ≡ drains_exactly (suc limit) (suc (suc room)) v
one_sent limit room v fits busy =
    let left = sends_left (send v).next in
    let pairs : suc (suc room) / 2 ≡ suc (room / 2) = omega arith in
    sym (ap₂ (λ (n k : ℕ). least (suc limit) (least n k)) pairs (one_fewer_left v fits busy) ∙ ap (least (suc limit)) (one_more_lem (room / 2) left) ∙ one_more_lem limit (least (room / 2) left))

pub drains_exactly_lem : (limit room : ℕ) (v : Sending) → Fit v.queue → length (drained_pairs limit room v) ≡ drains_exactly limit room v
drains_exactly_lem zero room v fits = sym (none_first (least (room / 2) (sends_left v)))
drains_exactly_lem (suc limit) zero v fits = no_room (suc limit) 0 v refl
drains_exactly_lem (suc limit) (suc zero) v fits = no_room (suc limit) 1 v refl
drains_exactly_lem (suc limit) (suc (suc room)) v fits =
    unless_idle (is_idle v) refl (drains_exactly_lem limit room (send v).next (send_fits v fits))
  where
    unless_idle : (t : Bool) → is_idle v ≡ t → length (drained_pairs limit room (send v).next) ≡ drains_exactly limit room (send v).next → length (cond t [] ((send v).pair ∷ drained_pairs limit room (send v).next)) ≡ drains_exactly (suc limit) (suc (suc room)) v
    unless_idle true e later = none_left (suc limit) (suc (suc room)) v e
    unless_idle false e later = ap suc later ∙ one_sent limit room v fits e

-- so a drain of a well-formed sender, its start inside the output, reports this count
pub reports_exactly : (s : Sender) (out : List ℕ) (start limit : ℕ) → well_formed s ≡ true → start ≤ length out → (drain_sender s out start limit).0 ≡ answer (drains_exactly limit (length (drop start out)) (view s))
reports_exactly s out start limit formed inside =
    ap (λ (r : Outcome ℕ × Sender × List ℕ). r.0) (drained_as s out start limit formed inside)
    ∙ ap answer (drains_exactly_lem limit (length (drop start out)) (view s) (good_fits s.queue (queue_formed s formed)))
