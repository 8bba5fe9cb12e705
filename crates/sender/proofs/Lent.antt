-- What the drain leaves, by the part of the output that it lent: with the start inside the output, the part is all from
-- the start on, and comes back with nothing after it.
-- Assumes nothing.
use mathlib.Core.Bool.{true, false}
use mathlib.Core.List.{List, ◌++◌}
use mathlib.Core.Path.{◌≡◌, refl, ap, sym, ◌∙◌}
use Prim.Native.Nat.{ℕ, ◌-◌, ◌≤◌, ◌<◌}
use borrow.Author.Tests.{le-ltb, lt-ltb}
use lib.ListN.{drop, length, take}
use Rattle.code.proofs.LentPart.{lent_part, with_part_lem}
use Rattle.code.specs.Outcome.{Outcome, answer, refused}
use Rattle.sender.specs.Drain.{drain_sender, drained, drained_pairs}
use Rattle.sender.specs.ByParts.{filling}
use Rattle.sender.specs.Sender.{view, well_formed}
use Rattle.sender.specs.declared.sender.Sender.{Sender}

-- 12, then 11
pub ill_formed_drain : (s : Sender) (out : List ℕ) (start limit : ℕ) → well_formed s ≡ false → drain_sender s out start limit ≡ (refused 12, s, out)
unfolding drain_sender
ill_formed_drain s out start limit e = rw e refl

pub start_past_end : (s : Sender) (out : List ℕ) (start limit : ℕ) → well_formed s ≡ true → length out < start → drain_sender s out start limit ≡ (refused 11, s, out)
unfolding drain_sender
start_past_end s out start limit e past = rw (e, lt-ltb (length out) start past) refl

pub drained_as : (s : Sender) (out : List ℕ) (start limit : ℕ) → well_formed s ≡ true → start ≤ length out → drain_sender s out start limit ≡ drained s out start (drained_pairs limit (length (drop start out)) (view s))
unfolding drain_sender
drained_as s out start limit e inside = rw (e, le-ltb (length out) start inside) refl

-- what the writer of pairs did to the part is what the drain does to the output
pub lent_part_is_drained : (s : Sender) (out : List ℕ) (start limit n : ℕ) (next : Sender) (ys : List ℕ) → well_formed s ≡ true → start ≤ length out → (n, next, ys) ≡ filling s (take (length out - start) (drop start out)) limit → (answer n, next, take start out ++ (ys ++ drop (length out - start) (drop start out))) ≡ drain_sender s out start limit
lent_part_is_drained s out start limit n next ys e inside done =
    ap {B = Outcome ℕ × Sender × List ℕ} (λ (l : List ℕ). (answer n, next, l)) (with_part_lem out start ys)
    ∙ ap {B = Outcome ℕ × Sender × List ℕ} (λ (x : ℕ × Sender × List ℕ). (answer x.0, x.1, take start out ++ x.2)) (done ∙ ap (λ (l : List ℕ). filling s l limit) (lent_part out start))
    ∙ sym (drained_as s out start limit e inside)
