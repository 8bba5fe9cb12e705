-- The writer of pairs, one turn at a time. What it comes to from a state, with some sends made and the part filled up
-- to a place, is the same before a send and after it; with no turn left it is what has been done.
-- Assumes nothing.
use mathlib.Core.Bool.{Bool, true, false}
use mathlib.Core.List.{List, [], ◌∷◌, ◌++◌, append_assoc}
use mathlib.Core.Path.{◌≡◌, refl, ap, ap₂, sym, ◌∙◌}
use Prim.Native.Nat.{ℕ, zero, suc, ◌+◌, ◌*◌, ◌-◌, ◌/◌, ◌≤◌, ◌<◌, min}
use native.Mathlib.Omega.{arith}
use borrow.Author.Tests.{leb-false, leb-true}
use lib.Dec.{leb}
use lib.ListN.{drop, length, length-set, set, take, take-append-drop}
use lib.Seq.{drop-drop, drop-set-lt, take-suc-set}
use Rattle.code.proofs.OneAnswer.{same}
use Rattle.code.specs.Outcome.{Outcome, answer}
use Rattle.code.specs.declared.pair.Pair.{Pair}
use Rattle.sender.proofs.Refines.{sent_pair, sent_view}
use Rattle.sender.specs.Drain.{bytes_of_pairs, drained_pairs, filled, send_sender_times}
use Rattle.sender.proofs.Steps.{step_is_the_send}
use Rattle.sender.specs.ByParts.{filling, moved, step_in}
use Rattle.sender.specs.Sender.{send_sender, view, well_formed}
use Rattle.sender.specs.Sending.{Sending, is_idle, send}
use Rattle.sender.specs.declared.sender.Sender.{Sender}

-- the pairs that are left to send: none at the limit, out of room or idle, else one and those after it
none_at_limit : (n room : ℕ) (v : Sending) → n ≡ 0 → drained_pairs n room v ≡ []
none_at_limit n room v e = ap (λ (k : ℕ). drained_pairs k room v) e

none_without_room : (n room : ℕ) (v : Sending) → room < 2 → drained_pairs n room v ≡ []
none_without_room zero room v h = refl
none_without_room (suc n) zero v h = refl
none_without_room (suc n) (suc zero) v h = refl
none_without_room (suc n) (suc (suc room)) v h = absurd (omega arith)

none_when_idle : (n room : ℕ) (v : Sending) → is_idle v ≡ true → drained_pairs n room v ≡ []
none_when_idle zero room v e = refl
none_when_idle (suc n) zero v e = refl
none_when_idle (suc n) (suc zero) v e = refl
none_when_idle (suc n) (suc (suc room)) v e = rw e refl

one_more_lem : (n room : ℕ) (v : Sending) → 0 < n → 2 ≤ room → is_idle v ≡ false → drained_pairs n room v ≡ (send v).pair ∷ drained_pairs (n - 1) (room - 2) (send v).next
one_more_lem zero room v more space e = absurd (omega arith)
one_more_lem (suc n) zero v more space e = absurd (omega arith)
one_more_lem (suc n) (suc zero) v more space e = absurd (omega arith)
one_more_lem (suc n) (suc (suc room)) v more space e =
    let fewer : n ≡ suc n - 1 = omega arith in
    let less : room ≡ suc (suc room) - 2 = omega arith in
    rw e (ap₂ (λ (k r : ℕ). (send v).pair ∷ drained_pairs k r (send v).next) fewer less)

-- a pair stored at a place: the filled part is longer by its two bytes, and the rest is what was after them
abbrev stored_at : List ℕ → ℕ → Pair → List ℕ
stored_at part at p = set (set part at p.0) (at + 1) p.1

module _ (part : List ℕ) (at : ℕ) (p : Pair) (room : 2 ≤ length part - at) where
  in_front : take (suc (suc at)) (set (set part at p.0) (suc at) p.1) ≡ take at part ++ (p.0 ∷ p.1 ∷ [])
  in_front =
      take-suc-set (set part at p.0) (suc at) p.1 (omega (arith, length-set part at p.0))
      ∙ ap (λ (l : List ℕ). l ++ (p.1 ∷ [])) (take-suc-set part at p.0 (omega arith))
      ∙ append_assoc (take at part) (p.0 ∷ []) (p.1 ∷ [])

  after_them : drop (suc (suc at)) (set (set part at p.0) (suc at) p.1) ≡ drop (suc (suc at)) part
  after_them =
      drop-set-lt (suc (suc at)) (set part at p.0) (suc at) p.1 (omega arith)
      ∙ drop-set-lt (suc (suc at)) part at p.0 (omega arith)

  further : (n : ℕ) → drop n (drop (suc (suc at)) part) ≡ drop (suc (suc n)) (drop at part)
  further n =
      let on : suc (suc at) + n ≡ at + suc (suc n) = omega arith in
      drop-drop n (suc (suc at)) part ∙ ap (λ (k : ℕ). drop k part) on ∙ sym (drop-drop (suc (suc n)) at part)

  filled_from : (ps : List Pair) → take (suc (suc at)) (set (set part at p.0) (suc at) p.1) ++ filled (drop (suc (suc at)) (set (set part at p.0) (suc at) p.1)) ps ≡ take at part ++ filled (drop at part) (p ∷ ps)
  filled_from ps =
      ap₂ (λ (front rest : List ℕ). front ++ (bytes_of_pairs ps ++ rest)) in_front
      (ap (drop (length (bytes_of_pairs ps))) after_them ∙ further (length (bytes_of_pairs ps)))
      ∙ append_assoc (take at part) (p.0 ∷ p.1 ∷ []) (bytes_of_pairs ps ++ drop (suc (suc (length (bytes_of_pairs ps)))) (drop at part))

  filled_on : (ps : List Pair) → take at part ++ filled (drop at part) (p ∷ ps) ≡ take (at + 2) (stored_at part at p) ++ filled (drop (at + 2) (stored_at part at p)) ps
  filled_on ps =
      let two : suc (suc at) ≡ at + 2 = omega arith in
      let one : suc at ≡ at + 1 = omega arith in
      sym (filled_from ps)
      ∙ ap₂ (λ (i j : ℕ). take i (set (set part at p.0) j p.1) ++ filled (drop i (set (set part at p.0) j p.1)) ps) two one

-- the count of sends, the state and the part, once the pairs ps are sent from the place on
abbrev once_sent : ℕ → Sender → List ℕ → ℕ → List Pair → ℕ × Sender × List ℕ
once_sent sends s part at ps = (sends + length ps, send_sender_times (length ps) s, take at part ++ filled (drop at part) ps)

-- what the writer comes to
abbrev pub comes_to : ℕ → ℕ → Sender → List ℕ → ℕ → ℕ × Sender × List ℕ
comes_to limit sends s part at = once_sent sends s part at (drained_pairs (limit - sends) (length part - at) (view s))

-- from the beginning of a part it fills the part
pub begun : (limit : ℕ) (s : Sender) (part : List ℕ) → comes_to limit 0 s part 0 ≡ filling s part limit
begun limit s part =
    let all : limit - 0 ≡ limit = omega arith in
    let whole : length part - 0 ≡ length part = omega arith in
    let ps = drained_pairs limit (length part) (view s) in
    let counted : 0 + length ps ≡ length ps = omega arith in
    ap₂ (λ (n room : ℕ). once_sent 0 s part 0 (drained_pairs n room (view s))) all whole
    ∙ ap {B = ℕ × Sender × List ℕ} (λ (n : ℕ). (n, send_sender_times (length ps) s, filled part ps)) counted

none_left : (sends : ℕ) (s : Sender) (part : List ℕ) (at : ℕ) → once_sent sends s part at [] ≡ (sends, s, part)
none_left sends s part at =
    let counted : sends + 0 ≡ sends = omega arith in
    ap₂ {C = ℕ × Sender × List ℕ} (λ (n : ℕ) (l : List ℕ). (n, s, l)) counted (take-append-drop at part)

pub done_at_limit : (limit sends : ℕ) (s : Sender) (part : List ℕ) (at : ℕ) → limit ≤ sends → comes_to limit sends s part at ≡ (sends, s, part)
done_at_limit limit sends s part at h =
    ap (once_sent sends s part at) (none_at_limit (limit - sends) (length part - at) (view s) (omega arith)) ∙ none_left sends s part at

pub done_without_room : (limit sends : ℕ) (s : Sender) (part : List ℕ) (at : ℕ) → length part - at < 2 → comes_to limit sends s part at ≡ (sends, s, part)
done_without_room limit sends s part at h =
    ap (once_sent sends s part at) (none_without_room (limit - sends) (length part - at) (view s) h) ∙ none_left sends s part at

pub done_when_idle : (limit sends : ℕ) (s : Sender) (part : List ℕ) (at : ℕ) → is_idle (view s) ≡ true → comes_to limit sends s part at ≡ (sends, s, part)
done_when_idle limit sends s part at e =
    ap (once_sent sends s part at) (none_when_idle (limit - sends) (length part - at) (view s) e) ∙ none_left sends s part at

-- with as many sends as the limit and the room allow
module _ (limit most sends : ℕ) (s : Sender) (part : List ℕ) (room : most ≡ min limit (length part / 2)) (all : sends ≡ most) where
  at_most_by : (t : Bool) → leb limit sends ≡ t → comes_to limit sends s part (2 * sends) ≡ (sends, s, part)
  at_most_by true e = done_at_limit limit sends s part (2 * sends) (leb-true limit sends e)
  at_most_by false e = done_without_room limit sends s part (2 * sends) (omega (arith, leb-false limit sends e))

  pub done_at_most : comes_to limit sends s part (2 * sends) ≡ (most, s, part)
  done_at_most = at_most_by (leb limit sends) refl ∙ ap {B = ℕ × Sender × List ℕ} (λ (n : ℕ). (n, s, part)) all

-- a turn: one send more, its pair in its place
turned : (sends : ℕ) (s : Sender) (part : List ℕ) (at : ℕ) (p : Pair) (ps : List Pair) → 2 ≤ length part - at → once_sent sends s part at (p ∷ ps) ≡ once_sent (sends + 1) (send_sender s).1 (stored_at part at p) (at + 2) ps
turned sends s part at p ps room =
    let counted : sends + suc (length ps) ≡ sends + 1 + length ps = omega arith in
    ap₂ {C = ℕ × Sender × List ℕ} (λ (n : ℕ) (l : List ℕ). (n, send_sender_times (length ps) (send_sender s).1, l)) counted (filled_on part at p room ps)

one_send : (limit sends : ℕ) (s : Sender) (part : List ℕ) (at : ℕ) → well_formed s ≡ true → sends < limit → 2 ≤ length part - at → is_idle (view s) ≡ false → comes_to limit sends s part at ≡ comes_to limit (sends + 1) (send_sender s).1 (stored_at part at (send (view s)).pair) (at + 2)
one_send limit sends s part at formed more room busy =
    let p = (send (view s)).pair in
    let next = stored_at part at p in
    let kept : length next ≡ length part = length-set (set part at p.0) (at + 1) p.1 ∙ length-set part at p.0 in
    let fewer : limit - sends - 1 ≡ limit - (sends + 1) = omega arith in
    let less : length part - at - 2 ≡ length next - (at + 2) = omega arith in
    ap (once_sent sends s part at) (one_more_lem (limit - sends) (length part - at) (view s) (omega arith) room busy)
    ∙ turned sends s part at p (drained_pairs (limit - sends - 1) (length part - at - 2) (send (view s)).next) room
    ∙ ap₂ (λ (n r : ℕ). once_sent (sends + 1) (send_sender s).1 next (at + 2) (drained_pairs n r (send (view s)).next)) fewer less
    ∙ ap (λ (v : Sending). once_sent (sends + 1) (send_sender s).1 next (at + 2) (drained_pairs (limit - (sends + 1)) (length next - (at + 2)) v)) (sym (sent_view s formed))

-- the same turn, with the step that the code found, which stores its pair after those that were sent
pub one_turn : (limit sends : ℕ) (s : Sender) (part : List ℕ) → well_formed s ≡ true → sends < limit → 2 ≤ length part - 2 * sends → is_idle (view s) ≡ false → comes_to limit (sends + 1) (moved s (step_in s)) (set (set part (2 * sends) (step_in s).pair.0) (2 * sends + 1) (step_in s).pair.1) (2 * (sends + 1)) ≡ comes_to limit sends s part (2 * sends)
one_turn limit sends s part formed more room busy =
    let at = 2 * sends in
    let on : 2 * (sends + 1) ≡ at + 2 = omega arith in
    let sent = step_is_the_send s formed in
    let told : ◌≡◌ {A = Outcome Pair} (answer (step_in s).pair) (answer (send (view s)).pair) = ap (λ (x : Outcome Pair × Sender). x.0) sent ∙ sent_pair s formed in
    ap (comes_to limit (sends + 1) (moved s (step_in s)) (stored_at part at (step_in s).pair)) on
    ∙ ap₂ (λ (x : Sender) (p : Pair). comes_to limit (sends + 1) x (stored_at part at p) (at + 2)) (ap (λ (x : Outcome Pair × Sender). x.1) sent) (same told)
    ∙ sym (one_send limit sends s part at formed more room busy)
