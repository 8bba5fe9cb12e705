-- When a pair is refused, by which number, and what it leaves: exactly so, and there is no other refusal.
-- Assumes nothing.
use Prim.Native.Nat.{ℕ}
use borrow.Author.Tests.{leb-false, lt-leb}
use lib.ListN.{length}
use mathlib.Core.Bool.{true≢false}
use Rattle.std.specs.Prelude.{Option}
use mathlib.Core.Path.{◌≡◌, refl, ap, subst, sym, ◌∙◌}
use Rattle.code.proofs.OneAnswer.{clash}
use Rattle.code.specs.Outcome.{Outcome, answer, refused}
use Rattle.code.specs.declared.pair.Pair.{Pair}
use Rattle.extended.proofs.Ways as way
use Rattle.extended.proofs.Ways.{Way, even_read, heard_not_refused, heard_by, read_by_part, way_of, with_contents}
use Rattle.extended.specs.Extended.{Read, Reader, Report, ended, filled, finished, other, read}
use Rattle.extended.specs.Packet.{Packet, content_bytes, most_contents}
use Rattle.extended.specs.Reading.{first, is_refused, second}
use Rattle.extended.specs.Refusals.{Leaves, end_in_captions, end_of_no_packet, invalid_parity, no_such_packet, too_long, of_wrong_sum}
use Rattle.extended.specs.declared.part.Part.TheVariants as part
use Rattle.extended.specs.declared.state.Running.{Running}

abbrev number_of : Outcome Report → ℕ
number_of (answer x) = 0
number_of (refused n) = n

module _ (s : Reader) (p : Pair) where
  by_number : (m n : ℕ) (left : Reader) → ◌≡◌ {A = Outcome Report} (refused m) (refused n) → Leaves s p m left → Leaves s p n left
  by_number m n left e = subst (λ (k : ℕ). Leaves s p k left) (ap number_of e)

  by_way : (n : ℕ) (r : Read) → Way s p r → r.0 ≡ refused n → Leaves s p n r.1
  by_way n _ (way.corrupted even) e = by_number 1 n s e (invalid_parity even)
  by_way n _ (way.acts is) e = absurd (true≢false (sym (ap is_refused e) ∙ heard_not_refused s p is.odd))
  by_way n _ (way.is_text_lem is runs) e = absurd (true≢false (sym (ap is_refused e) ∙ heard_not_refused s p is.odd))
  by_way n _ (way.starts c is) e = absurd (clash e)
  by_way n _ (way.continues c is there) e = absurd (clash e)
  by_way n _ (way.no_such_packet c is other) e = by_number 13 n s e (no_such_packet c is other)
  by_way n _ (way.ends_in_captions is runs) e = by_number 13 n s e (end_in_captions is runs)
  by_way n _ (way.ends_without_packet c is runs gone) e = by_number 13 n s e (end_of_no_packet c is runs gone)
  by_way n _ (way.finishes c k is runs there right) e = absurd (clash e)
  by_way n _ (way.has_wrong_sum c k is runs there wrong) e = by_number 15 n _ e (of_wrong_sum c k is runs there wrong)
  by_way n _ (way.is_passed_over c is runs gone) e = absurd (clash e)
  by_way n _ (way.fills c k is runs there room) e = absurd (clash e)
  by_way n _ (way.is_too_long c k is runs there full) e =
      by_number 14 n _ e (too_long c k is runs there (leb-false (length (with_contents k p).contents) most_contents full))

  pub what_a_refusal_leaves : (n : ℕ) → (read s p).0 ≡ refused n → Leaves s p n (read s p).1
  what_a_refusal_leaves n = by_way n (read s p) (way_of s p)

  pub refused_exactly_so : (n : ℕ) (left : Reader) → Leaves s p n left → read s p ≡ (refused n, left)
  refused_exactly_so _ _ (invalid_parity even) = even_read s p even
  refused_exactly_so _ _ (no_such_packet c is other) = read_by_part s p (part.Continuation c) is ∙ rw other refl
  refused_exactly_so _ _ (end_in_captions is runs) =
      read_by_part s p part.End is ∙ ap (λ (r : Running). ended s (heard_by s p).1 r (second p)) runs
  refused_exactly_so _ _ (end_of_no_packet c is runs gone) =
      read_by_part s p part.End is
      ∙ ap (λ (r : Running). ended s (heard_by s p).1 r (second p)) runs
      ∙ ap (λ (x : Option Packet). finished s (heard_by s p).1 c x (second p)) gone
  refused_exactly_so _ _ (too_long c k is runs there more) =
      read_by_part s p part.Other is
      ∙ ap (λ (r : Running). other s (heard_by s p) r (first p) (second p)) runs
      ∙ ap (λ (x : Option Packet). filled s (heard_by s p).1 c x (content_bytes (first p) (second p))) there
      ∙ rw (lt-leb (length (with_contents k p).contents) most_contents more) refl
  refused_exactly_so _ _ (of_wrong_sum c k is runs there wrong) =
      read_by_part s p part.End is
      ∙ ap (λ (r : Running). ended s (heard_by s p).1 r (second p)) runs
      ∙ ap (λ (x : Option Packet). finished s (heard_by s p).1 c x (second p)) there
      ∙ rw wrong refl
