-- What a report says: a packet is reported at an end alone, as the one that was open, with its type and contents, by a right sum.
-- What a pair makes of a packet; and so at most 32 content bytes are ever held.
-- Assumes nothing.
use Prim.Native.Nat.{ℕ, ◌≤◌}
use borrow.Author.Tests.{leb-false, leb-true, not-true}
use lib.ListN.{length}
use mathlib.Core.Bool.{Bool, cond, false, not, true, true≢false}
use mathlib.Core.List.{List, [], ◌∷◌}
use Rattle.std.specs.Prelude.{Option, None, Some, is_some}
use mathlib.Core.Path.{◌≡◌, refl, ap, sym, subst, ◌∙◌}
use native.Mathlib.Omega.{arith}
use Rattle.code.proofs.Both.{both_true}
use Rattle.code.specs.Outcome.{Outcome, answer, refused}
use Rattle.code.specs.declared.pair.Pair.{Pair}
use Rattle.event.specs.declared.event.Cea608.{Cea608}
use Rattle.extended.proofs.Classes.{its_own_class, same_class_lem}
use Rattle.extended.proofs.Ways.{Way, acts, corrupted, ends_in_captions, ends_without_packet, fills, finishes, continues, has_wrong_sum, heard_by, is_passed_over, is_text_lem, is_too_long, no_such_packet, starts, way_of, with_contents}
use Rattle.extended.specs.Extended.{Read, Reader, Report, event, fresh, nothing, packet, read, reported, same_class}
use Rattle.extended.specs.Packet.{Packet, most_contents}
use Rattle.extended.specs.Reading.{Is, after, answers}
use Rattle.extended.specs.Reports.{Becomes, WasOpen, begun, ended, given_packet, more, reports, the_same, times_reported, too_long}
use Rattle.extended.specs.SentWhole.{is_own_start, no_own_start}
use Rattle.extended.specs.declared.class.Class.{Class}
use Rattle.extended.specs.declared.part.Part.TheVariants as part
use Rattle.extended.specs.declared.state.Running.TheVariants as running

-- what the captions' receiver answers is no packet
pub no_packet : (o : Outcome (Option Cea608)) → given_packet (reported o) ≡ None
no_packet (answer None) = refl
no_packet (answer (Some e)) = refl
no_packet (refused n) = refl

-- what is there, or this
abbrev pub or_else : {A : Type 0} → A → Option A → A
or_else a None = a
or_else a (Some b) = b

module _ (s : Reader) (p : Pair) (c : Class) (t : ℕ) (bs : List ℕ) where
  not_this : (o : Outcome Report) → given_packet o ≡ None → o ≡ answer (packet c t bs) → ⊥
  not_this o other e = true≢false (sym (ap (λ (x : Outcome Report). is_some (given_packet x)) e) ∙ ap is_some other)

  reported_by : (r : Read) → Way s p r → r.0 ≡ answer (packet c t bs) → WasOpen s p c t bs
  reported_by _ (corrupted even) e = absurd (not_this (refused 1) refl e)
  reported_by _ (acts is) e = absurd (not_this (reported (heard_by s p).0) (no_packet (heard_by s p).0) e)
  reported_by _ (is_text_lem is runs) e = absurd (not_this (reported (heard_by s p).0) (no_packet (heard_by s p).0) e)
  reported_by _ (starts d is) e = absurd (not_this (answer nothing) refl e)
  reported_by _ (continues d is there) e = absurd (not_this (answer nothing) refl e)
  reported_by _ (no_such_packet d is there) e = absurd (not_this (refused 13) refl e)
  reported_by _ (ends_in_captions is runs) e = absurd (not_this (refused 13) refl e)
  reported_by _ (ends_without_packet d is runs there) e = absurd (not_this (refused 13) refl e)
  reported_by _ (finishes d k is runs there right) e =
      let both : ◌≡◌ {A = Class × Packet} (d, k) (c, record { packet_type = t; contents = bs }) =
      ap (λ (o : Outcome Report). or_else (d, k) (given_packet o)) e
      in
      subst (λ (x : Class × Packet). WasOpen s p x.0 x.1.packet_type x.1.contents) both
      (record { end = is; runs_now = runs; held = there; sum = right })
  reported_by _ (has_wrong_sum d k is runs there wrong) e = absurd (not_this (refused 15) refl e)
  reported_by _ (is_passed_over d is runs there) e = absurd (not_this (answer nothing) refl e)
  reported_by _ (fills d k is runs there room) e = absurd (not_this (answer nothing) refl e)
  reported_by _ (is_too_long d k is runs there full) e = absurd (not_this (refused 14) refl e)

  pub reported_was_open : (read s p).0 ≡ answer (packet c t bs) → WasOpen s p c t bs
  reported_was_open = reported_by (read s p) (way_of s p)

module _ (c : Class) (s : Reader) (p : Pair) where
  -- the packet of the class once that of another, or its own, is replaced
  dropped_or_not : (d : Class) (t : Bool) → same_class d c ≡ t → (d ≡ c → Becomes c s p None) → Becomes c s p (cond t None (s.packets c))
  dropped_or_not d true e own = own (same_class_lem d c e)
  dropped_or_not d false e own = the_same

  ends_its_own : (d : Class) (k : Packet) → Is part.End p → s.running ≡ running.Extended d → s.packets d ≡ Some k → d ≡ c → Becomes c s p None
  ends_its_own d k is runs there e = ended k is (runs ∙ ap running.Extended e) (ap s.packets (sym e) ∙ there)

  begun_or_not : (d : Class) (t : Bool) (x : Packet) → same_class d c ≡ t → (d ≡ c → Becomes c s p (Some x)) → Becomes c s p (cond t (Some x) (s.packets c))
  begun_or_not d true x e own = own (same_class_lem d c e)
  begun_or_not d false x e own = the_same

  becomes_by : (r : Read) → Way s p r → Becomes c s p (r.1.packets c)
  becomes_by _ (corrupted even) = the_same
  becomes_by _ (acts is) = the_same
  becomes_by _ (is_text_lem is runs) = the_same
  becomes_by _ (starts d is) =
      begun_or_not d (same_class d c) _ refl (λ (e : d ≡ c). begun (subst (λ (x : Class). Is (part.Start x) p) e is))
  becomes_by _ (continues d is there) = the_same
  becomes_by _ (no_such_packet d is there) = the_same
  becomes_by _ (ends_in_captions is runs) = the_same
  becomes_by _ (ends_without_packet d is runs there) = the_same
  becomes_by _ (finishes d k is runs there right) = dropped_or_not d (same_class d c) refl (ends_its_own d k is runs there)
  becomes_by _ (has_wrong_sum d k is runs there wrong) = dropped_or_not d (same_class d c) refl (ends_its_own d k is runs there)
  becomes_by _ (is_passed_over d is runs there) = the_same
  becomes_by _ (fills d k is runs there room) =
      begun_or_not d (same_class d c) (with_contents k p) refl (λ (e : d ≡ c).
      more k is (runs ∙ ap running.Extended e) (ap s.packets (sym e) ∙ there) (leb-true (length (with_contents k p).contents) most_contents room))
  becomes_by _ (is_too_long d k is runs there full) =
      dropped_or_not d (same_class d c) refl (λ (e : d ≡ c).
      too_long k is (runs ∙ ap running.Extended e) (ap s.packets (sym e) ∙ there) (leb-false (length (with_contents k p).contents) most_contents full))

  pub what_becomes_of_a_packet : Becomes c s p ((read s p).1.packets c)
  what_becomes_of_a_packet = becomes_by (read s p) (way_of s p)

-- each packet has at most 32 content bytes
abbrev pub AtMost32 : Reader → Type 0
AtMost32 s = (c : Class) (k : Packet) → s.packets c ≡ Some k → length k.contents ≤ most_contents

no_some : (k : Packet) → ◌≡◌ {A = Option Packet} None (Some k) → ⊥
no_some k e = true≢false (sym (ap is_some e))

still_at_most : (s : Reader) (p : Pair) (c : Class) → AtMost32 s → (x : Option Packet) → Becomes c s p x → (k : Packet) → x ≡ Some k → length k.contents ≤ most_contents
still_at_most s p c before _ the_same k e = before c k e
still_at_most s p c before _ (begun is) k e =
    subst (λ (y : Packet). length y.contents ≤ most_contents) (ap (or_else k) e) (omega arith)
still_at_most s p c before _ (more j is runs there few) k e =
    subst (λ (y : Packet). length y.contents ≤ most_contents) (ap (or_else k) e) few
still_at_most s p c before _ (ended j is runs there) k e = absurd (no_some k e)
still_at_most s p c before _ (too_long j is runs there more_bytes) k e = absurd (no_some k e)

pub at_most_32_still : (s : Reader) (p : Pair) → AtMost32 s → AtMost32 (read s p).1
at_most_32_still s p before c = still_at_most s p c before ((read s p).1.packets c) (what_becomes_of_a_packet c s p)

from_there : (s : Reader) (ps : List Pair) → AtMost32 s → AtMost32 (after s ps)
from_there s [] before = before
from_there s (p ∷ ps) before = from_there (read s p).1 ps (at_most_32_still s p before)

pub at_most_32 : (ps : List Pair) → AtMost32 (after fresh ps)
at_most_32 ps = from_there fresh ps (λ (c : Class) (k : Packet) (e : ◌≡◌ {A = Option Packet} None (Some k)). absurd (no_some k e))

-- A packet that is not there is not reported, and stays away, until its class is started.
module _ (c : Class) where
  still_none : (s : Reader) (p : Pair) → s.packets c ≡ None → is_own_start c p ≡ false → (x : Option Packet) → Becomes c s p x → x ≡ None
  still_none s p gone no_start _ the_same = gone
  still_none s p gone no_start _ (begun is) =
      absurd (true≢false (sym (rw (is.odd, is.part, its_own_class c) refl) ∙ no_start))
  still_none s p gone no_start _ (more k is runs there few) = absurd (no_some k (sym gone ∙ there))
  still_none s p gone no_start _ (ended k is runs there) = refl
  still_none s p gone no_start _ (too_long k is runs there more_bytes) = refl

  not_its_own : (s : Reader) (p : Pair) (d : Class) (t : ℕ) (bs : List ℕ) → s.packets c ≡ None → (read s p).0 ≡ answer (packet d t bs) → (same : Bool) → same_class d c ≡ same → ◌≡◌ {A = ℕ} (cond same 1 0) 0
  not_its_own s p d t bs gone e true own =
      let was = reported_was_open s p d t bs e in
      absurd (no_some _ (sym gone ∙ ap s.packets (sym (same_class_lem d c own)) ∙ was.held))
  not_its_own s p d t bs gone e false other = refl

  none_reported : (s : Reader) (p : Pair) → s.packets c ≡ None → (o : Outcome Report) → (read s p).0 ≡ o → reports c o ≡ 0
  none_reported s p gone (answer nothing) e = refl
  none_reported s p gone (answer (event x)) e = refl
  none_reported s p gone (answer (packet d t bs)) e = not_its_own s p d t bs gone e (same_class d c) refl
  none_reported s p gone (refused n) e = refl

  pub not_before_a_start : (s : Reader) (ps : List Pair) → s.packets c ≡ None → no_own_start c ps ≡ true → times_reported c (answers s ps) ≡ 0
  not_before_a_start s [] gone no_starts = refl
  not_before_a_start s (p ∷ ps) gone no_starts =
      let both = both_true (not (is_own_start c p)) (no_own_start c ps) no_starts in
      let next = still_none s p gone (not-true (is_own_start c p) both.0) ((read s p).1.packets c) (what_becomes_of_a_packet c s p) in
      omega (arith, none_reported s p gone (read s p).0 refl, not_before_a_start (read s p).1 ps next both.1)
