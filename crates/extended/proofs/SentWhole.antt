-- A packet that is sent whole, with a right sum, is reported once, with its class, its type and its contents: whatever
-- captions, padding, refused pairs and other classes' packets stand between its start and its end, if none is its own start.
-- Assumes nothing.
use Prim.Native.Nat.{ℕ, ◌≤◌}
use borrow.Author.Tests.{le-leb, not-true}
use lib.ListN.{length, length-append}
use mathlib.Core.Bool.{Bool, ◌&&◌, cond, false, not, true, true≢false}
use mathlib.Core.List.{List, [], ◌++◌, ◌∷◌, append_assoc, append-nil}
use Rattle.std.specs.Prelude.{Option, None, Some}
use mathlib.Core.Path.{◌≡◌, refl, ap, sym, subst, ◌∙◌}
use native.Mathlib.Omega.{arith}
use Rattle.code.proofs.Both.{both_true}
use Rattle.code.specs.Outcome.{Outcome, answer}
use Rattle.code.specs.declared.pair.Pair.{Pair}
use Rattle.event.specs.declared.event.Cea608.{Cea608}
use Rattle.extended.proofs.Classes.{its_own_class, same_class_lem}
use Rattle.extended.proofs.Reports.{no_packet, not_before_a_start, or_else}
use Rattle.extended.proofs.Ways.{Way, acts, corrupted, ends_in_captions, ends_without_packet, fills, finishes, fits, continues, has_wrong_sum, heard_by, is_passed_over, is_text_lem, is_too_long, no_such_packet, read_by_part, starts, way_of, with_contents}
use Rattle.extended.specs.Extended.{Read, Reader, ended, finished, packet, read, reported, same_class, with_captions, with_packet}
use Rattle.extended.specs.Packet.{Packet, content_bytes, is_right_sum, most_contents}
use Rattle.extended.specs.Reading.{Is, after, answers, first, second}
use Rattle.extended.specs.Reports.{count_in, reports, times_reported}
use Rattle.extended.specs.SentWhole.{ReportedOnce, SentWhole, brings, brought, goes_on, is_own_end, is_own_start, runs}
use Rattle.extended.specs.declared.class.Class.{Class}
use Rattle.extended.specs.declared.part.Part.TheVariants as part
use Rattle.extended.specs.declared.state.Running.TheVariants as running
use Rattle.extended.specs.declared.state.Running.{Running}

abbrev pub holding : ℕ → List ℕ → Option Packet
holding t bs = Some (record { packet_type = t; contents = bs })

no_report : (c : Class) (o : Outcome (Option Cea608)) → reports c (reported o) ≡ 0
no_report c o = ap (count_in c) (no_packet o)

-- after a pair the packet is there with these contents, and none of its class was reported
abbrev Still : Class → ℕ → List ℕ → Read → Type 0
Still c t bs r = (r.1.packets c ≡ holding t bs) × (reports c r.0 ≡ 0)

other_report : (c d : Class) (k : Packet) → same_class d c ≡ false → reports c (answer (packet d k.packet_type k.contents)) ≡ 0
other_report c d k apart = rw apart refl

module _ (c : Class) (t : ℕ) (s : Reader) (p : Pair) (bs : List ℕ) (held : s.packets c ≡ holding t bs) (no_start : is_own_start c p ≡ false) (no_end : is_own_end c s p ≡ false) (few : length (bs ++ brings c s p) ≤ most_contents) where
  -- a pair that brings nothing
  same_contents : (x : Option Packet) → brings c s p ≡ [] → x ≡ holding t bs → x ≡ holding t (bs ++ brings c s p)
  same_contents x nil there = there ∙ ap (holding t) (sym (ap (λ (xs : List ℕ). bs ++ xs) nil ∙ append-nil bs))

  -- another class's packet is replaced
  apart_start : (d : Class) → Is (part.Start d) p → same_class d c ≡ false
  apart_start d is = sym (rw (is.odd, is.part) refl) ∙ no_start

  apart_end : (d : Class) → Is part.End p → s.running ≡ running.Extended d → same_class d c ≡ false
  apart_end d is runs_d = sym (rw (is.odd, is.part, runs_d) refl) ∙ no_end

  elsewhere : (d : Class) (x : Option Packet) → same_class d c ≡ false → cond (same_class d c) x (s.packets c) ≡ holding t bs
  elsewhere d x apart = rw apart held

  -- contents, of this class or of another
  brings_its_bytes : (d : Class) → Is part.Other p → s.running ≡ running.Extended d → brings c s p ≡ cond (same_class d c) (content_bytes (first p) (second p)) []
  brings_its_bytes d is runs_d = rw (is.odd, is.part, runs_d) refl

  brings_nothing : (d : Class) → Is part.Other p → s.running ≡ running.Extended d → same_class d c ≡ false → brings c s p ≡ []
  brings_nothing d is runs_d apart = brings_its_bytes d is runs_d ∙ rw apart refl

  own_packet : (d : Class) (k : Packet) → same_class d c ≡ true → s.packets d ≡ Some k → k ≡ record { packet_type = t; contents = bs }
  own_packet d k own there =
      ap (or_else k) (sym there ∙ ap s.packets (same_class_lem d c own) ∙ held)

  passed_over : (d : Class) (u : Bool) → same_class d c ≡ u → Is part.Other p → s.running ≡ running.Extended d → s.packets d ≡ None → brings c s p ≡ []
  passed_over d true own is runs_d gone =
      let there : ◌≡◌ {A = Option Packet} None (holding t bs) = sym gone ∙ ap s.packets (same_class_lem d c own) ∙ held in
      let z : ◌≡◌ {A = ℕ} 0 1 = cc in
      absurd (omega arith)
  passed_over d false apart is runs_d gone = brings_nothing d is runs_d apart

  more_contents : (d : Class) (k : Packet) (u : Bool) → same_class d c ≡ u → Is part.Other p → s.running ≡ running.Extended d → s.packets d ≡ Some k → cond u (Some (with_contents k p)) (s.packets c) ≡ holding t (bs ++ brings c s p)
  more_contents d k true own is runs_d there =
      let k_is = own_packet d k own there in
      let bytes : brings c s p ≡ content_bytes (first p) (second p) = brings_its_bytes d is runs_d ∙ rw own refl in
      ap (λ (j : Packet). Some (with_contents j p)) k_is ∙ ap (λ (xs : List ℕ). holding t (bs ++ xs)) (sym bytes)
  more_contents d k false apart is runs_d there =
      same_contents (s.packets c) (brings_nothing d is runs_d apart) held

  not_too_long : (d : Class) (k : Packet) (u : Bool) → same_class d c ≡ u → Is part.Other p → s.running ≡ running.Extended d → s.packets d ≡ Some k → fits k p ≡ false → u ≡ false
  not_too_long d k true own is runs_d there full =
      let k_is = own_packet d k own there in
      let bytes : brings c s p ≡ content_bytes (first p) (second p) = brings_its_bytes d is runs_d ∙ rw own refl in
      let small : length (with_contents k p).contents ≤ most_contents =
      subst (λ (j : Packet). length (with_contents j p).contents ≤ most_contents) (sym k_is)
      (subst (λ (xs : List ℕ). length (bs ++ xs) ≤ most_contents) bytes few)
      in
      absurd (true≢false (sym (le-leb (length (with_contents k p).contents) most_contents small) ∙ full))
  not_too_long d k false apart is runs_d there full = refl

  -- it is as it was, and so is its report
  as_it_was : (r : Read) → brings c s p ≡ [] → r.1.packets c ≡ holding t bs → reports c r.0 ≡ 0 → Still c t (bs ++ brings c s p) r
  as_it_was r nil there silent = (same_contents (r.1.packets c) nil there, silent)

  by_way : (r : Read) → Way s p r → Still c t (bs ++ brings c s p) r
  by_way r (corrupted even) = as_it_was r (rw even refl) held refl
  by_way r (acts is) = as_it_was r (rw (is.odd, is.part) refl) held (no_report c (heard_by s p).0)
  by_way r (is_text_lem is runs_on) = as_it_was r (rw (is.odd, is.part, runs_on) refl) held (no_report c (heard_by s p).0)
  by_way r (starts d is) = as_it_was r (rw (is.odd, is.part) refl) (elsewhere d (holding (second p) []) (apart_start d is)) refl
  by_way r (continues d is there) = as_it_was r (rw (is.odd, is.part) refl) held refl
  by_way r (no_such_packet d is there) = as_it_was r (rw (is.odd, is.part) refl) held refl
  by_way r (ends_in_captions is runs_on) = as_it_was r (rw (is.odd, is.part) refl) held refl
  by_way r (ends_without_packet d is runs_d there) = as_it_was r (rw (is.odd, is.part) refl) held refl
  by_way r (finishes d k is runs_d there right) =
      let apart = apart_end d is runs_d in
      as_it_was r (rw (is.odd, is.part) refl) (elsewhere d None apart) (other_report c d k apart)
  by_way r (has_wrong_sum d k is runs_d there wrong) =
      as_it_was r (rw (is.odd, is.part) refl) (elsewhere d None (apart_end d is runs_d)) refl
  by_way r (is_passed_over d is runs_d there) = as_it_was r (passed_over d (same_class d c) refl is runs_d there) held refl
  by_way r (fills d k is runs_d there room) = (more_contents d k (same_class d c) refl is runs_d there, refl)
  by_way r (is_too_long d k is runs_d there full) =
      let apart = not_too_long d k (same_class d c) refl is runs_d there full in
      as_it_was r (brings_nothing d is runs_d apart) (elsewhere d None apart) refl

  still_held : Still c t (bs ++ brings c s p) (read s p)
  still_held = by_way (read s p) (way_of s p)

-- A packet keeps what it has, with what each pair brings to it after that, and is not reported, through any pairs that are neither
-- its start nor its end.
abbrev pub Kept : Class → ℕ → List ℕ → Reader → List Pair → Type 0
Kept c t bs s ps = ((after s ps).packets c ≡ holding t bs) × (times_reported c (answers s ps) ≡ 0)

pub kept_between : (c : Class) (t : ℕ) (s : Reader) (ps : List Pair) (bs : List ℕ) → s.packets c ≡ holding t bs → goes_on c s ps ≡ true → length (bs ++ brought c s ps) ≤ most_contents → Kept c t (bs ++ brought c s ps) s ps
kept_between c t s [] bs held on few = (held ∙ ap (holding t) (sym (append-nil bs)), refl)
kept_between c t s (p ∷ ps) bs held on few =
    let next = (read s p).1 in
    let outer = both_true (not (is_own_start c p)) (not (is_own_end c s p) && goes_on c next ps) on in
    let inner = both_true (not (is_own_end c s p)) (goes_on c next ps) outer.1 in
    let joined : bs ++ (brings c s p ++ brought c next ps) ≡ (bs ++ brings c s p) ++ brought c next ps = sym (append_assoc bs (brings c s p) (brought c next ps)) in
    let all : length ((bs ++ brings c s p) ++ brought c next ps) ≤ most_contents = subst (λ (xs : List ℕ). length xs ≤ most_contents) joined few in
    let here_few : length (bs ++ brings c s p) ≤ most_contents = omega (arith, all, length-append (bs ++ brings c s p) (brought c next ps)) in
    let here = still_held c t s p bs held (not-true (is_own_start c p) outer.0) (not-true (is_own_end c s p) inner.0) here_few in
    let rest = kept_between c t next ps (bs ++ brings c s p) here.0 inner.1 all in
    (rest.0 ∙ ap (holding t) (sym joined), omega (arith, here.1, rest.1))

-- what runs, where a class does
class_runs : (c : Class) (r : Running) → runs c r ≡ true → r ≡ running.Extended c
class_runs c running.Captions e = absurd (true≢false (sym e))
class_runs c (running.Extended d) e = ap running.Extended (same_class_lem d c e)

-- the end of a packet that is open
at_its_end : (c : Class) (t : ℕ) (bs : List ℕ) (s : Reader) (q : Pair) → s.packets c ≡ holding t bs → s.running ≡ running.Extended c → Is part.End q → is_right_sum c t bs (second q) ≡ true → read s q ≡ (answer (packet c t bs), with_packet (with_captions s (heard_by s q).1) c None)
at_its_end c t bs s q held runs_c is right =
    read_by_part s q part.End is
    ∙ ap (λ (r : Running). ended s (heard_by s q).1 r (second q)) runs_c
    ∙ ap (λ (x : Option Packet). finished s (heard_by s q).1 c x (second q)) held
    ∙ rw right refl

-- a start leaves its packet, with no contents
started_empty : (c : Class) (s : Reader) (p : Pair) → Is (part.Start c) p → Still c (second p) [] (read s p)
started_empty c s p is =
    let begun = read_by_part s p (part.Start c) is in
    (ap (λ (r : Read). r.1.packets c) begun ∙ rw (its_own_class c) refl, ap (λ (r : Read). reports c r.0) begun)

pub sent_whole : (c : Class) (s : Reader) (p : Pair) (ps : List Pair) (q : Pair) → SentWhole c s p ps q → ReportedOnce c s p ps q (brought c (read s p).1 ps)
sent_whole c s p ps q sent =
    let begun = started_empty c s p sent.start in
    let kept = kept_between c (second p) (read s p).1 ps [] begun.0 sent.between sent.fits in
    let last = after (read s p).1 ps in
    let end = at_its_end c (second p) (brought c (read s p).1 ps) last q kept.0 (class_runs c last.running sent.open_again) sent.end sent.sum in
    record {
      not_before = omega (arith, begun.1, kept.1);
      at_the_end = ap (λ (r : Read). r.0) end;
      not_after = λ (more : List Pair). not_before_a_start c (read last q).1 more (ap (λ (r : Read). r.1.packets c) end ∙ rw (its_own_class c) refl);
    }
