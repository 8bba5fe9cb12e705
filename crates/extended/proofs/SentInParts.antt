-- A packet that is sent in any number of parts, with interruptions between them, is reported once, with the contents of all parts:
-- whatever captions, padding and other classes' packets the interruptions have.
-- Assumes nothing.
use Prim.Native.Nat.{ℕ, ◌≤◌}
use borrow.Author.Tests.{eq-eqb, not-true}
use lib.ListN.{length, length-append}
use mathlib.Core.Bool.{Bool, ◌&&◌, cond, false, not, true, true≢false}
use mathlib.Core.List.{List, [], ◌++◌, ◌∷◌, append_assoc, append-nil}
use mathlib.Core.Path.{◌≡◌, refl, ap, ap₂, sym, subst, ◌∙◌}
use native.Mathlib.Omega.{arith}
use Rattle.code.proofs.Both.{both_fail, both_true}
use Rattle.code.specs.Outcome.{answer}
use Rattle.code.specs.Read.{is_odd_pair}
use Rattle.code.specs.declared.pair.Pair.{Pair}
use Rattle.extended.proofs.Classes.{its_own_class}
use Rattle.extended.proofs.SentWhole.{holding, kept_between, sent_whole}
use Rattle.extended.proofs.Ways.{even_read, heard_by, read_by_part}
use Rattle.extended.proofs.WhatRuns.{what_runs}
use Rattle.extended.specs.Extended.{Read, Reader, is_type, nothing, opened, read, same_class}
use Rattle.extended.specs.Packet.{content_bytes, is_right_sum, most_contents}
use Rattle.extended.specs.Part.{part_of}
use Rattle.extended.specs.Reading.{Is, after, first, is_refused, second}
use Rattle.extended.specs.SentInParts.{InParts, SentInParts, all_contents, all_foreign, bytes_in, bytes_in_all, interrupts, is_contents, is_foreign, is_interruption, is_own, last_part, part_then}
use Rattle.extended.specs.SentWhole.{ReportedOnce, brings, brought, goes_on, is_end, is_other, is_own_end, is_own_start, is_start_of, runs}
use Rattle.extended.specs.WhatRuns.{runs_after}
use Rattle.extended.specs.declared.class.Class.{Class}
use Rattle.extended.specs.declared.part.Part.TheVariants as part
use Rattle.extended.specs.declared.part.Part.{Part}
use Rattle.extended.specs.declared.state.Running.TheVariants as running
use Rattle.extended.specs.declared.state.Running.{Running}

-- two lists of pairs, one after the other
after_both : (s : Reader) (xs ys : List Pair) → after s (xs ++ ys) ≡ after (after s xs) ys
after_both s [] ys = refl
after_both s (x ∷ xs) ys = after_both (read s x).1 xs ys

-- neither start nor end of the class, and these bytes brought
record Passes (c : Class) (s : Reader) (ps : List Pair) (bs : List ℕ) : Type 0 where
  on : goes_on c s ps ≡ true
  bytes : brought c s ps ≡ bs

passes_none : (c : Class) (s : Reader) → Passes c s [] []
passes_none c s = record { on = refl; bytes = refl }

-- one pair
record One (c : Class) (s : Reader) (p : Pair) (bs : List ℕ) : Type 0 where
  no_start : is_own_start c p ≡ false
  no_end : is_own_end c s p ≡ false
  bytes : brings c s p ≡ bs

passes_more : (c : Class) (s : Reader) (p : Pair) (ps : List Pair) (xs bs : List ℕ) → One c s p xs → Passes c (read s p).1 ps bs → Passes c s (p ∷ ps) (xs ++ bs)
passes_more c s p ps xs bs one rest = record {
  on = ap₂ (λ (t u : Bool). not t && (not u && goes_on c (read s p).1 ps)) one.no_start one.no_end ∙ rest.on;
  bytes = ap₂ (λ (x y : List ℕ). x ++ y) one.bytes rest.bytes;
}

passes_both : (c : Class) (s : Reader) (xs ys : List Pair) (us bs : List ℕ) → Passes c s xs us → Passes c (after s xs) ys bs → Passes c s (xs ++ ys) (us ++ bs)
passes_both c s [] ys us bs left right = record {
  on = right.on;
  bytes = right.bytes ∙ ap (λ (zs : List ℕ). zs ++ bs) left.bytes;
}
passes_both c s (x ∷ xs) ys us bs left right =
    let next = (read s x).1 in
    let outer = both_true (not (is_own_start c x)) (not (is_own_end c s x) && goes_on c next xs) left.on in
    let inner = both_true (not (is_own_end c s x)) (goes_on c next xs) outer.1 in
    let rest = passes_both c next xs ys (brought c next xs) bs (record { on = inner.1; bytes = refl }) right in
    record {
      on = ap₂ (λ (t u : Bool). t && (u && goes_on c next (xs ++ ys))) outer.0 inner.0 ∙ rest.on;
      bytes =
          ap (λ (zs : List ℕ). brings c s x ++ zs) rest.bytes
          ∙ sym (append_assoc (brings c s x) (brought c next xs) bs)
          ∙ ap (λ (zs : List ℕ). zs ++ bs) left.bytes;
    }

-- contents while the class runs
is_other_lem : (x : Part) → is_other x ≡ true → x ≡ part.Other
is_other_lem part.Command e = absurd (true≢false (sym e))
is_other_lem (part.Start c) e = absurd (true≢false (sym e))
is_other_lem (part.Continuation c) e = absurd (true≢false (sym e))
is_other_lem part.End e = absurd (true≢false (sym e))
is_other_lem part.Other e = refl

as_it_ran : (t : Bool) (x : Part) (r : Running) → x ≡ part.Other → cond t r (runs_after x r) ≡ r
as_it_ran true x r other = refl
as_it_ran false x r other = ap (λ (y : Part). runs_after y r) other

abbrev StaysOpen : Class → Reader → Pair → Type 0
StaysOpen c s p = One c s p (bytes_in p) × ((read s p).1.running ≡ running.Extended c)

contents_pair : (c : Class) (s : Reader) (p : Pair) (t : Bool) → is_odd_pair p ≡ t → is_contents p ≡ true → s.running ≡ running.Extended c → StaysOpen c s p
contents_pair c s p true odd contents open_now =
    let other : part_of (first p) ≡ part.Other = is_other_lem (part_of (first p)) (sym (rw odd refl) ∙ contents) in (
      record { no_start = rw (odd, other) refl; no_end = rw (odd, other) refl; bytes = rw (odd, other, open_now, its_own_class c) refl },
      what_runs s p ∙ as_it_ran (is_refused (read s p).0) (part_of (first p)) s.running other ∙ open_now,
    )
contents_pair c s p false even contents open_now = (
  record { no_start = rw even refl; no_end = rw even refl; bytes = rw even refl },
  ap (λ (r : Read). r.1.running) (even_read s p even) ∙ open_now,
)

contents_pass : (c : Class) (s : Reader) (ps : List Pair) → all_contents ps ≡ true → s.running ≡ running.Extended c → Passes c s ps (bytes_in_all ps) × ((after s ps).running ≡ running.Extended c)
contents_pass c s [] all open_now = (passes_none c s, open_now)
contents_pass c s (p ∷ ps) all open_now =
    let both = both_true (is_contents p) (all_contents ps) all in
    let here = contents_pair c s p (is_odd_pair p) refl both.0 open_now in
    let rest = contents_pass c (read s p).1 ps both.1 here.1 in
    (passes_more c s p ps (bytes_in p) (bytes_in_all ps) here.0 rest.0, rest.1)

-- foreign pairs while the class does not run: it stays so
abbrev StaysShut : Class → Reader → Pair → Type 0
StaysShut c s p = One c s p [] × (runs c (read s p).1.running ≡ false)

none_of : (t u : Bool) → t && (u && false) ≡ false
none_of t u = ap (λ (v : Bool). t && v) (both_fail u) ∙ both_fail t

either_shut : (c : Class) (t : Bool) (r x : Running) → runs c r ≡ false → runs c x ≡ false → runs c (cond t r x) ≡ false
either_shut c true r x shut other = shut
either_shut c false r x shut other = other

foreign_start : (c : Class) (x : Part) → is_own c x ≡ false → is_start_of c x ≡ false
foreign_start c part.Command e = refl
foreign_start c (part.Start d) e = e
foreign_start c (part.Continuation d) e = refl
foreign_start c part.End e = refl
foreign_start c part.Other e = refl

foreign_shut : (c : Class) (x : Part) (r : Running) → is_own c x ≡ false → runs c r ≡ false → runs c (runs_after x r) ≡ false
foreign_shut c part.Command r e shut = refl
foreign_shut c (part.Start d) r e shut = e
foreign_shut c (part.Continuation d) r e shut = e
foreign_shut c part.End r e shut = shut
foreign_shut c part.Other r e shut = shut

foreign_pair : (c : Class) (s : Reader) (p : Pair) (t : Bool) → is_odd_pair p ≡ t → is_foreign c p ≡ true → runs c s.running ≡ false → StaysShut c s p
foreign_pair c s p true odd foreign shut =
    let x = part_of (first p) in
    let not_own : is_own c x ≡ false = not-true (is_own c x) (sym (rw odd refl) ∙ foreign) in (
      record {
        no_start = ap₂ (λ (t u : Bool). t && u) odd (foreign_start c x not_own);
        no_end = ap (λ (u : Bool). is_odd_pair p && (is_end x && u)) shut ∙ none_of (is_odd_pair p) (is_end x);
        bytes =
            ap (λ (u : Bool). cond (is_odd_pair p && (is_other x && u)) (content_bytes (first p) (second p)) []) shut
            ∙ ap (λ (u : Bool). cond u (content_bytes (first p) (second p)) []) (none_of (is_odd_pair p) (is_other x));
      },
      ap (runs c) (what_runs s p) ∙ either_shut c (is_refused (read s p).0) s.running (runs_after x s.running) shut (foreign_shut c x s.running not_own shut),
    )
foreign_pair c s p false even foreign shut = (
  record { no_start = rw even refl; no_end = rw even refl; bytes = rw even refl },
  ap (λ (r : Read). runs c r.1.running) (even_read s p even) ∙ shut,
)

foreign_pass : (c : Class) (s : Reader) (ps : List Pair) → all_foreign c ps ≡ true → runs c s.running ≡ false → Passes c s ps []
foreign_pass c s [] all shut = passes_none c s
foreign_pass c s (p ∷ ps) all shut =
    let both = both_true (is_foreign c p) (all_foreign c ps) all in
    let here = foreign_pair c s p (is_odd_pair p) refl both.0 shut in
    passes_more c s p ps [] [] here.0 (foreign_pass c (read s p).1 ps both.1 here.1)

-- an interruption: the class runs no more
record Interrupting (c : Class) (x : Part) : Type 0 where
  no_start : is_start_of c x ≡ false
  no_end : is_end x ≡ false
  has_no_contents : is_other x ≡ false
  shut : (r : Running) → runs c (runs_after x r) ≡ false

interrupting : (c : Class) (x : Part) → is_interruption c x ≡ true → Interrupting c x
interrupting c part.Command e = record { no_start = refl; no_end = refl; has_no_contents = refl; shut = λ (r : Running). refl }
interrupting c (part.Start d) e = record { no_start = not-true (same_class d c) e; no_end = refl; has_no_contents = refl; shut = λ (r : Running). not-true (same_class d c) e }
interrupting c (part.Continuation d) e = record { no_start = refl; no_end = refl; has_no_contents = refl; shut = λ (r : Running). not-true (same_class d c) e }
interrupting c part.End e = absurd (true≢false (sym e))
interrupting c part.Other e = absurd (true≢false (sym e))

interruption : (c : Class) (s : Reader) (q : Pair) → interrupts c s q ≡ true → StaysShut c s q
interruption c s q it =
    let x = part_of (first q) in
    let both = both_true (not (is_refused (read s q).0)) (is_interruption c x) it in
    let what = interrupting c x both.1 in (
      record {
        no_start = ap (λ (u : Bool). is_odd_pair q && u) what.no_start ∙ both_fail (is_odd_pair q);
        no_end = ap (λ (u : Bool). is_odd_pair q && (u && runs c s.running)) what.no_end ∙ both_fail (is_odd_pair q);
        bytes =
            ap (λ (u : Bool). cond (is_odd_pair q && (u && runs c s.running)) (content_bytes (first q) (second q)) []) what.has_no_contents
            ∙ ap (λ (u : Bool). cond u (content_bytes (first q) (second q)) []) (both_fail (is_odd_pair q));
      },
      ap (runs c) (what_runs s q)
          ∙ ap (λ (u : Bool). runs c (cond u s.running (runs_after x s.running))) (not-true (is_refused (read s q).0) both.0)
          ∙ what.shut s.running,
    )

interlude : (c : Class) (s : Reader) (q : Pair) (qs : List Pair) → interrupts c s q ≡ true → all_foreign c qs ≡ true → Passes c s (q ∷ qs) []
interlude c s q qs it foreign =
    let here = interruption c s q it in
    passes_more c s q qs [] [] here.0 (foreign_pass c (read s q).1 qs foreign here.1)

-- its own continuation, with its type: the class runs again, with what it had
goes_on_lem : (c : Class) (t : ℕ) (had : List ℕ) (s : Reader) (p : Pair) → s.packets c ≡ holding t had → Is (part.Continuation c) p → second p ≡ t → read s p ≡ (answer nothing, opened s (heard_by s p).1 c)
goes_on_lem c t had s p held is same =
    let there : is_type (second p) (s.packets c) ≡ true = ap (is_type (second p)) held ∙ eq-eqb t (second p) (sym same) in
    read_by_part s p (part.Continuation c) is ∙ rw there refl

own_continuation : (c : Class) (s : Reader) (p : Pair) → Is (part.Continuation c) p → One c s p []
own_continuation c s p is =
    record { no_start = rw (is.odd, is.part) refl; no_end = rw (is.odd, is.part) refl; bytes = rw (is.odd, is.part) refl }

-- all parts: the class runs at the end
abbrev PassesOpen : Class → Reader → List Pair → List ℕ → Type 0
PassesOpen c s ps bs = Passes c s ps bs × ((after s ps).running ≡ running.Extended c)

module _ (c : Class) (t : ℕ) where
  all_parts : {s : Reader} {ps : List Pair} {bs : List ℕ} → InParts c t s ps bs → (had : List ℕ) → s.packets c ≡ holding t had → s.running ≡ running.Extended c → length (had ++ bs) ≤ most_contents → PassesOpen c s ps bs
  all_parts {s} (last_part ps contents) had held open_now few = contents_pass c s ps contents open_now
  all_parts {s} (part_then {rest} {bs} ps q qs p contents it foreign is same more) had held open_now few =
      let here = bytes_in_all ps in
      let upto = ps ++ (q ∷ qs) in
      let first_part = contents_pass c s ps contents open_now in
      let passed : Passes c s upto here =
      subst (Passes c s upto) (append-nil here) (passes_both c s ps (q ∷ qs) here [] first_part.0 (interlude c (after s ps) q qs it foreign))
      in
      let joined : (had ++ here) ++ bs ≡ had ++ (here ++ bs) = append_assoc had here bs in
      let all : length ((had ++ here) ++ bs) ≤ most_contents = subst (λ (xs : List ℕ). length xs ≤ most_contents) (sym joined) few in
      let little : length (had ++ here) ≤ most_contents = omega (arith, all, length-append (had ++ here) bs) in
      let before = after s upto in
      let held_there : before.packets c ≡ holding t (had ++ here) =
      (kept_between c t s upto had held passed.on (subst (λ (xs : List ℕ). length (had ++ xs) ≤ most_contents) (sym passed.bytes) little)).0
      ∙ ap (λ (xs : List ℕ). holding t (had ++ xs)) passed.bytes
      in
      let again = goes_on_lem c t (had ++ here) before p held_there is same in
      let rest_of = all_parts more (had ++ here) (ap (λ (r : Read). r.1.packets c) again ∙ held_there) (ap (λ (r : Read). r.1.running) again) all in (
        passes_both c s upto (p ∷ rest) here bs passed (passes_more c before p rest [] bs (own_continuation c before p is) rest_of.0),
        ap (λ (x : Reader). x.running) (after_both s upto (p ∷ rest)) ∙ rest_of.1,
      )

pub sent_in_parts : (c : Class) (s : Reader) (p : Pair) (ps : List Pair) (q : Pair) (bs : List ℕ) → SentInParts c s p ps q bs → ReportedOnce c s p ps q bs
sent_in_parts c s p ps q bs sent =
    let begun = read_by_part s p (part.Start c) sent.start in
    let held : (read s p).1.packets c ≡ holding (second p) [] = ap (λ (r : Read). r.1.packets c) begun ∙ rw (its_own_class c) refl in
    let all = all_parts c (second p) sent.parts [] held (ap (λ (r : Read). r.1.running) begun) sent.fits in
    let bytes = all.0.bytes in
    subst (ReportedOnce c s p ps q) bytes
    (sent_whole c s p ps q
    (record {
      start = sent.start;
      between = all.0.on;
      fits = subst (λ (xs : List ℕ). length xs ≤ most_contents) (sym bytes) sent.fits;
      open_again = ap (runs c) all.1 ∙ its_own_class c;
      end = sent.end;
      sum = subst (λ (xs : List ℕ). is_right_sum c (second p) xs (second q) ≡ true) (sym bytes) sent.sum;
    }))
