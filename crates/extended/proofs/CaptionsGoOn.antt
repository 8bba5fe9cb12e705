-- No caption is lost that runs. The captions' receiver takes every pair that is not refused, and no other. Where captions run, a
-- refused pair changes nothing, so that a refused continuation or end does not stop them.
-- Assumes nothing.
use Prim.Native.Nat.{ℕ}
use borrow.Author.Tests.{not-true}
use mathlib.Core.Bool.{Bool, cond, false, not, true, true≢false}
use mathlib.Core.List.{List, [], ◌∷◌, map}
use mathlib.Core.Path.{◌≡◌, refl, ap, ap₂, sym, subst, ◌∙◌}
use Rattle.code.proofs.Both.{both_true}
use Rattle.code.specs.Outcome.{Outcome, answer, refused}
use Rattle.code.specs.Read.{is_command_pair, is_odd_pair}
use Rattle.code.specs.declared.pair.Pair.{Pair}
use Rattle.extended.proofs.CaptionsAlone.{AsTheReceiver, command_as_the_receiver, read_as_the_receiver}
use Rattle.extended.proofs.Refusals.{what_a_refusal_leaves}
use Rattle.extended.proofs.Ways as way
use Rattle.extended.proofs.Ways.{Way, heard_not_refused, heard_by, way_of}
use Rattle.extended.specs.Extended.{Read, Reader, Report, read, reported, with_captions}
use Rattle.extended.specs.Reading.{after, answers, captions_run, is_packet_code, is_refused, no_packet_code, not_refused, unless_refused}
use Rattle.extended.specs.Refusals.{Leaves, end_in_captions, end_of_no_packet, invalid_parity, no_such_packet, too_long, of_wrong_sum}
use Rattle.extended.specs.declared.class.Class.{Class}
use Rattle.extended.specs.declared.state.Running.TheVariants as running
use Rattle.receiver.specs.Reading as reading
use Rattle.receiver.specs.declared.state.Cea608State.{Cea608State}

-- the captions' receiver after a pair: as the pair leaves it, or as it was where the pair is refused
abbrev Takes : Reader → Pair → Read → Type 0
Takes s p r = r.1.captions ≡ cond (is_refused r.0) s.captions (heard_by s p).1

heard_is_taken : (s : Reader) (p : Pair) (t : Bool) → t ≡ false → (heard_by s p).1 ≡ cond t s.captions (heard_by s p).1
heard_is_taken s p false e = refl
heard_is_taken s p true e = absurd (true≢false e)

takes_by_way : (s : Reader) (p : Pair) (r : Read) → Way s p r → Takes s p r
takes_by_way s p _ (way.corrupted even) = refl
takes_by_way s p _ (way.acts is) = heard_is_taken s p _ (heard_not_refused s p is.odd)
takes_by_way s p _ (way.is_text_lem is runs) = heard_is_taken s p _ (heard_not_refused s p is.odd)
takes_by_way s p _ (way.starts c is) = refl
takes_by_way s p _ (way.continues c is there) = refl
takes_by_way s p _ (way.no_such_packet c is there) = refl
takes_by_way s p _ (way.ends_in_captions is runs) = refl
takes_by_way s p _ (way.ends_without_packet c is runs there) = refl
takes_by_way s p _ (way.finishes c k is runs there right) = refl
takes_by_way s p _ (way.has_wrong_sum c k is runs there wrong) = refl
takes_by_way s p _ (way.is_passed_over c is runs there) = refl
takes_by_way s p _ (way.fills c k is runs there room) = refl
takes_by_way s p _ (way.is_too_long c k is runs there full) = refl

after_taken : (s : Reader) (p : Pair) (o : Outcome Report) (rest : List Pair) → reading.after (cond (is_refused o) s.captions (heard_by s p).1) rest ≡ reading.after s.captions (cond (is_refused o) rest (p ∷ rest))
after_taken s p (answer r) rest = refl
after_taken s p (refused n) rest = refl

-- last pair, channel and field after a stream are those of the pairs that were not refused
pub the_receiver_takes : (s : Reader) (ps : List Pair) → (after s ps).captions ≡ reading.after s.captions (not_refused s ps)
the_receiver_takes s [] = refl
the_receiver_takes s (p ∷ ps) =
    the_receiver_takes (read s p).1 ps
    ∙ ap (λ (r : Cea608State). reading.after r (not_refused (read s p).1 ps)) (takes_by_way s p (read s p) (way_of s p))
    ∙ after_taken s p (read s p).0 (not_refused (read s p).1 ps)

captions_apart : (c : Class) → running.Captions ≡ running.Extended c → ⊥
captions_apart c e = true≢false (ap captions_run e)

-- where captions run, a refusal leaves everything as it was
same_reader : (s next : Reader) (p : Pair) (n : ℕ) → s.running ≡ running.Captions → Leaves s p n next → next ≡ s
same_reader s _ p _ runs (invalid_parity even) = refl
same_reader s _ p _ runs (no_such_packet c is other) = refl
same_reader s _ p _ runs (end_in_captions is on) = refl
same_reader s _ p _ runs (end_of_no_packet c is other gone) = refl
same_reader s _ p _ runs (too_long c k is other there more) = absurd (captions_apart c (sym runs ∙ other))
same_reader s _ p _ runs (of_wrong_sum c k is other there wrong) = absurd (captions_apart c (sym runs ∙ other))

-- the pairs that are not refused, where the first gave o and left x
abbrev taken_from : Outcome Report → Reader → Pair → List Pair → List Pair
taken_from o x p ps = cond (is_refused o) (not_refused x ps) (p ∷ not_refused x ps)

-- the answers to these pairs, and the reader after all, are the receiver's
abbrev pub Reads : Reader → List (Outcome Report) → Reader → List Pair → Type 0
Reads s os last ps = (unless_refused os ≡ map reported (reading.answers s.captions ps)) × (last ≡ with_captions s (reading.after s.captions ps))

abbrev ReadsOn : Reader → Outcome Report → Reader → Pair → List Pair → Type 0
ReadsOn s o x p ps = Reads s (o ∷ answers x ps) (after x ps) (taken_from o x p ps)

abbrev pub AsTaken : Reader → List Pair → Type 0
AsTaken s ps = Reads s (answers s ps) (after s ps) (not_refused s ps)

abbrev Later : List Pair → Type 0
Later ps = (x : Reader) → x.running ≡ running.Captions → no_packet_code (not_refused x ps) ≡ true → AsTaken x ps

by_answer : (s : Reader) (p : Pair) (ps : List Pair) → s.running ≡ running.Captions → Later ps → (o : Outcome Report) → (read s p).0 ≡ o → no_packet_code (taken_from o (read s p).1 p ps) ≡ true → ReadsOn s o (read s p).1 p ps
by_answer s p ps runs later (refused n) e plain =
    let same : (read s p).1 ≡ s = same_reader s (read s p).1 p n runs (what_a_refusal_leaves s p n e) in
    subst (λ (x : Reader). ReadsOn s (refused n) x p ps) (sym same)
    (later s runs (subst (λ (x : Reader). no_packet_code (not_refused x ps) ≡ true) same plain))
by_answer s p ps runs later (answer r) e plain =
    let both = both_true (not (is_packet_code p)) (no_packet_code (not_refused (read s p).1 ps)) plain in
    let here : AsTheReceiver s p = read_as_the_receiver s p runs (not-true (is_packet_code p) both.0) in
    let next = with_captions s (heard_by s p).1 in
    let same : (read s p).1 ≡ next = ap (λ (x : Read). x.1) here in
    let rest = later next runs (subst (λ (x : Reader). no_packet_code (not_refused x ps) ≡ true) same both.1) in
    subst (λ (x : Reader). ReadsOn s (answer r) x p ps) (sym same)
    (ap₂ (λ (o : Outcome Report) (os : List (Outcome Report)). o ∷ os) (sym e ∙ ap (λ (x : Read). x.0) here) rest.0, rest.1)

-- The pairs that are not refused, where none of them is a start, a continuation or an end, are read as the receiver reads them
-- alone.
pub captions_go_on_lem : (s : Reader) (ps : List Pair) → s.running ≡ running.Captions → no_packet_code (not_refused s ps) ≡ true → AsTaken s ps
captions_go_on_lem s [] runs plain = (refl, refl)
captions_go_on_lem s (p ∷ ps) runs plain =
    by_answer s p ps runs (λ (x : Reader) (on : x.running ≡ running.Captions) (rest : no_packet_code (not_refused x ps) ≡ true). captions_go_on_lem x ps on rest) (read s p).0 refl plain

-- After a command captions run, from any state: its answer is the receiver's, and so are those to the pairs after it that are not
-- refused, up to the next start or continuation.
pub captions_after_a_command : (s : Reader) (p : Pair) (ps : List Pair) → is_odd_pair p ≡ true → is_command_pair p ≡ true → no_packet_code (not_refused (read s p).1 ps) ≡ true → ((read s p).0 ≡ reported (heard_by s p).0) × AsTaken (read s p).1 ps
captions_after_a_command s p ps odd command plain =
    let here = command_as_the_receiver s p odd command in
    (ap (λ (r : Read). r.0) here, captions_go_on_lem (read s p).1 ps (ap (λ (r : Read). r.1.running) here) plain)
