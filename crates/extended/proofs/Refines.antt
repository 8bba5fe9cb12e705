-- A state reads as the reader that it keeps: each answer is the definition's, and the record afterwards keeps the definition's next.
-- So whatever is proved of readers holds of the code; and two states that keep the same reader answer alike, whatever stands
-- behind their contents.
-- Assumes nothing.
use Prim.Native.Nat.{ℕ, ◌+◌, ◌≤◌}
use borrow.Author.Tests.{leb-true}
use lib.Dec.{leb}
use lib.ListN.{length, length-append, length-set, set}
use mathlib.Core.Bool.{Bool, cond, false, true}
use mathlib.Core.List.{List, [], ◌++◌, ◌∷◌}
use Rattle.std.specs.Prelude.{Option, None, Some}
use mathlib.Core.Path.{◌≡◌, refl, ap, ap₂, fun_ext, sym, subst, ◌∙◌}
use native.Mathlib.Omega.{arith}
use Rattle.code.specs.Outcome.{Outcome, answer, refused}
use Rattle.code.specs.Read.{is_odd_pair}
use Rattle.code.specs.declared.pair.Pair.{Pair}
use Rattle.event.specs.declared.event.Cea608.{Cea608}
use Rattle.extended.proofs.Decoding.{even_pair, odd_pair}
use Rattle.extended.proofs.Memory.{Kept, cut_again, cut_is_kept, cut_short, more_kept, packet_set}
use Rattle.extended.proofs.Ways.{even_read, heard_by, read_by_part}
use Rattle.extended.specs.Extended.{Packets, Read, Reader, Report, by_part, continued, ended, filled, finished, fresh, is_type, nothing, other, packet, read, replaced, reported, same_class, with_captions, with_packet, with_running}
use Rattle.extended.specs.Packet.{Packet, content_bytes, is_right_sum, most_contents}
use Rattle.extended.specs.Part.{part_of}
use Rattle.extended.specs.Reading.{after, answers, first, second}
use Rattle.extended.specs.State.{Step, absent_packet, added, added_all, begun, by_part_state, contents_of, continued_state, cut_packet, dropped_state, ended_state, filled_state, finished_state, fresh_state, given_by, has_room, is_known, is_of, other_state, packet_at, packet_for, packet_in, place, read_by, reader_of, report_of, set_captions, set_packet, step}
use Rattle.extended.specs.Whole.{Whole, state_after, state_answers}
use Rattle.extended.specs.declared.class.Class.TheVariants as class
use Rattle.extended.specs.declared.class.Class.{Class}
use Rattle.extended.specs.declared.packet.Contents.{Contents}
use Rattle.extended.specs.declared.packet.Unfinished.{Unfinished}
use Rattle.extended.specs.declared.part.Part.TheVariants as part
use Rattle.extended.specs.declared.part.Part.{Part}
use Rattle.extended.specs.declared.state.ExtendedState.{ExtendedState}
use Rattle.extended.specs.declared.state.Running.TheVariants as running
use Rattle.extended.specs.declared.state.Running.{Running}
use Rattle.receiver.specs.Receiver.{Stepped}
use Rattle.receiver.specs.declared.state.Cea608State.{Cea608State}

-- the packets that a state keeps
abbrev kept_packets : List Unfinished → Packets
kept_packets packets c = packet_in (packet_at packets c)

in_either : (t : Bool) (u v : Unfinished) → packet_in (cond t u v) ≡ cond t (packet_in u) (packet_in v)
in_either true u v = refl
in_either false u v = refl

-- a packet that is set is the map's
kept_set : (packets : List Unfinished) (c : Class) (u : Unfinished) (x : Option Packet) → length packets ≡ 7 → packet_in (cut_packet u) ≡ x → kept_packets (set packets (place c) u) ≡ replaced (kept_packets packets) c x
kept_set packets c u x seven is = fun_ext (λ (d : Class).
    ap packet_in (packet_set packets c d u seven)
    ∙ in_either (same_class c d) (cut_packet u) (packet_at packets d)
    ∙ ap (λ (y : Option Packet). cond (same_class c d) y (kept_packets packets d)) is)

set_keeps : (s : ExtendedState) (c : Class) (u : Unfinished) (x : Option Packet) → length s.packets ≡ 7 → packet_in (cut_packet u) ≡ x → reader_of (set_packet s c u) ≡ with_packet (reader_of s) c x
set_keeps s c u x seven is =
    ap (λ (m : Packets). record { captions = s.captions; running = s.running; packets = m }) (kept_set s.packets c u x seven is)

-- what the captions' receiver answers is reported
same_report : (o : Outcome (Option Cea608)) → report_of (given_by o) ≡ reported o
same_report (answer None) = refl
same_report (answer (Some e)) = refl
same_report (refused n) = refl

-- what is read of one of two, by a test
by_test : (t u : Bool) (x y : Step) → t ≡ u → read_by (cond t x y) ≡ cond u (read_by x) (read_by y)
by_test true u x y e = ap (λ (v : Bool). cond v (read_by x) (read_by y)) e
by_test false u x y e = ap (λ (v : Bool). cond v (read_by x) (read_by y)) e

same_type : (t : ℕ) (x : Option ℕ) (k : Contents) → is_known t x ≡ is_type t (packet_for x k)
same_type t None k = refl
same_type t (Some u) k = refl

continued_reads : (s : ExtendedState) (r : Cea608State) (c : Class) (t : ℕ) → read_by (continued_state s r c t) ≡ continued (reader_of s) r c t
continued_reads s r c t =
    by_test (is_of t (packet_at s.packets c)) (is_type t (kept_packets s.packets c)) _ _ (same_type t (packet_at s.packets c).packet_type (packet_at s.packets c).contents)

-- a packet that is gone
without : (s : ExtendedState) (r : Cea608State) (c : Class) → length s.packets ≡ 7 → reader_of (set_packet (set_captions s r) c absent_packet) ≡ with_packet (with_captions (reader_of s) r) c None
without s r c seven = set_keeps (set_captions s r) c absent_packet None seven refl

finished_reads : (s : ExtendedState) (r : Cea608State) (c : Class) (x : Option ℕ) (k : Contents) (sum : ℕ) → length s.packets ≡ 7 → read_by (finished_state s r c x k sum) ≡ finished (reader_of s) r c (packet_for x k) sum
finished_reads s r c None k sum seven = refl
finished_reads s r c (Some t) k sum seven =
    let right = is_right_sum c t (contents_of k) sum in
    by_test right right _ _ refl
    ∙ ap₂ (λ (x y : Reader). cond {A = Read} right (answer (packet c t (contents_of k)), x) (refused 15, y)) (without s r c seven) (without s s.captions c seven)

ended_reads : (s : ExtendedState) (r : Cea608State) (x : Running) (sum : ℕ) → length s.packets ≡ 7 → read_by (ended_state s r x sum) ≡ ended (reader_of s) r x sum
ended_reads s r running.Captions sum seven = refl
ended_reads s r (running.Extended c) sum seven =
    finished_reads s r c (packet_at s.packets c).packet_type (packet_at s.packets c).contents sum seven

-- a packet with more contents
with_more : (s : ExtendedState) (r : Cea608State) (c : Class) (t : ℕ) (k : Contents) (bytes : List ℕ) → length s.packets ≡ 7 → Kept k (contents_of k) → length (contents_of k ++ bytes) ≤ most_contents → reader_of (set_packet (set_captions s r) c (record { packet_type = Some t; contents = added_all k bytes })) ≡ with_packet (with_captions (reader_of s) r) c (Some (record { packet_type = t; contents = contents_of k ++ bytes }))
with_more s r c t k bytes seven kept fits =
    set_keeps (set_captions s r) c (record { packet_type = Some t; contents = added_all k bytes }) (Some (record { packet_type = t; contents = contents_of k ++ bytes })) seven
    (ap (λ (xs : List ℕ). Some (record { packet_type = t; contents = xs })) (cut_again (added_all k bytes) ∙ (more_kept k (contents_of k) bytes kept fits).same))

abbrev filled_to : ExtendedState → Cea608State → Class → ℕ → Contents → List ℕ → Step
filled_to s r c t k bytes = (set_packet (set_captions s r) c (record { packet_type = Some t; contents = added_all k bytes }), answer None)

room_reads : (s : ExtendedState) (r : Cea608State) (c : Class) (t : ℕ) (k : Contents) (bytes : List ℕ) (room : Bool) → length s.packets ≡ 7 → Kept k (contents_of k) → leb (length (contents_of k ++ bytes)) most_contents ≡ room → read_by (cond room (filled_to s r c t k bytes) (dropped_state 14 s c)) ≡ cond room (answer nothing, with_packet (with_captions (reader_of s) r) c (Some (record { packet_type = t; contents = contents_of k ++ bytes }))) (refused 14, with_packet (reader_of s) c None)
room_reads s r c t k bytes true seven kept room =
    ap (λ (x : Reader). (answer nothing, x)) (with_more s r c t k bytes seven kept (leb-true (length (contents_of k ++ bytes)) most_contents room))
room_reads s r c t k bytes false seven kept room = ap (λ (x : Reader). (refused 14, x)) (without s s.captions c seven)

filled_reads : (s : ExtendedState) (r : Cea608State) (c : Class) (x : Option ℕ) (k : Contents) (a b : ℕ) → length s.packets ≡ 7 → Kept k (contents_of k) → read_by (filled_state s r c x k a b) ≡ filled (reader_of s) r c (packet_for x k) (content_bytes a b)
filled_reads s r c None k a b seven kept = refl
filled_reads s r c (Some t) k a b seven kept =
    let bytes = content_bytes a b in
    let count : k.length + length bytes ≡ length (contents_of k ++ bytes) = omega (arith, kept.counted, length-append (contents_of k) bytes) in
    ap (λ (n : ℕ). read_by (cond (leb n most_contents) (filled_to s r c t k bytes) (dropped_state 14 s c))) count
    ∙ room_reads s r c t k bytes (leb (length (contents_of k ++ bytes)) most_contents) seven kept refl

other_reads : (s : ExtendedState) (h : Stepped) (x : Running) (a b : ℕ) → Whole s → read_by (other_state s h x a b) ≡ other (reader_of s) h x a b
other_reads s h running.Captions a b whole = ap (λ (x : Outcome Report). (x, with_captions (reader_of s) h.1)) (same_report h.0)
other_reads s h (running.Extended c) a b whole =
    let u = packet_at s.packets c in
    filled_reads s h.1 c u.packet_type u.contents a b whole.seven (cut_is_kept u.contents (whole.memories c) (cut_short s.packets c))

part_reads : (s : ExtendedState) (h : Stepped) (x : Part) (a b : ℕ) → Whole s → read_by (by_part_state s h x a b) ≡ by_part (reader_of s) h x a b
part_reads s h part.Command a b whole =
    ap (λ (x : Outcome Report). (x, with_running (with_captions (reader_of s) h.1) running.Captions)) (same_report h.0)
part_reads s h (part.Start c) a b whole =
    ap (λ (x : Reader). (answer nothing, x)) (set_keeps _ c (begun b) (Some (record { packet_type = b; contents = [] })) whole.seven refl)
part_reads s h (part.Continuation c) a b whole = continued_reads s h.1 c b
part_reads s h part.End a b whole = ended_reads s h.1 s.running b whole.seven
part_reads s h part.Other a b whole = other_reads s h s.running a b whole

by_parity : (s : ExtendedState) (p : Pair) (t : Bool) → is_odd_pair p ≡ t → Whole s → read_by (step s p) ≡ read (reader_of s) p
by_parity s p true odd whole =
    ap read_by (odd_pair s p odd)
    ∙ part_reads s (heard_by (reader_of s) p) (part_of (first p)) (first p) (second p) whole
    ∙ sym (read_by_part (reader_of s) p (part_of (first p)) (record { odd = odd; part = refl }))
by_parity s p false even whole = ap read_by (even_pair s p even) ∙ sym (even_read (reader_of s) p even)

pub step_refines : (s : ExtendedState) (p : Pair) → Whole s → read_by (step s p) ≡ read (reader_of s) p
step_refines s p = by_parity s p (is_odd_pair p) refl

-- a state stays whole
added_memory : (k : Contents) (xs : List ℕ) → length (added_all k xs).bytes ≡ length k.bytes
added_memory k [] = refl
added_memory k (x ∷ xs) = added_memory (added k x) xs ∙ length-set k.bytes k.length x

whole_set : (s : ExtendedState) (c : Class) (u : Unfinished) → Whole s → length u.contents.bytes ≡ most_contents → Whole (set_packet s c u)
whole_set s c u whole memory = record {
  seven = length-set s.packets (place c) u ∙ whole.seven;
  memories = λ (d : Class). ap (λ (v : Unfinished). length v.contents.bytes) (packet_set s.packets c d u whole.seven) ∙ either (same_class c d) d;
}
  where
    either : (t : Bool) (d : Class) → length (cond t (cut_packet u) (packet_at s.packets d)).contents.bytes ≡ most_contents
    either true d = memory
    either false d = whole.memories d

whole_with : (s : ExtendedState) (r : Cea608State) (x : Running) → Whole s → Whole (record { captions = r; running = x; packets = s.packets })
whole_with s r x whole = record { seven = whole.seven; memories = whole.memories }

whole_either : (t : Bool) (x y : Step) → Whole x.0 → Whole y.0 → Whole (cond t x y).0
whole_either true x y left right = left
whole_either false x y left right = right

module _ (s : ExtendedState) (h : Stepped) (whole : Whole s) where
  gone : (r : Cea608State) (c : Class) → Whole (set_packet (set_captions s r) c absent_packet)
  gone r c = whole_set (set_captions s r) c absent_packet (whole_with s r s.running whole) refl

  whole_finished : (c : Class) (x : Option ℕ) (k : Contents) (sum : ℕ) → Whole (finished_state s h.1 c x k sum).0
  whole_finished c None k sum = whole
  whole_finished c (Some t) k sum = whole_either (is_right_sum c t (contents_of k) sum) _ _ (gone h.1 c) (gone s.captions c)

  whole_ended : (x : Running) (sum : ℕ) → Whole (ended_state s h.1 x sum).0
  whole_ended running.Captions sum = whole
  whole_ended (running.Extended c) sum = whole_finished c (packet_at s.packets c).packet_type (packet_at s.packets c).contents sum

  whole_filled : (c : Class) (x : Option ℕ) (k : Contents) (a b : ℕ) → length k.bytes ≡ most_contents → Whole (filled_state s h.1 c x k a b).0
  whole_filled c None k a b memory = whole_with s h.1 s.running whole
  whole_filled c (Some t) k a b memory =
      whole_either (has_room k (content_bytes a b)) (filled_to s h.1 c t k (content_bytes a b)) (dropped_state 14 s c) (whole_set (set_captions s h.1) c _ (whole_with s h.1 s.running whole) (added_memory k (content_bytes a b) ∙ memory)) (gone s.captions c)

  whole_other : (x : Running) (a b : ℕ) → Whole (other_state s h x a b).0
  whole_other running.Captions a b = whole_with s h.1 s.running whole
  whole_other (running.Extended c) a b = whole_filled c (packet_at s.packets c).packet_type (packet_at s.packets c).contents a b (whole.memories c)

  whole_part : (x : Part) (a b : ℕ) → Whole (by_part_state s h x a b).0
  whole_part part.Command a b = whole_with s h.1 running.Captions whole
  whole_part (part.Start c) a b = whole_set (record { captions = h.1; running = running.Extended c; packets = s.packets }) c (begun b) (whole_with s h.1 (running.Extended c) whole) refl
  whole_part (part.Continuation c) a b = whole_either (is_of b (packet_at s.packets c)) _ _ (whole_with s h.1 (running.Extended c) whole) whole
  whole_part part.End a b = whole_ended s.running b
  whole_part part.Other a b = whole_other s.running a b

whole_by_parity : (s : ExtendedState) (p : Pair) (t : Bool) → is_odd_pair p ≡ t → Whole s → Whole (step s p).0
whole_by_parity s p true odd whole =
    subst (λ (x : Step). Whole x.0) (sym (odd_pair s p odd)) (whole_part s (heard_by (reader_of s) p) whole (part_of (first p)) (first p) (second p))
whole_by_parity s p false even whole = subst (λ (x : Step). Whole x.0) (sym (even_pair s p even)) whole

pub step_whole : (s : ExtendedState) (p : Pair) → Whole s → Whole (step s p).0
step_whole s p = whole_by_parity s p (is_odd_pair p) refl

-- over any stream
pub reads_as_its_reader : (s : ExtendedState) (ps : List Pair) → Whole s → (state_answers s ps ≡ answers (reader_of s) ps) × (reader_of (state_after s ps) ≡ after (reader_of s) ps)
reads_as_its_reader s [] whole = (refl, refl)
reads_as_its_reader s (p ∷ ps) whole =
    let here = step_refines s p whole in
    let rest = reads_as_its_reader (step s p).0 ps (step_whole s p whole) in (
      ap {B = List (Outcome Report)} (λ os. report_of (step s p).1 ∷ os) rest.0 ∙ ap (λ (x : Read). x.0 ∷ answers x.1 ps) here,
      rest.1 ∙ ap (λ (x : Read). after x.1 ps) here,
    )

-- two states that keep the same reader answer alike: a length above 32 means 32, and what stands behind the contents does not matter
pub answers_by_its_reader : (s t : ExtendedState) (ps : List Pair) → Whole s → Whole t → reader_of s ≡ reader_of t → state_answers s ps ≡ state_answers t ps
answers_by_its_reader s t ps whole_s whole_t same =
    (reads_as_its_reader s ps whole_s).0 ∙ ap (λ (x : Reader). answers x ps) same ∙ sym (reads_as_its_reader t ps whole_t).0

-- a fresh state keeps a fresh reader
fresh_packets : (c : Class) → kept_packets fresh_state.packets c ≡ None
unfolding packet_at
fresh_packets class.Current = refl
fresh_packets class.Future = refl
fresh_packets class.ChannelInformation = refl
fresh_packets class.Miscellaneous = refl
fresh_packets class.PublicService = refl
fresh_packets class.Reserved = refl
fresh_packets class.Private = refl

pub fresh_keeps_fresh : reader_of fresh_state ≡ fresh
fresh_keeps_fresh =
    ap (λ (m : Packets). record { captions = fresh.captions; running = running.Captions; packets = m }) (fun_ext fresh_packets)

fresh_memories : (c : Class) → length (packet_at fresh_state.packets c).contents.bytes ≡ most_contents
unfolding packet_at
fresh_memories class.Current = refl
fresh_memories class.Future = refl
fresh_memories class.ChannelInformation = refl
fresh_memories class.Miscellaneous = refl
fresh_memories class.PublicService = refl
fresh_memories class.Reserved = refl
fresh_memories class.Private = refl

pub fresh_is_whole : Whole fresh_state
fresh_is_whole = record { seven = refl; memories = fresh_memories }
