-- What a pair leaves of the record, from any state whatever: 1 and 13 leave every field and every byte as it was, 14 and 15 all but
-- their packet. The contents in an answer are those of the packet that it reports, at most 32 bytes.
-- Assumes nothing.
use Prim.Native.Nat.{ℕ, ◌≤◌, min}
use lib.ListN.{length, length-take}
use mathlib.Core.Bool.{Bool, cond, false, true, true≢false}
use Rattle.std.specs.Prelude.{Option, None, Some}
use mathlib.Core.Path.{◌≡◌, refl, sym, subst}
use native.Mathlib.Omega.{arith}
use Rattle.code.specs.Outcome.{Outcome, answer, refused}
use Rattle.code.specs.Read.{is_odd_pair}
use Rattle.code.specs.declared.pair.Pair.{Pair}
use Rattle.extended.proofs.Decoding.{even_pair, odd_pair}
use Rattle.extended.proofs.Ways.{heard_not_refused}
use Rattle.event.specs.declared.event.Cea608.{Cea608}
use Rattle.extended.specs.Extended.{reported}
use Rattle.extended.specs.Packet.{content_bytes, is_right_sum, most_contents}
use Rattle.extended.specs.Part.{part_of}
use Rattle.extended.specs.Reading.{first, is_refused, second}
use Rattle.extended.specs.Refusals.{LeavesRecord, a_packet, by_1, by_13, by_14, by_15, no_packet}
use Rattle.extended.specs.Reports.{reported_bytes}
use Rattle.extended.specs.State.{Step, by_part_state, contents_of, ended_state, filled_state, finished_state, given_by, has_room, is_of, other_state, packet_at, reader_of, report_of, step}
use Rattle.extended.specs.declared.class.Class.{Class}
use Rattle.extended.specs.declared.packet.Contents.{Contents}
use Rattle.extended.specs.declared.part.Part.TheVariants as part
use Rattle.extended.specs.declared.part.Part.{Part}
use Rattle.extended.specs.declared.state.ExtendedState.{ExtendedState}
use Rattle.extended.specs.declared.state.Given.TheVariants as given
use Rattle.extended.specs.declared.state.Given.{Given}
use Rattle.extended.specs.declared.state.Running.TheVariants as running
use Rattle.extended.specs.declared.state.Running.{Running}
use Rattle.receiver.specs.Receiver as receiver
use Rattle.receiver.specs.Receiver.{Stepped}

either : (s : ExtendedState) (t : Bool) (x y : Step) → LeavesRecord s x → LeavesRecord s y → LeavesRecord s (cond t x y)
either s true x y first other = first
either s false x y first other = other

-- a pair without an answer
silent : (s next : ExtendedState) → LeavesRecord s (next, answer None)
silent s next = no_packet (answer None) next refl refl

-- what the captions' receiver answers
heard_leaves : (s next : ExtendedState) (o : Outcome (Option Cea608)) → is_refused (reported o) ≡ false → LeavesRecord s (next, given_by o)
heard_leaves s next (answer None) heard = silent s next
heard_leaves s next (answer (Some e)) heard = no_packet (answer (Some (given.Event e))) next refl refl
heard_leaves s next (refused n) heard = absurd (true≢false heard)

module _ (s : ExtendedState) (h : Stepped) (heard : is_refused (reported h.0) ≡ false) where
  finished_leaves : (c : Class) → s.running ≡ running.Extended c → (x : Option ℕ) (k : Contents) (sum : ℕ) → LeavesRecord s (finished_state s h.1 c x k sum)
  finished_leaves c runs None k sum = by_13
  finished_leaves c runs (Some t) k sum =
      either s (is_right_sum c t (contents_of k) sum) _ _ (a_packet c t k _ refl) (by_15 c runs)

  ended_leaves : (x : Running) → s.running ≡ x → (sum : ℕ) → LeavesRecord s (ended_state s h.1 x sum)
  ended_leaves running.Captions runs sum = by_13
  ended_leaves (running.Extended c) runs sum =
      finished_leaves c runs (packet_at s.packets c).packet_type (packet_at s.packets c).contents sum

  filled_leaves : (c : Class) → s.running ≡ running.Extended c → (x : Option ℕ) (k : Contents) (a b : ℕ) → LeavesRecord s (filled_state s h.1 c x k a b)
  filled_leaves c runs None k a b = silent s _
  filled_leaves c runs (Some t) k a b = either s (has_room k (content_bytes a b)) _ _ (silent s _) (by_14 c runs)

  other_leaves : (x : Running) → s.running ≡ x → (a b : ℕ) → LeavesRecord s (other_state s h x a b)
  other_leaves running.Captions runs a b = heard_leaves s _ h.0 heard
  other_leaves (running.Extended c) runs a b =
      filled_leaves c runs (packet_at s.packets c).packet_type (packet_at s.packets c).contents a b

  part_leaves : (x : Part) (a b : ℕ) → LeavesRecord s (by_part_state s h x a b)
  part_leaves part.Command a b = heard_leaves s _ h.0 heard
  part_leaves (part.Start c) a b = silent s _
  part_leaves (part.Continuation c) a b = either s (is_of b (packet_at s.packets c)) _ _ (silent s _) by_13
  part_leaves part.End a b = ended_leaves s.running refl b
  part_leaves part.Other a b = other_leaves s.running refl a b

by_parity : (s : ExtendedState) (p : Pair) (t : Bool) → is_odd_pair p ≡ t → LeavesRecord s (step s p)
by_parity s p true odd =
    subst (LeavesRecord s) (sym (odd_pair s p odd))
    (part_leaves s (receiver.step s.captions p) (heard_not_refused (reader_of s) p odd) (part_of (first p)) (first p) (second p))
by_parity s p false even = subst (LeavesRecord s) (sym (even_pair s p even)) by_1

pub what_a_pair_leaves : (s : ExtendedState) (p : Pair) → LeavesRecord s (step s p)
what_a_pair_leaves s p = by_parity s p (is_odd_pair p) refl

few_given : (o : Outcome (Option Given)) → length (reported_bytes (report_of o)) ≤ most_contents
few_given (answer None) = omega arith
few_given (answer (Some (given.Event e))) = omega arith
few_given (answer (Some (given.Packet p))) =
    omega (arith, length-take (min most_contents p.contents.length) p.contents.bytes)
few_given (refused n) = omega arith

pub few_reported : (s : ExtendedState) (p : Pair) → length (reported_bytes (report_of (step s p).1)) ≤ most_contents
few_reported s p = few_given (step s p).1
