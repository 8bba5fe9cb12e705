-- The thirteen ways of a pair, by its parity, its part and what runs. The cases of the definition are gone through here, once,
-- for every law that needs them.
-- Assumes nothing.
use Prim.Native.Nat.{ℕ}
use lib.Dec.{leb}
use lib.ListN.{length}
use mathlib.Core.Bool.{Bool, true, false}
use mathlib.Core.List.{◌++◌}
use Rattle.std.specs.Prelude.{Option, None, Some}
use mathlib.Core.Path.{◌≡◌, refl, sym, subst}
use Rattle.code.specs.Outcome.{Outcome, answer, refused}
use Rattle.code.specs.Read.{is_odd_pair}
use Rattle.code.specs.declared.pair.Pair.{Pair}
use Rattle.event.specs.declared.event.Cea608.{Cea608}
use Rattle.extended.specs.Extended.{Read, Reader, by_part, command, continued, dropped, ended, filled, finished, is_type, nothing, opened, other, packet, read, reported, started, with_captions, with_packet}
use Rattle.extended.specs.Packet.{Packet, content_bytes, is_right_sum, most_contents}
use Rattle.extended.specs.Part.{part_of}
use Rattle.extended.specs.Reading.{Is, first, is_refused, second}
use Rattle.extended.specs.declared.class.Class.{Class}
use Rattle.extended.specs.declared.part.Part.TheVariants as part
use Rattle.extended.specs.declared.part.Part.{Part}
use Rattle.extended.specs.declared.state.Running.TheVariants as running
use Rattle.extended.specs.declared.state.Running.{Running}
use Rattle.receiver.proofs.Step.{odd_is_not_refused}
use Rattle.receiver.specs.Receiver as receiver
use Rattle.receiver.specs.Receiver.{Stepped}

-- the captions' receiver after a pair
abbrev pub heard_by : Reader → Pair → Stepped
heard_by s p = receiver.step s.captions p

-- what the captions' receiver answers to a pair that is received is no refusal
not_refused_lem : (o : Outcome (Option Cea608)) → ((n : ℕ) → o ≡ refused n → ⊥) → is_refused (reported o) ≡ false
not_refused_lem (answer None) other = refl
not_refused_lem (answer (Some e)) other = refl
not_refused_lem (refused n) other = absurd (other n refl)

pub heard_not_refused : (s : Reader) (p : Pair) → is_odd_pair p ≡ true → is_refused (reported (heard_by s p).0) ≡ false
heard_not_refused s p odd = not_refused_lem (heard_by s p).0 (λ (n : ℕ). odd_is_not_refused s.captions p n odd)

-- the contents of a packet with those of a pair after them
abbrev pub with_contents : Packet → Pair → Packet
with_contents k p = record { packet_type = k.packet_type; contents = k.contents ++ content_bytes (first p) (second p) }

-- whether they are at most 32
abbrev pub fits : Packet → Pair → Bool
fits k p = leb (length (with_contents k p).contents) most_contents

pub even_read : (s : Reader) (p : Pair) → is_odd_pair p ≡ false → read s p ≡ (refused 1, s)
unfolding read
even_read s p even = rw even

-- a pair of this part, by the definition
pub read_by_part : (s : Reader) (p : Pair) (x : Part) → Is x p → read s p ≡ by_part s (heard_by s p) x (first p) (second p)
unfolding read
read_by_part s p x is = rw (is.odd, is.part)

pub data Way (s : Reader) (p : Pair) : Read → Type 0 where
  corrupted : is_odd_pair p ≡ false → Way s p (refused 1, s)
  acts : Is part.Command p → Way s p (command s (heard_by s p))
  is_text_lem : Is part.Other p → s.running ≡ running.Captions → Way s p (reported (heard_by s p).0, with_captions s (heard_by s p).1)
  starts : (c : Class) → Is (part.Start c) p → Way s p (started s (heard_by s p).1 c (second p))
  continues : (c : Class) → Is (part.Continuation c) p → is_type (second p) (s.packets c) ≡ true → Way s p (answer nothing, opened s (heard_by s p).1 c)
  no_such_packet : (c : Class) → Is (part.Continuation c) p → is_type (second p) (s.packets c) ≡ false → Way s p (refused 13, s)
  ends_in_captions : Is part.End p → s.running ≡ running.Captions → Way s p (refused 13, s)
  ends_without_packet : (c : Class) → Is part.End p → s.running ≡ running.Extended c → s.packets c ≡ None → Way s p (refused 13, s)
  finishes : (c : Class) (k : Packet) → Is part.End p → s.running ≡ running.Extended c → s.packets c ≡ Some k → is_right_sum c k.packet_type k.contents (second p) ≡ true → Way s p (answer (packet c k.packet_type k.contents), with_packet (with_captions s (heard_by s p).1) c None)
  has_wrong_sum : (c : Class) (k : Packet) → Is part.End p → s.running ≡ running.Extended c → s.packets c ≡ Some k → is_right_sum c k.packet_type k.contents (second p) ≡ false → Way s p (dropped 15 s c)
  is_passed_over : (c : Class) → Is part.Other p → s.running ≡ running.Extended c → s.packets c ≡ None → Way s p (answer nothing, with_captions s (heard_by s p).1)
  fills : (c : Class) (k : Packet) → Is part.Other p → s.running ≡ running.Extended c → s.packets c ≡ Some k → fits k p ≡ true → Way s p (answer nothing, with_packet (with_captions s (heard_by s p).1) c (Some (with_contents k p)))
  is_too_long : (c : Class) (k : Packet) → Is part.Other p → s.running ≡ running.Extended c → s.packets c ≡ Some k → fits k p ≡ false → Way s p (dropped 14 s c)

module _ (s : Reader) (p : Pair) where
  continuation_way : (c : Class) (t : Bool) → Is (part.Continuation c) p → is_type (second p) (s.packets c) ≡ t → Way s p (continued s (heard_by s p).1 c (second p))
  continuation_way c true is e = rw e (continues c is e)
  continuation_way c false is e = rw e (no_such_packet c is e)

  sum_way : (c : Class) (k : Packet) (right : Bool) → Is part.End p → s.running ≡ running.Extended c → s.packets c ≡ Some k → is_right_sum c k.packet_type k.contents (second p) ≡ right → Way s p (finished s (heard_by s p).1 c (Some k) (second p))
  sum_way c k true is runs there e = rw e (finishes c k is runs there e)
  sum_way c k false is runs there e = rw e (has_wrong_sum c k is runs there e)

  finish_way : (c : Class) (x : Option Packet) → Is part.End p → s.running ≡ running.Extended c → s.packets c ≡ x → Way s p (finished s (heard_by s p).1 c x (second p))
  finish_way c None is runs there = ends_without_packet c is runs there
  finish_way c (Some k) is runs there = sum_way c k (is_right_sum c k.packet_type k.contents (second p)) is runs there refl

  end_way : (r : Running) → Is part.End p → s.running ≡ r → Way s p (ended s (heard_by s p).1 r (second p))
  end_way running.Captions is runs = ends_in_captions is runs
  end_way (running.Extended c) is runs = finish_way c (s.packets c) is runs refl

  room_way : (c : Class) (k : Packet) (room : Bool) → Is part.Other p → s.running ≡ running.Extended c → s.packets c ≡ Some k → fits k p ≡ room → Way s p (filled s (heard_by s p).1 c (Some k) (content_bytes (first p) (second p)))
  room_way c k true is runs there e = rw e (fills c k is runs there e)
  room_way c k false is runs there e = rw e (is_too_long c k is runs there e)

  fill_way : (c : Class) (x : Option Packet) → Is part.Other p → s.running ≡ running.Extended c → s.packets c ≡ x → Way s p (filled s (heard_by s p).1 c x (content_bytes (first p) (second p)))
  fill_way c None is runs there = is_passed_over c is runs there
  fill_way c (Some k) is runs there = room_way c k (fits k p) is runs there refl

  other_way : (r : Running) → Is part.Other p → s.running ≡ r → Way s p (other s (heard_by s p) r (first p) (second p))
  other_way running.Captions is runs = is_text_lem is runs
  other_way (running.Extended c) is runs = fill_way c (s.packets c) is runs refl

  part_way : (x : Part) → Is x p → Way s p (by_part s (heard_by s p) x (first p) (second p))
  part_way part.Command is = acts is
  part_way (part.Start c) is = starts c is
  part_way (part.Continuation c) is = continuation_way c (is_type (second p) (s.packets c)) is refl
  part_way part.End is = end_way s.running is refl
  part_way part.Other is = other_way s.running is refl

  parity_way : (t : Bool) → is_odd_pair p ≡ t → Way s p (read s p)
  parity_way true odd =
      let is : Is (part_of (first p)) p = record { odd = odd; part = refl } in
      subst (Way s p) (sym (read_by_part s p (part_of (first p)) is)) (part_way (part_of (first p)) is)
  parity_way false even = subst (Way s p) (sym (even_read s p even)) (corrupted even)

  pub way_of : Way s p (read s p)
  way_of = parity_way (is_odd_pair p) refl
