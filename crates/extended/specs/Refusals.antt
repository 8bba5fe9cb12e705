-- When a pair is refused, by which number, and what it leaves, in the port's own words, for the laws. 1 and 13 leave everything as
-- it was; 14 and 15 drop the packet of the class that runs, and leave the rest.
use Rattle.std.specs.Prelude.{ℕ, ◌<◌, length, false, ◌++◌, ◌≡◌, Option, None, Some}
use Rattle.code.specs.Outcome.{Outcome, answer, refused}
use Rattle.code.specs.Read.{is_odd_pair}
use Rattle.code.specs.declared.pair.Pair.{Pair}
use Rattle.extended.specs.Extended.{Reader, is_type, packet, with_packet}
use Rattle.extended.specs.Packet.{Packet, content_bytes, is_right_sum, most_contents}
use Rattle.extended.specs.Reading.{Is, first, is_refused, second}
use Rattle.extended.specs.Reports.{is_packet}
use Rattle.extended.specs.State.{Step, absent_packet, contents_of, report_of, set_packet}
use Rattle.extended.specs.declared.class.Class.{Class}
use Rattle.extended.specs.declared.packet.Contents.{Contents}
use Rattle.extended.specs.declared.part.Part.TheVariants as part
use Rattle.extended.specs.declared.state.ExtendedState.{ExtendedState}
use Rattle.extended.specs.declared.state.Given.{Given}
use Rattle.extended.specs.declared.state.Given.TheVariants as given
use Rattle.extended.specs.declared.state.Running.TheVariants as running

pub data Leaves (s : Reader) (p : Pair) : ℕ → Reader → Type 0 where
  invalid_parity : is_odd_pair p ≡ false → Leaves s p 1 s
  no_such_packet : (c : Class) → Is (part.Continuation c) p → is_type (second p) (s.packets c) ≡ false → Leaves s p 13 s
  end_in_captions : Is part.End p → s.running ≡ running.Captions → Leaves s p 13 s
  end_of_no_packet : (c : Class) → Is part.End p → s.running ≡ running.Extended c → s.packets c ≡ None → Leaves s p 13 s
  too_long : (c : Class) (k : Packet) → Is part.Other p → s.running ≡ running.Extended c → s.packets c ≡ Some k → most_contents < length (k.contents ++ content_bytes (first p) (second p)) → Leaves s p 14 (with_packet s c None)
  of_wrong_sum : (c : Class) (k : Packet) → Is part.End p → s.running ≡ running.Extended c → s.packets c ≡ Some k → is_right_sum c k.packet_type k.contents (second p) ≡ false → Leaves s p 15 (with_packet s c None)

abbrev pub finished : Class → ℕ → Contents → Outcome (Option Given)
finished c t k = answer (Some (given.Packet (record { class = c; packet_type = t; contents = k })))

-- The same of the record. In a packet that is reported stand its contents, and in every other answer none.
pub data LeavesRecord (s : ExtendedState) : Step → Type 0 where
  no_packet : (o : Outcome (Option Given)) (next : ExtendedState) → is_refused (report_of o) ≡ false → is_packet (report_of o) ≡ false → LeavesRecord s (next, o)
  a_packet : (c : Class) (t : ℕ) (k : Contents) (next : ExtendedState) → report_of (finished c t k) ≡ answer (packet c t (contents_of k)) → LeavesRecord s (next, finished c t k)
  by_1 : LeavesRecord s (s, refused 1)
  by_13 : LeavesRecord s (s, refused 13)
  by_14 : (c : Class) → s.running ≡ running.Extended c → LeavesRecord s (set_packet s c absent_packet, refused 14)
  by_15 : (c : Class) → s.running ≡ running.Extended c → LeavesRecord s (set_packet s c absent_packet, refused 15)
