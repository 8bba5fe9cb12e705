-- What is reported of packets, and what becomes of one with a pair, for the laws. The port's own words.
use Rattle.std.specs.Prelude.{ℕ, ◌+◌, ◌<◌, ◌≤◌, length, Bool, cond, true, List, [], ◌++◌, ◌∷◌, ◌≡◌, Option, None, Some, is_some}
use Rattle.code.specs.Outcome.{Outcome, answer, refused}
use Rattle.code.specs.declared.pair.Pair.{Pair}
use Rattle.extended.specs.Extended.{Reader, Report, event, nothing, packet, same_class}
use Rattle.extended.specs.Packet.{Packet, content_bytes, is_right_sum, most_contents}
use Rattle.extended.specs.Reading.{Is, first, second}
use Rattle.extended.specs.declared.class.Class.{Class}
use Rattle.extended.specs.declared.part.Part.TheVariants as part
use Rattle.extended.specs.declared.state.Running.TheVariants as running

-- the packet that is reported, if one is, and its class
abbrev pub given_packet : Outcome Report → Option (Class × Packet)
given_packet (answer nothing) = None
given_packet (answer (event e)) = None
given_packet (answer (packet c t bs)) = Some (c, record { packet_type = t; contents = bs })
given_packet (refused n) = None

abbrev pub is_packet : Outcome Report → Bool
is_packet o = is_some (given_packet o)

-- its content bytes
abbrev pub contents_in : Option (Class × Packet) → List ℕ
contents_in None = []
contents_in (Some x) = x.1.contents

abbrev pub reported_bytes : Outcome Report → List ℕ
reported_bytes o = contents_in (given_packet o)

-- how often a packet of this class is reported
abbrev pub count_in : Class → Option (Class × Packet) → ℕ
count_in c None = 0
count_in c (Some x) = cond (same_class x.0 c) 1 0

abbrev pub reports : Class → Outcome Report → ℕ
reports c o = count_in c (given_packet o)

abbrev pub times_reported : Class → List (Outcome Report) → ℕ
times_reported c [] = 0
times_reported c (o ∷ os) = reports c o + times_reported c os

-- What a pair makes of the packet of a class: it stays the same; it is a new one, by its start; it has more contents, at most 32,
-- while the class runs; or it is there no more, by an end or the 33rd byte while the class runs.
pub data Becomes (c : Class) (s : Reader) (p : Pair) : Option Packet → Type 0 where
  the_same : Becomes c s p (s.packets c)
  begun : Is (part.Start c) p → Becomes c s p (Some (record { packet_type = second p; contents = [] }))
  more : (k : Packet) → Is part.Other p → s.running ≡ running.Extended c → s.packets c ≡ Some k → length (k.contents ++ content_bytes (first p) (second p)) ≤ most_contents → Becomes c s p (Some (record { packet_type = k.packet_type; contents = k.contents ++ content_bytes (first p) (second p) }))
  ended : (k : Packet) → Is part.End p → s.running ≡ running.Extended c → s.packets c ≡ Some k → Becomes c s p None
  too_long : (k : Packet) → Is part.Other p → s.running ≡ running.Extended c → s.packets c ≡ Some k → most_contents < length (k.contents ++ content_bytes (first p) (second p)) → Becomes c s p None

-- A pair that reports a packet is an end. The packet was open, with this type and these contents, and the sum is right.
pub record WasOpen (s : Reader) (p : Pair) (c : Class) (t : ℕ) (bs : List ℕ) : Type 0 where
  pub end : Is part.End p
  pub runs_now : s.running ≡ running.Extended c
  pub held : s.packets c ≡ Some (record { packet_type = t; contents = bs })
  pub sum : is_right_sum c t bs (second p) ≡ true
