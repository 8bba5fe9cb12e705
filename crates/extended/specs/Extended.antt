-- Captions with the extended data between them, from CTA-608's rules on extended data as 02 has them (T-01), over a map from
-- class to unfinished packet. What a caption pair does is the receiver's own step.
use Rattle.std.specs.Prelude.{ℕ, eqb, leb, length, Bool, cond, false, List, [], ◌++◌, Option, None, Some}
use Rattle.code.specs.Outcome.{Outcome, answer, refused}
use Rattle.code.specs.Parity.{stripped}
use Rattle.code.specs.Read.{is_odd_pair}
use Rattle.code.specs.declared.pair.Pair.{Pair}
use Rattle.event.specs.declared.event.Cea608.{Cea608}
use Rattle.extended.specs.Class.{class_number}
use Rattle.extended.specs.Packet.{Packet, content_bytes, is_right_sum, most_contents}
use Rattle.extended.specs.Part.{part_of}
use Rattle.extended.specs.declared.class.Class.{Class}
use Rattle.extended.specs.declared.part.Part.TheVariants as part
use Rattle.extended.specs.declared.part.Part.{Part}
use Rattle.extended.specs.declared.state.Running.TheVariants as running
use Rattle.extended.specs.declared.state.Running.{Running}
use Rattle.receiver.specs.Receiver as receiver
use Rattle.receiver.specs.Receiver.{Stepped}
use Rattle.receiver.specs.declared.state.Cea608State.{Cea608State}

-- one unfinished packet for each class, if there is one
abbrev pub Packets : Type 0
Packets = Class → Option Packet

abbrev pub same_class : Class → Class → Bool
same_class c d = eqb (class_number c) (class_number d)

abbrev pub replaced : Packets → Class → Option Packet → Packets
replaced packets c x d = cond (same_class c d) x (packets d)

-- the captions' receiver, what runs, and the packets
pub record Reader : Type 0 where
  pub captions : Cea608State
  pub running : Running
  pub packets : Packets

abbrev pub with_packet : Reader → Class → Option Packet → Reader
with_packet s c x = record { captions = s.captions; running = s.running; packets = replaced s.packets c x }

abbrev pub with_captions : Reader → Cea608State → Reader
with_captions s r = record { captions = r; running = s.running; packets = s.packets }

abbrev pub with_running : Reader → Running → Reader
with_running s x = record { captions = s.captions; running = x; packets = s.packets }

-- nothing was received: captions run, and there is no packet
abbrev pub fresh : Reader
fresh = record { captions = receiver.fresh; running = running.Captions; packets = λ (c : Class). None }

-- what a pair reports, where it is not refused: a finished packet with its class, type and contents
pub data Report : Type 0 where
  nothing : Report
  event : Cea608 → Report
  packet : Class → ℕ → List ℕ → Report

abbrev pub Read : Type 0
Read = Outcome Report × Reader

abbrev pub reported : Outcome (Option Cea608) → Outcome Report
reported (answer None) = answer nothing
reported (answer (Some e)) = answer (event e)
reported (refused n) = refused n

-- A command acts as the receiver says, h. It interrupts what runs, and captions run after it.
abbrev pub command : Reader → Stepped → Read
command s h = (reported h.0, with_running (with_captions s h.1) running.Captions)

-- From here on the class runs: its packet is open, captions do not run, and another class's packet is interrupted.
abbrev pub opened : Reader → Cea608State → Class → Reader
opened s r c = with_running (with_captions s r) (running.Extended c)

-- a start replaces the unfinished packet of its class
abbrev pub started : Reader → Cea608State → Class → ℕ → Read
started s r c t = (answer nothing, with_packet (opened s r c) c (Some (record { packet_type = t; contents = [] })))

-- a continuation goes on with the packet of that class and type; 13: there is none, and nothing changes
abbrev pub is_type : ℕ → Option Packet → Bool
is_type t None = false
is_type t (Some k) = eqb k.packet_type t

abbrev pub continued : Reader → Cea608State → Class → ℕ → Read
continued s r c t = cond (is_type t (s.packets c)) (answer nothing, opened s r c) (refused 13, s)

-- 14 and 15 drop their packet, and change nothing else
abbrev pub dropped : ℕ → Reader → Class → Read
dropped n s c = (refused n, with_packet s c None)

-- an end finishes the packet that is open; 13: none is, and nothing changes; 15: a wrong sum
abbrev pub finished : Reader → Cea608State → Class → Option Packet → ℕ → Read
finished s r c None sum = (refused 13, s)
finished s r c (Some k) sum =
    cond (is_right_sum c k.packet_type k.contents sum)
    (answer (packet c k.packet_type k.contents), with_packet (with_captions s r) c None) (dropped 15 s c)

abbrev pub ended : Reader → Cea608State → Running → ℕ → Read
ended s r running.Captions sum = (refused 13, s)
ended s r (running.Extended c) sum = finished s r c (s.packets c) sum

-- Contents of the packet that is open; 14: more than 32 bytes. Where there is none, after its end, 14 or 15, they are passed
-- over.
abbrev pub filled : Reader → Cea608State → Class → Option Packet → List ℕ → Read
filled s r c None bytes = (answer nothing, with_captions s r)
filled s r c (Some k) bytes =
    cond (leb (length (k.contents ++ bytes)) most_contents)
    (answer nothing, with_packet (with_captions s r) c (Some (record { packet_type = k.packet_type; contents = k.contents ++ bytes })))
    (dropped 14 s c)

-- Any other pair is caption text where captions run, and contents of the class that runs where they do not.
abbrev pub other : Reader → Stepped → Running → ℕ → ℕ → Read
other s h running.Captions a b = (reported h.0, with_captions s h.1)
other s h (running.Extended c) a b = filled s h.1 c (s.packets c) (content_bytes a b)

-- by its first byte; a and b are the bytes without parity
abbrev pub by_part : Reader → Stepped → Part → ℕ → ℕ → Read
by_part s h part.Command a b = command s h
by_part s h (part.Start c) a b = started s h.1 c b
by_part s h (part.Continuation c) a b = continued s h.1 c b
by_part s h part.End a b = ended s h.1 s.running b
by_part s h part.Other a b = other s h s.running a b

-- 1: a byte with an even count of ones; nothing changes
unfoldable pub read : Reader → Pair → Read
read s p =
    cond (is_odd_pair p)
    (by_part s (receiver.step s.captions p) (part_of (stripped p.0)) (stripped p.0) (stripped p.1))
    (refused 1, s)
