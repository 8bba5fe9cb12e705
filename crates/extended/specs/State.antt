-- How a state keeps a reader: seven packets, the contents of each the first bytes of 32. The port's own words; what a pair does
-- is said in `Extended`, and here which record that leaves.
use Rattle.std.specs.Prelude.{ℕ, ◌+◌, ◌-◌, min, eqb, leb, get_or, length, replicate, set, take, Bool, cond, false, List, [], ◌∷◌, Option, None, Some, Result}
use Rattle.code.specs.Outcome.{Outcome, answer, outcome, refused}
use Rattle.code.specs.Parity.{stripped}
use Rattle.code.specs.Read.{is_odd_pair}
use Rattle.code.specs.declared.pair.Pair.{Pair}
use Rattle.extended.specs.Class.{class_number}
use Rattle.extended.specs.Extended.{Read, Reader, Report, event, nothing, packet}
use Rattle.extended.specs.Packet.{Packet, content_bytes, is_right_sum, most_contents}
use Rattle.extended.specs.Part.{part_of}
use Rattle.extended.specs.declared.class.Class.{Class}
use Rattle.extended.specs.declared.packet.Contents.{Contents}
use Rattle.extended.specs.declared.packet.Unfinished.{Unfinished}
use Rattle.extended.specs.declared.part.Part.TheVariants as part
use Rattle.extended.specs.declared.part.Part.{Part}
use Rattle.extended.specs.declared.state.ExtendedError.TheVariants as error
use Rattle.extended.specs.declared.state.ExtendedError.{ExtendedError}
use Rattle.extended.specs.declared.state.ExtendedState.{ExtendedState}
use Rattle.extended.specs.declared.state.Given.TheVariants as given
use Rattle.extended.specs.declared.state.Given.{Given}
use Rattle.extended.specs.declared.state.Running.TheVariants as running
use Rattle.extended.specs.declared.state.Running.{Running}
use Rattle.event.specs.declared.event.Cea608.{Cea608}
use Rattle.receiver.specs.Receiver as receiver
use Rattle.receiver.specs.Receiver.{Stepped}
use Rattle.receiver.specs.declared.state.Cea608State.{Cea608State}

-- the contents: the first bytes of 32; a length above 32 means 32
abbrev pub contents_of : Contents → List ℕ
contents_of k = take (min most_contents k.length) k.bytes

abbrev pub cut : Contents → Contents
cut k = record { length = min most_contents k.length; bytes = k.bytes }

abbrev pub no_contents : Contents
no_contents = record { length = 0; bytes = replicate most_contents 0 }

abbrev pub has_room : Contents → List ℕ → Bool
has_room k bs = leb (k.length + length bs) most_contents

-- with these bytes after them
abbrev pub added : Contents → ℕ → Contents
added k b = record { length = k.length + 1; bytes = set k.bytes k.length b }

abbrev pub added_all : Contents → List ℕ → Contents
added_all k [] = k
added_all k (b ∷ bs) = added_all (added k b) bs

-- no packet, and one that was started
abbrev pub absent_packet : Unfinished
absent_packet = record { packet_type = None; contents = no_contents }

abbrev pub begun : ℕ → Unfinished
begun t = record { packet_type = Some t; contents = no_contents }

abbrev pub cut_packet : Unfinished → Unfinished
cut_packet u = record { packet_type = u.packet_type; contents = cut u.contents }

-- there is a packet, and of this type
abbrev pub is_known : ℕ → Option ℕ → Bool
is_known t None = false
is_known t (Some u) = eqb u t

abbrev pub is_of : ℕ → Unfinished → Bool
is_of t u = is_known t u.packet_type

-- the place of a class's packet; a state has all seven, and nothing is found beyond them
abbrev pub place : Class → ℕ
place c = class_number c - 1

abbrev pub beyond : Unfinished
beyond = record { packet_type = None; contents = record { length = 0; bytes = [] } }

unfoldable pub packet_at : List Unfinished → Class → Unfinished
packet_at packets c = cut_packet (get_or packets (place c) beyond)

abbrev pub set_packet : ExtendedState → Class → Unfinished → ExtendedState
set_packet s c u = record { captions = s.captions; running = s.running; packets = set s.packets (place c) u }

abbrev pub set_captions : ExtendedState → Cea608State → ExtendedState
set_captions s r = record { captions = r; running = s.running; packets = s.packets }

abbrev pub set_running : ExtendedState → Running → ExtendedState
set_running s x = record { captions = s.captions; running = x; packets = s.packets }

abbrev pub fresh_state : ExtendedState
fresh_state = record { captions = receiver.fresh; running = running.Captions; packets = replicate 7 absent_packet }

-- the reader that a state keeps
abbrev pub packet_for : Option ℕ → Contents → Option Packet
packet_for None k = None
packet_for (Some t) k = Some (record { packet_type = t; contents = contents_of k })

abbrev pub packet_in : Unfinished → Option Packet
packet_in u = packet_for u.packet_type u.contents

abbrev pub reader_of : ExtendedState → Reader
reader_of s = record { captions = s.captions; running = s.running; packets = λ (c : Class). packet_in (packet_at s.packets c) }

-- the record after a pair, and what it gives
abbrev pub Step : Type 0
Step = ExtendedState × Outcome (Option Given)

-- what is reported: a packet with its contents
abbrev pub report_of : Outcome (Option Given) → Outcome Report
report_of (answer None) = answer nothing
report_of (answer (Some (given.Event e))) = answer (event e)
report_of (answer (Some (given.Packet p))) = answer (packet p.class p.packet_type (contents_of p.contents))
report_of (refused n) = refused n

abbrev pub read_by : Step → Read
read_by r = (report_of r.1, reader_of r.0)

-- what the captions' receiver answers
abbrev pub given_by : Outcome (Option Cea608) → Outcome (Option Given)
given_by (answer None) = answer None
given_by (answer (Some e)) = answer (Some (given.Event e))
given_by (refused n) = refused n

abbrev pub opened_state : ExtendedState → Cea608State → Class → ExtendedState
opened_state s r c = set_running (set_captions s r) (running.Extended c)

abbrev pub started_state : ExtendedState → Cea608State → Class → ℕ → Step
started_state s r c t = (set_packet (opened_state s r c) c (begun t), answer None)

abbrev pub continued_state : ExtendedState → Cea608State → Class → ℕ → Step
continued_state s r c t = cond (is_of t (packet_at s.packets c)) (opened_state s r c, answer None) (s, refused 13)

abbrev pub dropped_state : ℕ → ExtendedState → Class → Step
dropped_state n s c = (set_packet s c absent_packet, refused n)

abbrev pub finished_state : ExtendedState → Cea608State → Class → Option ℕ → Contents → ℕ → Step
finished_state s r c None k sum = (s, refused 13)
finished_state s r c (Some t) k sum =
    cond (is_right_sum c t (contents_of k) sum)
    (set_packet (set_captions s r) c absent_packet, answer (Some (given.Packet (record { class = c; packet_type = t; contents = k }))))
    (dropped_state 15 s c)

abbrev pub ended_state : ExtendedState → Cea608State → Running → ℕ → Step
ended_state s r running.Captions sum = (s, refused 13)
ended_state s r (running.Extended c) sum = finished_state s r c (packet_at s.packets c).packet_type (packet_at s.packets c).contents sum

abbrev pub filled_state : ExtendedState → Cea608State → Class → Option ℕ → Contents → ℕ → ℕ → Step
filled_state s r c None k a b = (set_captions s r, answer None)
filled_state s r c (Some t) k a b =
    cond (has_room k (content_bytes a b))
    (set_packet (set_captions s r) c (record { packet_type = Some t; contents = added_all k (content_bytes a b) }), answer None)
    (dropped_state 14 s c)

abbrev pub other_state : ExtendedState → Stepped → Running → ℕ → ℕ → Step
other_state s h running.Captions a b = (set_captions s h.1, given_by h.0)
other_state s h (running.Extended c) a b = filled_state s h.1 c (packet_at s.packets c).packet_type (packet_at s.packets c).contents a b

abbrev pub by_part_state : ExtendedState → Stepped → Part → ℕ → ℕ → Step
by_part_state s h part.Command a b = (set_running (set_captions s h.1) running.Captions, given_by h.0)
by_part_state s h (part.Start c) a b = started_state s h.1 c b
by_part_state s h (part.Continuation c) a b = continued_state s h.1 c b
by_part_state s h part.End a b = ended_state s h.1 s.running b
by_part_state s h part.Other a b = other_state s h s.running a b

unfoldable pub step : ExtendedState → Pair → Step
step s p =
    cond (is_odd_pair p)
    (by_part_state s (receiver.step s.captions p) (part_of (stripped p.0)) (stripped p.0) (stripped p.1))
    (s, refused 1)

-- what the code answers
abbrev pub extended_refusal : ExtendedError → ℕ
extended_refusal error.InvalidParity = 1
extended_refusal error.NotOpen = 13
extended_refusal error.TooLong = 14
extended_refusal error.WrongSum = 15

abbrev pub given_outcome : Result (Option Given) ExtendedError → Outcome (Option Given)
given_outcome r = outcome extended_refusal r

abbrev pub received_outcome : ExtendedState × Result (Option Given) ExtendedError → Step
received_outcome r = (r.0, given_outcome r.1)
