-- Streams worked out by hand from 02, each read from the beginning or from an open title of thirty bytes, with what every pair of it
-- gives. A pair is written by its two bytes without parity. The port's own cases.
use Rattle.std.specs.Prelude.{ℕ, replicate, false, List, [], ◌++◌, ◌∷◌, Some}
use Rattle.code.specs.Channel.{channel_one}
use Rattle.code.specs.Characters.{points}
use Rattle.code.specs.Outcome.{Outcome, answer, refused}
use Rattle.code.specs.Pair.{pair}
use Rattle.code.specs.Parity.{with_parity}
use Rattle.code.specs.declared.pair.Pair.{Pair}
use Rattle.event.specs.declared.event.Cea608.TheVariants as cea608
use Rattle.event.specs.declared.mode.Mode.TheVariants.{RollUp2}
use Rattle.extended.specs.Extended.{Reader, Report, event, fresh, nothing, opened, packet, with_packet}
use Rattle.extended.specs.declared.class.Class.TheVariants as class
use Rattle.receiver.specs.Receiver as receiver

abbrev sent : ℕ → ℕ → Pair
sent a b = pair (with_parity a) (with_parity b)

-- letters, two to a pair
abbrev pub letters : List ℕ → List Pair
letters [] = []
letters (a ∷ []) = sent a 0x00 ∷ []
letters (a ∷ b ∷ rest) = sent a b ∷ letters rest

abbrev none : Outcome Report
none = answer nothing

abbrev roll_up : Pair
roll_up = sent 0x15 0x25

abbrev rolls : Outcome Report
rolls = answer (event (cea608.NewMode channel_one RollUp2))

abbrev hi : Pair
hi = sent 0x48 0x69

abbrev says_hi : Outcome Report
says_hi = answer (event (cea608.Text (record { needs_backspace = false; char1 = Some 0x48; char2 = Some 0x69; channel = channel_one })))

-- the programme's title: current class, type 03; and the network's name: channel information, type 01
abbrev title : Pair
title = sent 0x01 0x03

abbrev title_goes_on : Pair
title_goes_on = sent 0x02 0x03

abbrev network : Pair
network = sent 0x05 0x01

abbrev end : ℕ → Pair
end sum = sent 0x0F sum

abbrev titled : List ℕ → Outcome Report
titled contents = answer (packet class.Current 0x03 contents)

abbrev network_named : List ℕ → Outcome Report
network_named contents = answer (packet class.ChannelInformation 0x01 contents)

pub record Case : Type 0 where
  pub from : Reader
  pub pairs : List Pair
  pub gives : List (Outcome Report)

abbrev case : List Pair → List (Outcome Report) → Case
case ps os = record { from = fresh; pairs = ps; gives = os }

-- a title of thirty bytes is open
abbrev a_title : List Pair → List (Outcome Report) → Case
a_title ps os = record {
  from = opened (with_packet fresh class.Current (Some (record { packet_type = 0x03; contents = replicate 30 0x61 }))) receiver.fresh class.Current;
  pairs = ps;
  gives = os;
}

abbrev aa : Pair
aa = sent 0x61 0x61

-- the news in two parts around a caption: only the caption is shown
abbrev news : Case
news =
    case (title ∷ letters (points "Ne") ++ (roll_up ∷ roll_up ∷ hi ∷ title_goes_on ∷ letters (points "ws") ++ (end 0x50 ∷ [])))
    (none ∷ none ∷ rolls ∷ none ∷ says_hi ∷ none ∷ none ∷ titled (points "News") ∷ [])

-- after an end captions do not run, until a command
abbrev after_an_end : Case
after_an_end =
    case (roll_up ∷ title ∷ hi ∷ end 0x3C ∷ hi ∷ roll_up ∷ hi ∷ [])
    (rolls ∷ none ∷ none ∷ titled (points "Hi") ∷ none ∷ rolls ∷ says_hi ∷ [])

-- a refused continuation and a refused end do not stop the captions
abbrev captions_go_on : Case
captions_go_on =
    case (roll_up ∷ title_goes_on ∷ hi ∷ end 0x00 ∷ hi ∷ []) (rolls ∷ refused 13 ∷ says_hi ∷ refused 13 ∷ says_hi ∷ [])

-- a wrong sum drops the packet
abbrev wrong_sum : Case
wrong_sum = case (title ∷ hi ∷ end 0x3D ∷ end 0x3C ∷ []) (none ∷ none ∷ refused 15 ∷ refused 13 ∷ [])

-- 32 content bytes are a packet
abbrev whole : Case
whole = a_title (aa ∷ end 0x4D ∷ []) (none ∷ titled (replicate 32 0x61) ∷ [])

-- 33 are not, nor are 31 and a pair of two: the packet is dropped, what still comes is passed over, and there is none to end
abbrev too_long : Case
too_long = a_title (aa ∷ sent 0x61 0x00 ∷ aa ∷ end 0x4D ∷ []) (none ∷ refused 14 ∷ none ∷ refused 13 ∷ [])

abbrev too_long_by_one : Case
too_long_by_one = a_title (sent 0x61 0x00 ∷ aa ∷ aa ∷ []) (none ∷ refused 14 ∷ none ∷ [])

-- a packet that was interrupted by a command has no end, until it goes on
abbrev by_a_command : Case
by_a_command =
    case (title ∷ hi ∷ roll_up ∷ end 0x3C ∷ title_goes_on ∷ end 0x3C ∷ [])
    (none ∷ none ∷ rolls ∷ refused 13 ∷ none ∷ titled (points "Hi") ∷ [])

-- another class interrupts: the end is the other's, a second end is nobody's, and then the first goes on
abbrev by_another_class : Case
by_another_class =
    case (title ∷ hi ∷ network ∷ end 0x6B ∷ end 0x3C ∷ title_goes_on ∷ end 0x3C ∷ [])
    (none ∷ none ∷ none ∷ network_named [] ∷ refused 13 ∷ none ∷ titled (points "Hi") ∷ [])

-- a new start replaces the packet
abbrev new_start : Case
new_start = case (title ∷ hi ∷ title ∷ end 0x6D ∷ []) (none ∷ none ∷ none ∷ titled [] ∷ [])

-- filler is not among the contents, alone or beside a byte
abbrev fillers : Case
fillers =
    case (title ∷ sent 0x00 0x00 ∷ sent 0x48 0x00 ∷ sent 0x00 0x69 ∷ end 0x3C ∷ [])
    (none ∷ none ∷ none ∷ none ∷ titled (points "Hi") ∷ [])

-- a command, a packet's pair and the same command are two events: a start, contents, a continuation, an end
abbrev command_again : Case
command_again =
    case (roll_up ∷ title ∷ roll_up ∷ title_goes_on ∷ roll_up ∷ title_goes_on ∷ hi ∷ roll_up ∷ title_goes_on ∷ end 0x3C ∷ roll_up ∷ [])
    (rolls ∷ none ∷ rolls ∷ none ∷ rolls ∷ none ∷ none ∷ rolls ∷ none ∷ titled (points "Hi") ∷ rolls ∷ [])

-- a continuation of another type is refused, and the packet stays open
abbrev another_type : Case
another_type = case (title ∷ sent 0x02 0x04 ∷ hi ∷ end 0x3C ∷ []) (none ∷ refused 13 ∷ none ∷ titled (points "Hi") ∷ [])

-- a type that is a letter is not shown where captions run
abbrev type_is_a_letter : Case
type_is_a_letter = case (roll_up ∷ sent 0x01 0x41 ∷ roll_up ∷ hi ∷ []) (rolls ∷ none ∷ rolls ∷ says_hi ∷ [])

-- A packet was dropped by 14 while a command interrupts the rest of it. Its continuation is refused 13, so captions run on, and
-- what its sender meant as contents is text: 02 has a refused continuation stop no captions.
abbrev rest_of_a_dropped_packet : Case
rest_of_a_dropped_packet =
    a_title (aa ∷ aa ∷ roll_up ∷ title_goes_on ∷ hi ∷ []) (none ∷ refused 14 ∷ rolls ∷ refused 13 ∷ says_hi ∷ [])

-- a continuation of the packet that is open changes nothing
abbrev continued_while_open : Case
continued_while_open = case (title ∷ title_goes_on ∷ hi ∷ end 0x3C ∷ []) (none ∷ none ∷ none ∷ titled (points "Hi") ∷ [])

-- A refused continuation in another class's packet does not interrupt it: what follows is that packet's contents, and the end is
-- its end, with a wrong sum.
abbrev in_another_packet : Case
in_another_packet =
    case (network ∷ sent 0x41 0x00 ∷ title_goes_on ∷ sent 0x42 0x00 ∷ end 0x3C ∷ [])
    (none ∷ none ∷ refused 13 ∷ none ∷ refused 15 ∷ [])

-- a command, a refused continuation and the same command are one event
abbrev one_event : Case
one_event = case (roll_up ∷ title_goes_on ∷ roll_up ∷ []) (rolls ∷ refused 13 ∷ none ∷ [])

abbrev pub cases : List Case
cases =
    news ∷ after_an_end ∷ captions_go_on ∷ wrong_sum ∷ whole ∷ too_long ∷ too_long_by_one ∷ by_a_command ∷ by_another_class ∷ new_start ∷ fillers ∷ command_again
    ∷ another_type ∷ type_is_a_letter ∷ rest_of_a_dropped_packet ∷ continued_while_open ∷ in_another_packet ∷ one_event ∷ []
