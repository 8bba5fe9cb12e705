-- A programme title in two parts around a caption, then every kind of line; and the limit of pairs. antt computes them from
-- the definition.
-- Assumes nothing.
use Prim.Native.Nat.{ℕ}
use Prim.Native.String.{String}
use lib.Count.{ones, ones_in}
use mathlib.Core.List.{List, [], ◌∷◌, ◌++◌}
use mathlib.Core.Path.{◌≡◌, refl}
use Rattle.code.specs.Characters.{points, standard, symbols}
use Rattle.code.specs.Code.{char_of}
use Rattle.code.specs.Read.{control_code_of, meaning, read_pair}
use Rattle.event.specs.Mode.{mode_of}
use Rattle.extended.specs.Extended.{fresh, read}
use Rattle.extended.specs.Part.{part_of}
use Rattle.lines.specs.Words.{decimal}
use Rattle.packet_lines.specs.Packets.{packet_lines, packets_from}
use Rattle.receiver.specs.Heard.{event_of, text_event}
use Rattle.receiver.specs.Receiver as receiver

abbrev ended : List String → List ℕ
ended [] = []
ended (l ∷ ls) = points l ++ (0x0A ∷ ended ls)

-- the current programme's title, The; resume caption loading on field two, and Hi; the rest of the title, News, and its end
abbrev title : List ℕ
title =
    0x01 ∷ 0x83 ∷ 0x54 ∷ 0x68 ∷ 0xE5 ∷ 0x20 ∷ 0x15 ∷ 0x20 ∷ 0xC8 ∷ 0xE9 ∷ 0x02 ∷ 0x83 ∷ 0xCE ∷ 0xE5 ∷ 0xF7 ∷ 0x73 ∷ 0x8F
    ∷ 0x8F ∷ []

-- a continuation of the packet that has ended; a corrupted pair
abbrev refused_pairs : List ℕ
refused_pairs = 0x02 ∷ 0x83 ∷ 0x48 ∷ 0xE9 ∷ []

-- of class 3 the contents 7F 07 7E 20; of class 4 none; of class 2 a wrong sum
abbrev others : List ℕ
others =
    0x85 ∷ 0x01 ∷ 0x7F ∷ 0x07 ∷ 0xFE ∷ 0x20 ∷ 0x8F ∷ 0xC7 ∷ 0x07 ∷ 0xC1 ∷ 0x8F ∷ 0x29 ∷ 0x83 ∷ 0x1F ∷ 0x57 ∷ 0xF2 ∷ 0xEF
    ∷ 0x6E ∷ 0x67 ∷ 0x20 ∷ 0x8F ∷ 0x23 ∷ []

-- of class 7 a packet that is too long by one byte; half a pair
abbrev too_long : List ℕ
too_long =
    0x0D ∷ 0x40 ∷ 0xC1 ∷ 0xC2 ∷ 0xC1 ∷ 0xC2 ∷ 0xC1 ∷ 0xC2 ∷ 0xC1 ∷ 0xC2 ∷ 0xC1 ∷ 0xC2 ∷ 0xC1 ∷ 0xC2 ∷ 0xC1 ∷ 0xC2 ∷ 0xC1
    ∷ 0xC2 ∷ 0xC1 ∷ 0xC2 ∷ 0xC1 ∷ 0xC2 ∷ 0xC1 ∷ 0xC2 ∷ 0xC1 ∷ 0xC2 ∷ 0xC1 ∷ 0xC2 ∷ 0xC1 ∷ 0xC2 ∷ 0xC1 ∷ 0xC2 ∷ 0xC1 ∷ 0xC2
    ∷ 0x43 ∷ 0x80 ∷ 0xC1 ∷ []

pub worked_case : packet_lines (title ++ refused_pairs ++ others ++ too_long) ≡ ended ("8 packet 1 03 546865204E657773 \"The News\"" ∷ "9 refused 13" ∷ "10 refused 1" ∷ "14 packet 3 01 7F077E20 \"..~ \"" ∷ "16 packet 4 41  \"\"" ∷ "21 refused 15" ∷ "39 refused 14" ∷ "40 refused 9" ∷ "pairs 40 packets 3 refused 5" ∷ [])
unfolding packet_lines decimal ones ones_in standard symbols read_pair read receiver.step part_of event_of text_event mode_of char_of meaning control_code_of
worked_case = refl

-- the last pair within the limit, an end that is refused, and then these bytes
abbrev last_pair_then : List ℕ → List ℕ
last_pair_then more = packets_from fresh 16777215 2 3 (0x8F ∷ 0x8F ∷ more)

abbrev refused_10 : List ℕ
refused_10 = ended ("16777215 refused 13" ∷ "16777216 refused 10" ∷ "pairs 16777216 packets 2 refused 5" ∷ [])

-- after it nothing, half a pair, and more than a pair
pub at_the_limit : (last_pair_then [] ≡ ended ("16777215 refused 13" ∷ "pairs 16777216 packets 2 refused 4" ∷ [])) × (last_pair_then (0x01 ∷ []) ≡ refused_10) × (last_pair_then (0x01 ∷ 0x83 ∷ 0x01 ∷ []) ≡ refused_10)
unfolding decimal ones ones_in standard symbols read_pair read receiver.step part_of event_of text_event mode_of char_of meaning control_code_of
at_the_limit = (refl, refl, refl)
