-- 01's worked case of the listing; what it leaves out, so that each kind of line stands here on both channels; the limit of
-- pairs; and a number of ten digits. antt computes them from the definition. Where a kind of line has two numbers, they differ
-- in one of its lines, so no two could be exchanged unnoticed.
-- Assumes nothing.
use mathlib.Core.List.{List, [], ◌∷◌, ◌++◌}
use mathlib.Core.Path.{◌≡◌, refl}
use Prim.Native.Nat.{ℕ}
use Prim.Native.String.{String}
use lib.Count.{ones, ones_in}
use Rattle.code.specs.Characters.{points, standard, symbols}
use Rattle.code.specs.Read.{control_code_of, meaning, read_pair}
use Rattle.lines.specs.Listing.{list_from, listing}
use Rattle.receiver.specs.Receiver.{fresh, step}
use Rattle.receiver.specs.Heard.{event_of, text_event}
use Rattle.event.specs.Mode.{mode_of}
use Rattle.code.specs.Code.{char_of}
use Rattle.lines.specs.Words.{decimal}

abbrev input : List ℕ
input =
    0x94 ∷ 0x25 ∷ 0x94 ∷ 0x25 ∷ 0x94 ∷ 0xAD ∷ 0x94 ∷ 0xAD ∷ 0x94 ∷ 0x70 ∷ 0xC8 ∷ 0xE9 ∷ 0x48 ∷ 0xE9 ∷ 0x80 ∷ 0x80
    ∷ 0x91 ∷ 0x37 ∷ 0x92 ∷ 0x20 ∷ 0x9D ∷ 0x20 ∷ 0xC1 ∷ []

abbrev ended : List String → List ℕ
ended [] = []
ended (l ∷ ls) = points l ++ (0x0A ∷ ended ls)

abbrev text : List ℕ
text =
    ended
    ("0 mode 1 roll2" ∷ "2 return 1" ∷ "4 row 1 14 8 0" ∷ "5 text 1 0 0048 0069" ∷ "6 refused 1" ∷ "8 text 1 0 266A -"
    ∷ "9 text 1 1 00C1 -" ∷ "10 mode 2 pop" ∷ "11 refused 9" ∷ "pairs 11 refused 2" ∷ [])

pub worked_case : listing input ≡ text
unfolding listing decimal ones ones_in standard symbols read_pair step event_of text_event mode_of char_of meaning control_code_of
worked_case = refl

-- a pair, and the line that it makes
pub record Makes : Type 0 where
  pub first : ℕ
  pub second : ℕ
  pub line : String

abbrev makes : ℕ → ℕ → String → Makes
makes a b l = record { first = a; second = b; line = l }

abbrev bytes_of : List Makes → List ℕ
bytes_of [] = []
bytes_of (m ∷ ms) = m.first ∷ m.second ∷ bytes_of ms

abbrev lines_of : List Makes → List String
lines_of [] = []
lines_of (m ∷ ms) = m.line ∷ lines_of ms

-- what the worked case leaves out: the other modes; the commands; tabs; row 5 in cyan, underlined; red, and italics
-- underlined, within a row; a character in second place only, and one that replaces the character before it
abbrev other_kinds : List Makes
other_kinds =
    makes 0x94 0x29 "1 mode 1 paint" ∷ makes 0x94 0x26 "2 mode 1 roll3" ∷ makes 0x1C 0xA7 "3 mode 2 roll4"
    ∷ makes 0x94 0x2C "4 erase 1" ∷ makes 0x1C 0x2C "5 erase 2" ∷ makes 0x94 0xAE "6 erasehidden 1"
    ∷ makes 0x1C 0xAE "7 erasehidden 2" ∷ makes 0x1C 0xAD "8 return 2" ∷ makes 0x94 0xA1 "9 back 1"
    ∷ makes 0x1C 0xA1 "10 back 2" ∷ makes 0x94 0x2F "11 end 1" ∷ makes 0x1C 0x2F "12 end 2" ∷ makes 0x97 0xA2 "13 tab 1 2"
    ∷ makes 0x1F 0x23 "14 tab 2 3" ∷ makes 0x94 0xA4 "15 delete 1" ∷ makes 0x1C 0xA4 "16 delete 2"
    ∷ makes 0x9D 0x67 "17 row 2 5 3 1" ∷ makes 0x91 0xA8 "18 mid 1 4 0" ∷ makes 0x19 0x2F "19 mid 2 7 1"
    ∷ makes 0x80 0xE9 "20 text 2 0 - 0069" ∷ makes 0x9B 0xBF "21 text 2 1 2518 -" ∷ []

-- text before any command, Hi, makes no line
pub the_other_kinds : listing (0xC8 ∷ 0xE9 ∷ bytes_of other_kinds) ≡ ended (lines_of other_kinds ++ ("pairs 22 refused 0" ∷ []))
unfolding listing decimal ones ones_in standard symbols read_pair step event_of text_event mode_of char_of meaning control_code_of
the_other_kinds = refl

-- the last pair within the limit, an erase, and these bytes after it; three pairs before it were refused
abbrev last_pair_then : List ℕ → List ℕ
last_pair_then more = list_from fresh 16777215 3 (0x94 ∷ 0x2C ∷ more)

abbrev refused_10 : List ℕ
refused_10 = ended ("16777215 erase 1" ∷ "16777216 refused 10" ∷ "pairs 16777216 refused 4" ∷ [])

-- after it nothing, half a pair, and more than a pair
pub at_the_limit : (last_pair_then [] ≡ ended ("16777215 erase 1" ∷ "pairs 16777216 refused 3" ∷ [])) × (last_pair_then (0x1C ∷ []) ≡ refused_10) × (last_pair_then (0x1C ∷ 0x2C ∷ 0x1C ∷ []) ≡ refused_10)
unfolding decimal ones ones_in standard symbols read_pair step event_of text_event mode_of char_of meaning control_code_of
at_the_limit = (refl, refl, refl)

pub all_ten_digits : decimal 1234567890 ≡ points "1234567890"
unfolding decimal
all_ten_digits = refl
