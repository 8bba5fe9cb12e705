-- The words of the listing and its lines, from 01's section "The listing". A line begins with the number of its pair.
use Rattle.std.specs.Prelude.{ℕ, ◌+◌, ◌/◌, ◌%◌, Bool, true, false, cond, List, [], ◌∷◌, ◌++◌, leb, ltb, Option, None, Some}
use Rattle.code.specs.Channel.{channel_id}
use Rattle.code.specs.Characters.{points}
use Rattle.code.specs.MidRow.{is_underlined, mid_row_number}
use Rattle.code.specs.Outcome.{Outcome, answer, refused}
use Rattle.code.specs.Preamble.{style_of}
use Rattle.code.specs.declared.channel.Channel.{Channel}
use Rattle.event.specs.declared.event.Cea608.{Cea608}
use Rattle.event.specs.declared.event.Cea608.TheVariants as event
use Rattle.event.specs.declared.mode.Mode.{Mode}
use Rattle.event.specs.declared.mode.Mode.TheVariants as mode

-- a number has a digit at each place of ten that it reaches, and one at the last
abbrev pub at_place : ℕ → ℕ → List ℕ
at_place p n = cond (leb p n) ((0x30 + n / p % 10) ∷ []) []

abbrev pub at_places : List ℕ → ℕ → List ℕ
at_places [] n = (0x30 + n % 10) ∷ []
at_places (p ∷ ps) n = at_place p n ++ at_places ps n

-- up to ten digits, which is every number of 32 bits
unfoldable pub decimal : ℕ → List ℕ
decimal n =
    at_places (1000000000 ∷ 100000000 ∷ 10000000 ∷ 1000000 ∷ 100000 ∷ 10000 ∷ 1000 ∷ 100 ∷ 10 ∷ []) n

-- the same of a number below ten thousand
abbrev pub up_to_four : ℕ → List ℕ
up_to_four n = at_places (1000 ∷ 100 ∷ 10 ∷ []) n

-- the last four digits of any number
abbrev pub low_four : ℕ → List ℕ
low_four n = (0x30 + n / 1000 % 10) ∷ (0x30 + n / 100 % 10) ∷ (0x30 + n / 10 % 10) ∷ (0x30 + n % 10) ∷ []

-- four hex digits with capitals; no code has a character above FFFF
abbrev pub hex_digit : ℕ → ℕ
hex_digit d = cond (ltb d 10) (0x30 + d) (0x37 + d)

abbrev pub hex : ℕ → List ℕ
hex n = hex_digit (n / 4096 % 16) ∷ hex_digit (n / 256 % 16) ∷ hex_digit (n / 16 % 16) ∷ hex_digit (n % 16) ∷ []

abbrev pub flag_digit : Bool → ℕ
flag_digit true = 0x31
flag_digit false = 0x30

-- C is 1 or 2
abbrev pub channel_digit : Channel → ℕ
channel_digit ch = 0x30 + channel_id ch

abbrev pub character_word : Option ℕ → List ℕ
character_word None = points "-"
character_word (Some c) = hex c

abbrev pub mode_word : Mode → List ℕ
mode_word mode.PopOn = points "pop"
mode_word mode.PaintOn = points "paint"
mode_word mode.RollUp2 = points "roll2"
mode_word mode.RollUp3 = points "roll3"
mode_word mode.RollUp4 = points "roll4"

abbrev space : ℕ
space = 0x20

-- a word with its space, and the channel that it is for
abbrev pub word_for : List ℕ → Channel → List ℕ
word_for word ch = word ++ (channel_digit ch ∷ [])

abbrev pub event_words : Cea608 → List ℕ
event_words (event.Text t) =
    word_for (points "text ") t.channel ++ (space ∷ flag_digit t.needs_backspace ∷ space ∷ (character_word t.char1 ++ (space ∷ character_word t.char2)))
event_words (event.NewMode ch m) = word_for (points "mode ") ch ++ (space ∷ mode_word m)
event_words (event.EraseDisplay ch) = word_for (points "erase ") ch
event_words (event.EraseNonDisplay ch) = word_for (points "erasehidden ") ch
event_words (event.CarriageReturn ch) = word_for (points "return ") ch
event_words (event.Backspace ch) = word_for (points "back ") ch
event_words (event.EndOfCaption ch) = word_for (points "end ") ch
event_words (event.TabOffset ch n) = word_for (points "tab ") ch ++ (space ∷ decimal n)
event_words (event.DeleteToEndOfRow ch) = word_for (points "delete ") ch
event_words (event.Preamble ch p) =
    word_for (points "row ") ch ++ (space ∷ (decimal p.row ++ (space ∷ (decimal (style_of p.ty) ++ (space ∷ flag_digit p.underline ∷ [])))))
event_words (event.MidRowChange ch m) =
    word_for (points "mid ") ch ++ (space ∷ (decimal (mid_row_number m) ++ (space ∷ flag_digit (is_underlined m) ∷ [])))

abbrev pub refused_words : ℕ → List ℕ
refused_words n = points "refused " ++ decimal n

-- a line: the number of the pair, its words, and the end of the line
abbrev pub line : ℕ → List ℕ → List ℕ
line k words = decimal k ++ (space ∷ (words ++ (0x0A ∷ [])))

-- the line of what a pair gave, if it gave anything
abbrev pub line_of : ℕ → Outcome (Option Cea608) → List ℕ
line_of k (answer None) = []
line_of k (answer (Some e)) = line k (event_words e)
line_of k (refused n) = line k (refused_words n)

-- the last line: whole pairs read, and all lines that say refused
abbrev pub last_line : ℕ → ℕ → List ℕ
last_line p q = points "pairs " ++ (decimal p ++ (points " refused " ++ (decimal q ++ (0x0A ∷ []))))
