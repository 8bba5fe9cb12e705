-- The lines of `packets`, in the manner of the listing (docs/LISTING.md): the port's own words. A line begins with the number
-- of its pair, which for a packet is the one with its end.
use Rattle.std.specs.Prelude.{ℕ, ◌+◌, ◌/◌, ◌%◌, cond, List, [], ◌∷◌, ◌++◌}
use Rattle.code.specs.Characters.{points}
use Rattle.code.specs.Outcome.{Outcome, answer, refused}
use Rattle.code.specs.Range.{within}
use Rattle.extended.specs.Class.{class_number}
use Rattle.extended.specs.Extended.{Report, event, nothing, packet}
use Rattle.extended.specs.declared.class.Class.{Class}
use Rattle.lines.specs.Words.{decimal, hex_digit, line, refused_words}

-- CLASS is 1 to 7
abbrev pub class_digit : Class → ℕ
class_digit c = 0x30 + class_number c

-- TYPE is two capital hex digits, and so is each byte of HEX
abbrev pub hex_byte : ℕ → List ℕ
hex_byte b = hex_digit (b / 16 % 16) ∷ hex_digit (b % 16) ∷ []

abbrev pub hex_bytes : List ℕ → List ℕ
hex_bytes [] = []
hex_bytes (b ∷ bs) = hex_byte b ++ hex_bytes bs

-- TEXT is the same bytes as characters, with a point for what is not 20 to 7E
abbrev pub character : ℕ → ℕ
character b = cond (within 0x20 0x7E b) b 0x2E

abbrev pub characters : List ℕ → List ℕ
characters [] = []
characters (b ∷ bs) = character b ∷ characters bs

-- HEX "TEXT"
abbrev pub contents_words : List ℕ → List ℕ
contents_words bs = hex_bytes bs ++ (points " \"" ++ (characters bs ++ points "\""))

-- packet CLASS TYPE HEX "TEXT"
abbrev pub packet_data : Class → ℕ → List ℕ → List ℕ
packet_data c t bs = class_digit c ∷ (points " " ++ (hex_byte t ++ (points " " ++ contents_words bs)))

abbrev pub packet_words : Class → ℕ → List ℕ → List ℕ
packet_words c t bs = points "packet " ++ packet_data c t bs

-- the line of what a pair gave, if it is a packet or a refusal
abbrev pub line_of : ℕ → Outcome Report → List ℕ
line_of k (answer nothing) = []
line_of k (answer (event e)) = []
line_of k (answer (packet c t bs)) = line k (packet_words c t bs)
line_of k (refused n) = line k (refused_words n)

-- the last line: whole pairs read, packets, and all lines that say refused
abbrev pub last_line : ℕ → ℕ → ℕ → List ℕ
last_line p k q =
    points "pairs " ++ (decimal p ++ (points " packets " ++ (decimal k ++ (points " refused " ++ (decimal q ++ (0x0A ∷ []))))))
