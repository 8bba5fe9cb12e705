-- What is known of codes by their bytes and numbers, beside the names in `NamedCodes` and the pairs that `KnownPairs` of
-- `event` has. It holds the definitions to the texts: the standard characters to ASCII, and at eleven bytes to 01; the symbols
-- to the code points that the crate decides; the indents to 47 CFR 79.101 (h). proofs/KnownCodes.antt holds the definitions
-- against these, and the refusal numbers against 01's.
use Rattle.std.specs.Prelude.{None, Option, Some, ℕ, zero, suc, Bool, false, ◌||◌, List, [], ◌∷◌, ◌++◌, map, eqb}
use Rattle.code.specs.Code.{char_of}
use Rattle.code.specs.Pair.{pair, plus}
use Rattle.code.specs.Read.{control_code_of, single}
use Rattle.code.specs.declared.code.Code.{Code}
use Rattle.code.specs.declared.code.Code.TheVariants as code
use Rattle.code.specs.declared.pair.Pair.{Pair}
use Rattle.code.specs.declared.preamble.PreambleType.{PreambleType}
use Rattle.code.specs.declared.preamble.PreambleType.TheVariants.{Indent0, Indent4, Indent8, Indent12, Indent16, Indent20, Indent24, Indent28}

-- the standard characters are ASCII but at eleven bytes
pub record Instead : Type 0 where
  pub byte : ℕ
  pub point : ℕ

abbrev instead : ℕ → ℕ → Instead
instead b c = record { byte = b; point = c }

-- ’ á é í ó ú ç ÷ Ñ ñ and the solid block
abbrev pub not_ascii : List Instead
not_ascii =
    instead 0x27 0x2019 ∷ instead 0x2A 0xE1 ∷ instead 0x5C 0xE9 ∷ instead 0x5E 0xED ∷ instead 0x5F 0xF3 ∷ instead 0x60 0xFA
    ∷ instead 0x7B 0xE7 ∷ instead 0x7C 0xF7 ∷ instead 0x7D 0xD1 ∷ instead 0x7E 0xF1 ∷ instead 0x7F 0x2588 ∷ []

abbrev is_among : ℕ → List Instead → Bool
is_among b [] = false
is_among b (x ∷ xs) = eqb b x.byte || is_among b xs

abbrev pub is_not_ascii : ℕ → Bool
is_not_ascii b = is_among b not_ascii

-- the symbols: sixteen characters by the pair of the first, and the second byte rises by one
pub record Sixteen : Type 0 where
  pub first : Pair
  pub characters : List (Option ℕ)

abbrev sixteen : ℕ → ℕ → List (Option ℕ) → Sixteen
sixteen a b cs = record { first = pair a b; characters = cs }

abbrev points : List ℕ → List (Option ℕ)
points cs = map Some cs

-- 11 30 to 11 3F: ® ° ½ ¿ ™ ¢ £ ♪ à, none at 11 39, è â ê î ô û
abbrev special : Sixteen
special =
    sixteen 0x11 0x30
    (points (0xAE ∷ 0xB0 ∷ 0xBD ∷ 0xBF ∷ 0x2122 ∷ 0xA2 ∷ 0xA3 ∷ 0x266A ∷ 0xE0 ∷ []) ++ (None ∷ points (0xE8 ∷ 0xE2 ∷ 0xEA ∷ 0xEE ∷ 0xF4 ∷ 0xFB ∷ [])))

-- 12 20 to 12 2F: Á É Ó Ú Ü ü ‘ ¡ * ' — © ℠ • “ ”
abbrev spanish : Sixteen
spanish =
    sixteen 0x12 0x20
    (points (0xC1 ∷ 0xC9 ∷ 0xD3 ∷ 0xDA ∷ 0xDC ∷ 0xFC ∷ 0x2018 ∷ 0xA1 ∷ 0x2A ∷ 0x27 ∷ 0x2014 ∷ 0xA9 ∷ 0x2120 ∷ 0x2022 ∷ 0x201C ∷ 0x201D ∷ []))

-- 12 30 to 12 3F: À Â Ç È Ê Ë ë Î Ï ï Ô Ù ù Û « »
abbrev french : Sixteen
french =
    sixteen 0x12 0x30
    (points (0xC0 ∷ 0xC2 ∷ 0xC7 ∷ 0xC8 ∷ 0xCA ∷ 0xCB ∷ 0xEB ∷ 0xCE ∷ 0xCF ∷ 0xEF ∷ 0xD4 ∷ 0xD9 ∷ 0xF9 ∷ 0xDB ∷ 0xAB ∷ 0xBB ∷ []))

-- 13 20 to 13 2F: Ã ã Í Ì ì Ò ò Õ õ { } \ ^ _ | ~
abbrev portuguese : Sixteen
portuguese =
    sixteen 0x13 0x20
    (points (0xC3 ∷ 0xE3 ∷ 0xCD ∷ 0xCC ∷ 0xEC ∷ 0xD2 ∷ 0xF2 ∷ 0xD5 ∷ 0xF5 ∷ 0x7B ∷ 0x7D ∷ 0x5C ∷ 0x5E ∷ 0x5F ∷ 0x7C ∷ 0x7E ∷ []))

-- 13 30 to 13 3F: Ä ä Ö ö ß ¥ ¤ │ Å å Ø ø ┌ ┐ └ ┘
abbrev german : Sixteen
german =
    sixteen 0x13 0x30
    (points (0xC4 ∷ 0xE4 ∷ 0xD6 ∷ 0xF6 ∷ 0xDF ∷ 0xA5 ∷ 0xA4 ∷ 0x2502 ∷ 0xC5 ∷ 0xE5 ∷ 0xD8 ∷ 0xF8 ∷ 0x250C ∷ 0x2510 ∷ 0x2514 ∷ 0x2518 ∷ []))

abbrev pub known_symbols : List Sixteen
known_symbols = special ∷ spanish ∷ french ∷ portuguese ∷ german ∷ []

-- the characters of n commands, from two stripped bytes on
abbrev pub characters_from : Pair → ℕ → List (Option ℕ)
characters_from p zero = []
characters_from p (suc n) = char_of (code.Control (control_code_of p.0 p.1)) ∷ characters_from (plus p 1) n

-- the indents, each with its column
abbrev pub indent_columns : List ℕ
indent_columns = 0 ∷ 4 ∷ 8 ∷ 12 ∷ 16 ∷ 20 ∷ 24 ∷ 28 ∷ []

abbrev pub indents : List PreambleType
indents = Indent0 ∷ Indent4 ∷ Indent8 ∷ Indent12 ∷ Indent16 ∷ Indent20 ∷ Indent24 ∷ Indent28 ∷ []

-- letters that cases of the crates above are about
abbrev pub letter_a : Code
letter_a = single 0x41

abbrev pub letter_h : Code
letter_h = single 0x48

abbrev pub letter_i : Code
letter_i = single 0x69
