-- The characters: the standard and special ones from 47 CFR 79.101 (g), the extended ones from CTA-608 as 01 lists
-- them. The code points are 01's, which follows the crate. Some look alike: 27 is ’ U+2019, 12 26 ‘ U+2018,
-- 12 29 ' U+0027, 12 2A — U+2014, 13 2E | U+007C, 13 37 │ U+2502.
use Rattle.std.specs.Prelude.{None, Some, ℕ, Bool, false, List, [], ◌∷◌, ◌++◌, map, eqb, Option}
use Prim.Native.Char.{code}
use Prim.Native.String as text
use Prim.Native.String.{String}
use Rattle.code.specs.Position.{first_place}

-- the code points of a text
abbrev pub points : String → List ℕ
points text.[] = []
points (text.◌∷◌ c s) = code c ∷ points s

-- places that each have a character
abbrev pub characters : String → List (Option ℕ)
characters s = map Some (points s)

-- the standard characters, from 0x20 to 0x7F
unfoldable pub standard : List (Option ℕ)
standard =
    characters " !\"#$%&’()á+,-./" ++ characters "0123456789:;<=>?" ++ characters "@ABCDEFGHIJKLMNO" ++ characters "PQRSTUVWXYZ[é]íó"
    ++ characters "úabcdefghijklmno" ++ characters "pqrstuvwxyzç÷Ññ█"

-- the special characters, from 11 30; the transparent space has none
abbrev pub special : List (Option ℕ)
special = characters "®°½¿™¢£♪à" ++ (None ∷ characters "èâêîôû")

-- the extended characters, from 12 20, 12 30, 13 20 and 13 30
abbrev pub spanish : List (Option ℕ)
spanish = characters "ÁÉÓÚÜü‘¡*'—©℠•“”"

abbrev pub french : List (Option ℕ)
french = characters "ÀÂÇÈÊËëÎÏïÔÙùÛ«»"

abbrev pub portuguese : List (Option ℕ)
portuguese = characters "ÃãÍÌìÒòÕõ{}\\^_|~"

abbrev pub german : List (Option ℕ)
german = characters "ÄäÖöß¥¤│ÅåØø┌┐└┘"

unfoldable pub symbols : List (Option ℕ)
symbols = special ++ spanish ++ french ++ portuguese ++ german

-- the first place that has a character
abbrev pub is_point : ℕ → Option ℕ → Bool
is_point c (Some d) = eqb c d
is_point c None = false

abbrev pub place_of : ℕ → List (Option ℕ) → Option ℕ
place_of c l = first_place (is_point c) l
