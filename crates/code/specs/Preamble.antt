-- Preamble address codes, from 47 CFR 79.101 (d) and (h): fifteen rows, and sixteen styles with and without an
-- underline. That rows are counted from 0, and refusals 3 and 8, are 01's.
use Rattle.std.specs.Prelude.{Result, ℕ, ◌+◌, ◌-◌, ◌/◌, ◌%◌, Bool, true, false, cond, ◌&&◌, List, [], ◌∷◌, eqb, leb, ltb, get_or, Option, None, Some}
use Rattle.std.specs.Option.{unwrap_or}
use Rattle.code.specs.declared.preamble.NoSuchIndent.{NoSuchIndent}
use Rattle.code.specs.declared.preamble.NoSuchRow.{NoSuchRow}
use Rattle.code.specs.Color.{color_at, color_number}
use Rattle.code.specs.Outcome.{Outcome, answer, outcome, refused}
use Rattle.code.specs.Pair.{pair}
use Rattle.code.specs.declared.color.Color.{Color}
use Rattle.code.specs.declared.color.Color.TheVariants.{White}
use Rattle.code.specs.declared.pair.Pair.{Pair}
use Rattle.code.specs.declared.preamble.PreambleAddressCode.{PreambleAddressCode}
use Rattle.code.specs.declared.preamble.PreambleType.{PreambleType}
use Rattle.code.specs.declared.preamble.PreambleType.TheVariants.{Color as Colored, WhiteItalics, Indent0, Indent4, Indent8, Indent12, Indent16, Indent20, Indent24, Indent28}

-- the pair of each row's white preamble, rows 0 to 14; the style and the underline are added to its second byte
abbrev pub row_prefixes : List Pair
row_prefixes =
    pair 0x11 0x40 ∷ pair 0x11 0x60 ∷ pair 0x12 0x40 ∷ pair 0x12 0x60 ∷ pair 0x15 0x40 ∷ pair 0x15 0x60 ∷ pair 0x16 0x40
    ∷ pair 0x16 0x60 ∷ pair 0x17 0x40 ∷ pair 0x17 0x60 ∷ pair 0x10 0x40 ∷ pair 0x13 0x40 ∷ pair 0x13 0x60 ∷ pair 0x14 0x40
    ∷ pair 0x14 0x60 ∷ []

-- a row above 14 is refused (3) before it is written, so that what stands for it here does not matter
abbrev pub row_prefix : ℕ → Pair
row_prefix row = get_or row_prefixes row (pair 0 0)

-- the styles that are no colour
abbrev pub plain_styles : List PreambleType
plain_styles = WhiteItalics ∷ Indent0 ∷ Indent4 ∷ Indent8 ∷ Indent12 ∷ Indent16 ∷ Indent20 ∷ Indent24 ∷ Indent28 ∷ []

abbrev pub plain_style_at : ℕ → PreambleType
plain_style_at n = get_or plain_styles n WhiteItalics

-- the styles in the order of their codes: 0 to 6 the colours, 7 white italics, 8 to 15 the indents
abbrev pub style_at : ℕ → PreambleType
style_at n = cond (ltb n 7) (Colored (color_at n)) (plain_style_at (n - 7))

abbrev pub style_of : PreambleType → ℕ
style_of (Colored c) = color_number c
style_of WhiteItalics = 7
style_of Indent0 = 8
style_of Indent4 = 9
style_of Indent8 = 10
style_of Indent12 = 11
style_of Indent16 = 12
style_of Indent20 = 13
style_of Indent24 = 14
style_of Indent28 = 15

-- the indents 0, 4, 8, .. 28 are styles 8 to 15; 8: another indent
abbrev pub from_indent : ℕ → Outcome PreambleType
from_indent n = cond (eqb (n % 4) 0 && leb n 28) (answer (style_at (8 + n / 4))) (refused 8)

abbrev pub from_indent_outcome : Result PreambleType NoSuchIndent → Outcome PreambleType
from_indent_outcome r = outcome (λ e. 8) r

abbrev pub color_type : Color → PreambleType
color_type c = Colored c

-- white italics and all indents are white
abbrev pub color_of_style : PreambleType → Color
color_of_style (Colored c) = c
color_of_style WhiteItalics = White
color_of_style Indent0 = White
color_of_style Indent4 = White
color_of_style Indent8 = White
color_of_style Indent12 = White
color_of_style Indent16 = White
color_of_style Indent20 = White
color_of_style Indent24 = White
color_of_style Indent28 = White

-- the column that an indent starts at
abbrev pub indent_in : PreambleType → Option ℕ
indent_in (Colored c) = None
indent_in WhiteItalics = None
indent_in Indent0 = Some 0
indent_in Indent4 = Some 4
indent_in Indent8 = Some 8
indent_in Indent12 = Some 12
indent_in Indent16 = Some 16
indent_in Indent20 = Some 20
indent_in Indent24 = Some 24
indent_in Indent28 = Some 28

-- 3: a row above 14
abbrev pub in_row : {A : Type 0} → ℕ → A → Outcome A
in_row row x = cond (leb row 14) (answer x) (refused 3)

abbrev pub new_preamble : ℕ → Bool → PreambleType → Outcome PreambleAddressCode
new_preamble row u t = in_row row (record { row = row; underline = u; ty = t })

abbrev pub new_preamble_outcome : Result PreambleAddressCode NoSuchRow → Outcome PreambleAddressCode
new_preamble_outcome r = outcome (λ e. 3) r

abbrev pub row_in : PreambleAddressCode → ℕ
row_in p = p.row

-- colours and white italics start at the left
abbrev pub column_in : PreambleAddressCode → ℕ
column_in p = unwrap_or (indent_in p.ty) 0

abbrev pub underline_in : PreambleAddressCode → Bool
underline_in p = p.underline

abbrev pub type_in : PreambleAddressCode → PreambleType
type_in p = p.ty

abbrev pub is_italics : PreambleType → Bool
is_italics (Colored c) = false
is_italics WhiteItalics = true
is_italics Indent0 = false
is_italics Indent4 = false
is_italics Indent8 = false
is_italics Indent12 = false
is_italics Indent16 = false
is_italics Indent20 = false
is_italics Indent24 = false
is_italics Indent28 = false

abbrev pub italics_in : PreambleAddressCode → Bool
italics_in p = is_italics p.ty

abbrev pub color_in_row : PreambleAddressCode → Color
color_in_row p = color_of_style p.ty
