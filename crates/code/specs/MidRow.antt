-- Mid-row codes, from 47 CFR 79.101 (h): seven colours, then italics, each with and without an underline.
use Rattle.std.specs.Prelude.{ℕ, Bool, true, false, cond, ltb, Option, None, Some}
use Rattle.code.specs.Color.{color_at, color_number}
use Rattle.code.specs.declared.color.Color.{Color}
use Rattle.code.specs.declared.midrow.MidRow.{MidRow}
use Rattle.code.specs.declared.midrow.MidRowColor.{MidRowColor}
use Rattle.code.specs.declared.midrow.MidRowColor.TheVariants as kind

abbrev pub colored : Color → Bool → MidRow
colored c u = record { color = kind.Color c; underline = u }

abbrev pub italic : Bool → MidRow
italic u = record { color = kind.Italics; underline = u }

-- the eight in the order of their codes
abbrev pub mid_row_at : ℕ → Bool → MidRow
mid_row_at n u = cond (ltb n 7) (colored (color_at n) u) (italic u)

abbrev pub kind_number : MidRowColor → ℕ
kind_number (kind.Color c) = color_number c
kind_number kind.Italics = 7

abbrev pub mid_row_number : MidRow → ℕ
mid_row_number m = kind_number m.color

-- a colour code sets the colour, and italics leave it
abbrev pub kind_color : MidRowColor → Option Color
kind_color (kind.Color c) = Some c
kind_color kind.Italics = None

abbrev pub color_in : MidRow → Option Color
color_in m = kind_color m.color

abbrev pub kind_italic : MidRowColor → Bool
kind_italic (kind.Color c) = false
kind_italic kind.Italics = true

abbrev pub is_italic : MidRow → Bool
is_italic m = kind_italic m.color

abbrev pub is_underlined : MidRow → Bool
is_underlined m = m.underline
