-- The standard characters against ASCII, the symbols by their code points, numbers in the order of the codes, the indents by
-- their columns, channels and fields by their numbers, and the refusal of each call by its number in 01.
-- Assumes nothing.
use Rattle.std.specs.Prelude.{None, Some}
use mathlib.Core.Bool.{Bool, false, cond}
use mathlib.Core.List.{List, [], ◌∷◌, ◌++◌, map}
use mathlib.Core.Path.{◌≡◌, refl, ap, sym, ◌∙◌}
use Prim.Native.Nat.{ℕ, zero, suc, ◌≤◌, ◌<◌}
use lib.Count.{ones, ones_in}
use native.Mathlib.Omega.{arith}
use borrow.Author.Tests.{lt-leb}
use Rattle.code.proofs.Agree.{agree_from}
use Rattle.code.specs.Channel.{channel_id, channel_one, channel_two, field_id, field_one, field_two}
use Rattle.code.specs.Characters.{standard, symbols}
use Rattle.code.specs.Code.{char_of, from_char}
use Rattle.code.specs.Color.{color_number, colors}
use Rattle.code.specs.Column.{column_number, columns}
use Rattle.code.specs.Control.{command_number, commands, tab_number, tab_offset}
use Rattle.code.specs.KnownCodes.{Instead, Sixteen, characters_from, indent_columns, indents, is_not_ascii, known_symbols, not_ascii}
use Rattle.code.specs.Letter.{letter_row_number, letter_rows}
use Rattle.code.specs.MidRow.{colored, italic, mid_row_number}
use Rattle.code.specs.Outcome.{refused}
use Rattle.code.specs.Preamble.{from_indent, indent_in, new_preamble, style_of}
use Rattle.code.specs.Read.{control_code_of, meaning, read_pair, single}
use Rattle.code.specs.Symbol.{symbol_row_number, symbol_rows}
use Rattle.code.specs.Write.{in_domain, write_code}
use Rattle.code.specs.declared.code.Code.TheVariants as code
use Rattle.code.specs.declared.color.Color as color
use Rattle.code.specs.declared.control.Tab.TheVariants.{TabOffset1, TabOffset2, TabOffset3}
use Rattle.code.specs.declared.preamble.PreambleType.{PreambleType}
use Rattle.code.specs.declared.preamble.PreambleType.TheVariants.{Color, WhiteItalics}

-- at every other byte of 20 to 7F the character is the byte's own
pub ascii_elsewhere : (b : ℕ) → 0x20 ≤ b → b < 0x80 → is_not_ascii b ≡ false → char_of (single b) ≡ Some b
unfolding standard char_of
ascii_elsewhere b from below other =
    sym (ap (λ t. cond t None (char_of (single b))) other)
    ∙ agree_from (λ (x : ℕ). cond (is_not_ascii x) None (char_of (single x))) (λ (x : ℕ). cond (is_not_ascii x) None (Some x)) 0x20 0x60 refl b from
    (omega (arith, below))
    ∙ ap (λ t. cond t None (Some b)) other

pub instead_of_ascii : map (λ (x : Instead). char_of (single x.byte)) not_ascii ≡ map (λ (x : Instead). Some x.point) not_ascii
unfolding standard char_of
instead_of_ascii = refl

-- the 80 symbols
pub symbols_by_bytes : map (λ (r : Sixteen). characters_from r.first 16) known_symbols ≡ map (λ (r : Sixteen). r.characters) known_symbols
unfolding symbols char_of meaning control_code_of
symbols_by_bytes = refl

-- the numbers count from 0 in the order of the codes, and tabs from 1
abbrev count_from : ℕ → ℕ → List ℕ
count_from low zero = []
count_from low (suc n) = low ∷ count_from (suc low) n

pub numbers_in_order :
    (map color_number colors ≡ count_from 0 7) × (map column_number columns ≡ count_from 0 16) × (map letter_row_number letter_rows ≡ count_from 0 6)
    × (map symbol_row_number symbol_rows ≡ count_from 0 5) × (map command_number commands ≡ count_from 0 16)
    × (map tab_number (TabOffset1 ∷ TabOffset2 ∷ TabOffset3 ∷ []) ≡ count_from 1 3)
numbers_in_order = (refl, refl, refl, refl, refl, refl)

pub styles_in_order :
    (map style_of (map Color colors ++ (WhiteItalics ∷ indents)) ≡ count_from 0 16)
    × (map mid_row_number (map (λ (c : color.Color). colored c false) colors ++ (italic false ∷ [])) ≡ count_from 0 8)
styles_in_order = (refl, refl)

pub indents_by_column : map indent_in indents ≡ map Some indent_columns
indents_by_column = refl

pub channels_and_fields_by_number : (channel_id channel_one ≡ 1) × (channel_id channel_two ≡ 2) × (field_id field_one ≡ 1) × (field_id field_two ≡ 2)
channels_and_fields_by_number = (refl, refl, refl, refl)

-- 48 has an even count of ones
pub refused_1 : read_pair 0x48 0xE9 ≡ refused 1
unfolding ones ones_in read_pair
refused_1 = refl

-- a byte of 80 in an `Unknown`
pub refused_2 : (write_code (code.Unknown 0x80) ≡ refused 2) × (in_domain (code.Unknown 0x80) ≡ refused 2)
unfolding write_code in_domain
refused_2 = (refl, refl)

-- a row above 14
pub refused_3 : (row : ℕ) (u : Bool) (t : PreambleType) → 14 < row → new_preamble row u t ≡ refused 3
refused_3 row u t above = rw (lt-leb row 14 above) refl

-- a tab of no column, and one of four
pub refused_4 : (tab_offset 0 ≡ refused 4) × (tab_offset 4 ≡ refused 4)
refused_4 = (refl, refl)

-- €
pub refused_5 : from_char 0x20AC channel_one ≡ refused 5
unfolding from_char standard symbols
refused_5 = refl

-- indents of 3 and of 32
pub refused_8 : (from_indent 3 ≡ refused 8) × (from_indent 32 ≡ refused 8)
refused_8 = (refl, refl)
