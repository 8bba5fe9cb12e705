-- What a constructor was given, its parts give back; what a style says of colour, italics and column; and indents both ways.
-- Assumes nothing.
use mathlib.Core.Bool.{Bool, true, false, cond, ◌&&◌}
use mathlib.Core.List.{◌∷◌, map}
use mathlib.Core.Logic.{◌↔◌}
use Rattle.std.specs.Prelude.{None, Some}
use Rattle.std.proofs.lemmas.Option.{none-some, same_Some}
use mathlib.Core.Path.{◌≡◌, refl, ap, sym, ◌∙◌}
use Prim.Native.Nat.{ℕ, ◌+◌, ◌≤◌, ◌/◌, ◌%◌}
use native.Mathlib.Omega.{arith}
use borrow.Author.Tests.{le-leb, leb-true}
use lib.Dec.{eqb, leb}
use lib.ListN.{replicate}
use Rattle.code.proofs.Agree.{agree}
use Rattle.code.proofs.Both.{both_true}
use Rattle.code.proofs.OneAnswer.{clash, same}
use Rattle.code.specs.Control.{channel_in, control_code, control_in, field_in}
use Rattle.code.specs.KnownCodes.{indents}
use Rattle.code.specs.MidRow.{color_in, colored, is_italic, is_underlined, italic}
use Rattle.code.specs.Outcome.{answer, refused}
use Rattle.code.specs.Preamble.{color_in_row, color_of_style, color_type, column_in, from_indent, indent_in, is_italics, italics_in, new_preamble, row_in, style_at, type_in, underline_in}
use Rattle.code.specs.declared.channel.Channel.{Channel}
use Rattle.code.specs.declared.channel.Field.{Field}
use Rattle.code.specs.declared.color.Color.{Color}
use Rattle.code.specs.declared.color.Color.TheVariants.{White}
use Rattle.code.specs.declared.control.Control.{Control}
use Rattle.code.specs.declared.preamble.PreambleAddressCode.{PreambleAddressCode}
use Rattle.code.specs.declared.preamble.PreambleType.{PreambleType}
use Rattle.code.specs.declared.preamble.PreambleType.TheVariants as style

-- a control code
pub control_code_parts : (f : Field) (ch : Channel) (c : Control) → (field_in (control_code f ch c) ≡ Some f) × (channel_in (control_code f ch c) ≡ ch) × (control_in (control_code f ch c) ≡ c)
control_code_parts f ch c = (refl, refl, refl)

-- mid-row codes: a colour, which ends italics, and italics, which leave the colour
pub colored_parts : (c : Color) (u : Bool) → (color_in (colored c u) ≡ Some c) × (is_italic (colored c u) ≡ false) × (is_underlined (colored c u) ≡ u)
colored_parts c u = (refl, refl, refl)

pub italic_parts : (u : Bool) → (color_in (italic u) ≡ None) × (is_italic (italic u) ≡ true) × (is_underlined (italic u) ≡ u)
italic_parts u = (refl, refl, refl)

-- the styles: a colour; and those that are no colour are white, and white italics alone is in italics
pub color_style_parts : (c : Color) → (color_of_style (color_type c) ≡ c) × (is_italics (color_type c) ≡ false) × (indent_in (color_type c) ≡ None)
color_style_parts c = (refl, refl, refl)

pub others_are_white : map color_of_style (style.WhiteItalics ∷ indents) ≡ replicate 9 White
others_are_white = refl

pub one_is_italics : map is_italics (style.WhiteItalics ∷ indents) ≡ true ∷ replicate 8 false
one_is_italics = refl

-- a preamble of the rows 0 to 14
pub preamble_parts : (row : ℕ) (u : Bool) (t : PreambleType) → row ≤ 14 → (p : PreambleAddressCode) × (new_preamble row u t ≡ answer p) × (row_in p ≡ row) × (underline_in p ≡ u) × (type_in p ≡ t)
preamble_parts row u t inside =
    (record { row = row; underline = u; ty = t }, rw (le-leb row 14 inside) refl, refl, refl, refl)

-- its row looks as its style says, and starts at the indent, or else at the left
pub row_by_style : (p : PreambleAddressCode) → (color_in_row p ≡ color_of_style (type_in p)) × (italics_in p ≡ is_italics (type_in p))
row_by_style p = (refl, refl)

pub row_at_its_indent : (p : PreambleAddressCode) (n : ℕ) → indent_in (type_in p) ≡ Some n → column_in p ≡ n
row_at_its_indent p n e = rw e

pub row_at_the_left : (p : PreambleAddressCode) → indent_in (type_in p) ≡ None → column_in p ≡ 0
row_at_the_left p e = rw e

-- indents both ways
its_indent : (n : ℕ) → n ≤ 28 → eqb (n % 4) 0 ≡ true → indent_in (style_at (8 + n / 4)) ≡ Some n
its_indent n to fourth =
    sym (ap (λ t. cond t (indent_in (style_at (8 + n / 4))) (Some n)) fourth)
    ∙ agree (λ (x : ℕ). cond (eqb (x % 4) 0) (indent_in (style_at (8 + x / 4))) (Some x)) (λ (x : ℕ). Some x) 29 refl n (omega arith)

indent_of : (n : ℕ) (t : PreambleType) (u : Bool) → (eqb (n % 4) 0 && leb n 28) ≡ u → cond u (answer (style_at (8 + n / 4))) (refused 8) ≡ answer t → indent_in t ≡ Some n
indent_of n t true inside e =
    let both = both_true (eqb (n % 4) 0) (leb n 28) inside in
    sym (ap indent_in (same e)) ∙ its_indent n (leb-true n 28 both.1) both.0
indent_of n t false outside e = absurd (clash (sym e))

style_of_lem : (t : PreambleType) (n : ℕ) → indent_in t ≡ Some n → from_indent n ≡ answer t
style_of_lem (style.Color c) n e = absurd (none-some n e)
style_of_lem style.WhiteItalics n e = absurd (none-some n e)
style_of_lem style.Indent0 n e = ap from_indent (sym (same_Some 0 n e))
style_of_lem style.Indent4 n e = ap from_indent (sym (same_Some 4 n e))
style_of_lem style.Indent8 n e = ap from_indent (sym (same_Some 8 n e))
style_of_lem style.Indent12 n e = ap from_indent (sym (same_Some 12 n e))
style_of_lem style.Indent16 n e = ap from_indent (sym (same_Some 16 n e))
style_of_lem style.Indent20 n e = ap from_indent (sym (same_Some 20 n e))
style_of_lem style.Indent24 n e = ap from_indent (sym (same_Some 24 n e))
style_of_lem style.Indent28 n e = ap from_indent (sym (same_Some 28 n e))

-- an indent makes a style exactly where the style has that indent
pub by_indent : (n : ℕ) (t : PreambleType) → (from_indent n ≡ answer t) ↔ (indent_in t ≡ Some n)
by_indent n t = (indent_of n t (eqb (n % 4) 0 && leb n 28) refl, style_of_lem t n)
