-- Each control but `Unknown` is what its own two bytes mean. With `RoundTrip`, which goes from bytes to controls, reading
-- and writing undo each other on controls that have a meaning.
-- Assumes nothing.
use mathlib.Core.Bool.{Bool, true, false, ◌&&◌}
use Rattle.std.specs.Prelude.{Option, Some}
use mathlib.Core.Path.{◌≡◌, refl, ap, ◌∙◌}
use Prim.Native.Nat.{ℕ, ◌+◌, ◌*◌, ◌<◌, zero-le}
use Rattle.code.proofs.Agree.{agree, agree_grid}
use Rattle.code.proofs.Numbers.{column_back, command_back, kind_small, style_back, symbol_row_back}
use Rattle.code.specs.Color.{color_number}
use Rattle.code.specs.Column.{column_at, column_number}
use Rattle.code.specs.Control.{command_at, command_number}
use Rattle.code.specs.MidRow.{kind_number, mid_row_at, mid_row_number}
use Rattle.code.specs.Pair.{pair, plus}
use Rattle.code.specs.Preamble.{row_prefix, style_at, style_of}
use Rattle.code.specs.Read.{is_command, meaning}
use Rattle.code.specs.Symbol.{symbol_base, symbol_row_at, symbol_row_number}
use Rattle.code.specs.Write.{bit, command_bytes, is_seven_bits, mid_row_bytes, preamble_bytes, symbol_bytes, tab_bytes}
use Rattle.code.specs.declared.color.Color as color
use Rattle.code.specs.declared.color.Color.TheVariants.{White, Green, Blue, Cyan, Red, Yellow, Magenta}
use Rattle.code.specs.declared.column.Column.{Column}
use Rattle.code.specs.declared.control.Command.{Command}
use Rattle.code.specs.declared.control.Control.{Control}
use Rattle.code.specs.declared.control.Control.TheVariants as control
use Rattle.code.specs.declared.control.Tab.{Tab}
use Rattle.code.specs.declared.control.Tab.TheVariants as tab
use Rattle.code.specs.declared.midrow.MidRow.{MidRow}
use Rattle.code.specs.declared.midrow.MidRowColor.{MidRowColor}
use Rattle.code.specs.declared.midrow.MidRowColor.TheVariants as kind
use Rattle.code.specs.declared.pair.Pair.{Pair}
use Rattle.code.specs.declared.preamble.PreambleAddressCode.{PreambleAddressCode}
use Rattle.code.specs.declared.preamble.PreambleType.{PreambleType}
use Rattle.code.specs.declared.symbol.Symbol.{Symbol}
use Rattle.code.specs.declared.symbol.SymbolRow.{SymbolRow}

-- what two bytes mean
abbrev pub meant : Pair → Option Control
meant p = meaning p.0 p.1

-- bytes of a control code: the first 10 to 1F, the second of seven bits
abbrev pub is_pair_of_control : Pair → Bool
is_pair_of_control p = is_command p.0 && is_seven_bits p.1

-- mid-row codes
color_again : (c : color.Color) (u : Bool) → mid_row_at (color_number c) u ≡ record { color = kind.Color c; underline = u }
color_again White u = refl
color_again Green u = refl
color_again Blue u = refl
color_again Cyan u = refl
color_again Red u = refl
color_again Yellow u = refl
color_again Magenta u = refl

kind_again : (k : MidRowColor) (u : Bool) → mid_row_at (kind_number k) u ≡ record { color = k; underline = u }
kind_again (kind.Color c) u = color_again c u
kind_again kind.Italics u = refl

mid_row_at_lem : (n : ℕ) (u : Bool) → n < 8 → meaning 0x11 (0x20 + 2 * n + bit u) ≡ Some (control.MidRow (mid_row_at n u))
unfolding meaning
mid_row_at_lem n true less =
    agree (λ (x : ℕ). meaning 0x11 (0x20 + 2 * x + 1)) (λ (x : ℕ). Some (control.MidRow (mid_row_at x true))) 8 refl n less
mid_row_at_lem n false less =
    agree (λ (x : ℕ). meaning 0x11 (0x20 + 2 * x + 0)) (λ (x : ℕ). Some (control.MidRow (mid_row_at x false))) 8 refl n less

pub mid_row_meant : (m : MidRow) → meant (mid_row_bytes m) ≡ Some (control.MidRow m)
mid_row_meant m =
    mid_row_at_lem (mid_row_number m) m.underline (kind_small m.color)
    ∙ ap (λ (x : MidRow). Some (control.MidRow x)) (kind_again m.color m.underline)

mid_row_fits : (n : ℕ) (u : Bool) → n < 8 → is_pair_of_control (pair 0x11 (0x20 + 2 * n + bit u)) ≡ true
mid_row_fits n true less = agree (λ (x : ℕ). is_pair_of_control (pair 0x11 (0x20 + 2 * x + 1))) (λ (x : ℕ). true) 8 refl n less
mid_row_fits n false less = agree (λ (x : ℕ). is_pair_of_control (pair 0x11 (0x20 + 2 * x + 0))) (λ (x : ℕ). true) 8 refl n less

pub mid_row_pair : (m : MidRow) → is_pair_of_control (mid_row_bytes m) ≡ true
mid_row_pair m = mid_row_fits (mid_row_number m) m.underline (kind_small m.color)

-- symbols
symbol_at_lem : (r c : ℕ) → r < 5 → c < 16 → meant (plus (symbol_base (symbol_row_at r)) c) ≡ Some (control.Symbol (record { row = symbol_row_at r; column = column_at c }))
unfolding meaning
symbol_at_lem r c inside less =
    agree_grid (λ (x y : ℕ). meant (plus (symbol_base (symbol_row_at x)) y)) (λ (x y : ℕ). Some (control.Symbol (record { row = symbol_row_at x; column = column_at y }))) 0 5 16 refl
    r
    c
    zero-le
    inside
    less

symbol_again : (r : SymbolRow) (c : Column) → meant (plus (symbol_base r) (column_number c)) ≡ Some (control.Symbol (record { row = r; column = c }))
symbol_again r c =
    let known = symbol_at_lem (symbol_row_number r) (column_number c) (symbol_row_back r).0 (column_back c).0 in
    rw ((symbol_row_back r).1, (column_back c).1) at known

pub symbol_meant : (s : Symbol) → meant (symbol_bytes s) ≡ Some (control.Symbol s)
symbol_meant s = symbol_again s.row s.column

symbol_fits : (r c : ℕ) → r < 5 → c < 16 → is_pair_of_control (plus (symbol_base (symbol_row_at r)) c) ≡ true
symbol_fits r c inside less =
    agree_grid (λ (x y : ℕ). is_pair_of_control (plus (symbol_base (symbol_row_at x)) y)) (λ (x y : ℕ). true) 0 5 16 refl r c zero-le inside less

pub symbol_pair : (s : Symbol) → is_pair_of_control (symbol_bytes s) ≡ true
symbol_pair s =
    let known = symbol_fits (symbol_row_number s.row) (column_number s.column) (symbol_row_back s.row).0 (column_back s.column).0 in
    rw (symbol_row_back s.row).1 at known

-- commands and tabs
pub command_meant : (c : Command) → meant (command_bytes c) ≡ Some (control.Command c)
unfolding meaning
command_meant c =
    agree (λ (x : ℕ). meaning 0x14 (0x20 + x)) (λ (x : ℕ). Some (control.Command (command_at x))) 16 refl (command_number c) (command_back c).0
    ∙ ap (λ (x : Command). Some (control.Command x)) (command_back c).1

pub command_pair : (c : Command) → is_pair_of_control (command_bytes c) ≡ true
command_pair c = agree (λ (x : ℕ). is_pair_of_control (pair 0x14 (0x20 + x))) (λ (x : ℕ). true) 16 refl (command_number c) (command_back c).0

pub tab_pair : (t : Tab) → is_pair_of_control (tab_bytes t) ≡ true
tab_pair tab.TabOffset1 = refl
tab_pair tab.TabOffset2 = refl
tab_pair tab.TabOffset3 = refl

pub tab_meant : (t : Tab) → meant (tab_bytes t) ≡ Some (control.Tab t)
unfolding meaning
tab_meant tab.TabOffset1 = refl
tab_meant tab.TabOffset2 = refl
tab_meant tab.TabOffset3 = refl

-- preambles
abbrev preamble_in : ℕ → ℕ → Bool → Control
preamble_in row style u = control.Preamble (record { row = row; underline = u; ty = style_at style })

preamble_at_lem : (row n : ℕ) (u : Bool) → row < 15 → n < 16 → meant (plus (row_prefix row) (2 * n + bit u)) ≡ Some (preamble_in row n u)
unfolding meaning
preamble_at_lem row n true inside less =
    agree_grid (λ (x y : ℕ). meant (plus (row_prefix x) (2 * y + 1))) (λ (x y : ℕ). Some (preamble_in x y true)) 0 15 16 refl row n zero-le inside less
preamble_at_lem row n false inside less =
    agree_grid (λ (x y : ℕ). meant (plus (row_prefix x) (2 * y + 0))) (λ (x y : ℕ). Some (preamble_in x y false)) 0 15 16 refl row n zero-le inside less

pub preamble_meant : (p : PreambleAddressCode) → p.row < 15 → meant (preamble_bytes p) ≡ Some (control.Preamble p)
preamble_meant p inside =
    preamble_at_lem p.row (style_of p.ty) p.underline inside (style_back p.ty).0
    ∙ ap {B = Option Control} (λ (t : PreambleType). Some (control.Preamble (record { row = p.row; underline = p.underline; ty = t }))) (style_back p.ty).1

preamble_fits : (row n : ℕ) (u : Bool) → row < 15 → n < 16 → is_pair_of_control (plus (row_prefix row) (2 * n + bit u)) ≡ true
preamble_fits row n true inside less =
    agree_grid (λ (x y : ℕ). is_pair_of_control (plus (row_prefix x) (2 * y + 1))) (λ (x y : ℕ). true) 0 15 16 refl row n zero-le inside less
preamble_fits row n false inside less =
    agree_grid (λ (x y : ℕ). is_pair_of_control (plus (row_prefix x) (2 * y + 0))) (λ (x y : ℕ). true) 0 15 16 refl row n zero-le inside less

pub preamble_pair : (p : PreambleAddressCode) → p.row < 15 → is_pair_of_control (preamble_bytes p) ≡ true
preamble_pair p inside = preamble_fits p.row (style_of p.ty) p.underline inside (style_back p.ty).0
