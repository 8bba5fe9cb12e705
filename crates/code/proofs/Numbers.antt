-- The numbers of the small enums: each is below the count of cases, and the case at a case's number is that case.
-- Assumes nothing.
use Rattle.std.specs.Prelude.{None, Some, Result, Ok, Err, IsOk}
use Rattle.code.specs.Number.{numbered}
use Rattle.code.specs.declared.number.NoSuchNumber.{NoSuchNumber}
use mathlib.Core.Path.{◌≡◌, refl, ap, ap₂, subst, sym, ◌∙◌}
use mathlib.Core.Bool.{Bool, cond}
use Prim.Native.Nat.{ℕ, ◌*◌, ◌-◌, ◌/◌, ◌%◌, ◌<◌}
use native.Mathlib.Nat.{lt_trans}
use native.Mathlib.Omega.{arith}
use borrow.Author.Tests.{lt-leb, lt-ltb, ne_eqb}
use lib.Dec.{eqb, leb, lit<, ltb}
use Rattle.code.proofs.Agree.{agree}
use Rattle.code.specs.Color.{color_at, color_number}
use Rattle.code.specs.Column.{column_at, column_number}
use Rattle.code.specs.Control.{command_at, command_number, tab_of, tab_number}
use Rattle.code.specs.Letter.{letter_at, letter_place, letter_row_at, letter_row_number}
use Rattle.code.specs.MidRow.{kind_number}
use Rattle.code.specs.Preamble.{color_of_style, indent_in, is_italics, style_at, style_of}
use Rattle.code.specs.Symbol.{symbol_at, symbol_place, symbol_row_at, symbol_row_number}
use Rattle.code.specs.declared.color.Color as color
use Rattle.code.specs.declared.color.Color.TheVariants.{White, Green, Blue, Cyan, Red, Yellow, Magenta}
use Rattle.code.specs.declared.column.Column.{Column}
use Rattle.code.specs.declared.column.Column.TheVariants.{C0, C1, C2, C3, C4, C5, C6, C7, C8, C9, CA, CB, CC, CD, CE, CF}
use Rattle.code.specs.declared.control.Command.{Command}
use Rattle.code.specs.declared.control.Command.TheVariants as command
use Rattle.code.specs.declared.control.Tab.{Tab}
use Rattle.code.specs.declared.control.Tab.TheVariants as tab
use Rattle.code.specs.declared.letter.Letter.{Letter}
use Rattle.code.specs.declared.letter.LetterRow.{LetterRow}
use Rattle.code.specs.declared.letter.LetterRow.TheVariants.{Row2, Row3, Row4, Row5, Row6, Row7}
use Rattle.code.specs.declared.midrow.MidRowColor.{MidRowColor}
use Rattle.code.specs.declared.midrow.MidRowColor.TheVariants as kind
use Rattle.code.specs.declared.preamble.PreambleType.{PreambleType}
use Rattle.code.specs.declared.preamble.PreambleType.TheVariants as style
use Rattle.code.specs.declared.symbol.Symbol.{Symbol}
use Rattle.code.specs.declared.symbol.SymbolRow.{SymbolRow}
use Rattle.code.specs.declared.symbol.SymbolRow.TheVariants.{Special, Spanish, French, Portuguese, German}

same_value : {A E : Type 0} {x y : A} → ◌≡◌ {A = Result A E} (Ok x) (Ok y) → x ≡ y
same_value e = cc

-- the value that a number below the limit names
pub value_told : {A : Type 0} (limit : ℕ) (at : ℕ → A) (n : ℕ) (r : Result A NoSuchNumber) (x : A) → n < limit → r ≡ numbered limit at n → r ≡ Ok x → x ≡ at n
value_told {A} limit at n r x less gives is =
    same_value {E = NoSuchNumber} (sym is ∙ gives ∙ ap (λ (t : Bool). cond t (Ok (at n)) (Err (record {}))) (lt-ltb n limit less))

pub value_there : {A : Type 0} (limit : ℕ) (at : ℕ → A) (n : ℕ) (r : Result A NoSuchNumber) → n < limit → r ≡ numbered limit at n → IsOk r
value_there {A} limit at n r less gives =
    subst (λ (o : Result A NoSuchNumber). IsOk o) (sym (gives ∙ ap (λ (t : Bool). cond t (Ok (at n)) (Err (record {}))) (lt-ltb n limit less))) refl

-- a number that is below n and leads back to its case
abbrev pub Back : {A : Type 0} → (ℕ → A) → (A → ℕ) → ℕ → A → Type 0
Back at number n a = (number a < n) × (at (number a) ≡ a)

pub column_back : (c : Column) → Back column_at column_number 16 c
column_back C0 = (lit< tt, refl)
column_back C1 = (lit< tt, refl)
column_back C2 = (lit< tt, refl)
column_back C3 = (lit< tt, refl)
column_back C4 = (lit< tt, refl)
column_back C5 = (lit< tt, refl)
column_back C6 = (lit< tt, refl)
column_back C7 = (lit< tt, refl)
column_back C8 = (lit< tt, refl)
column_back C9 = (lit< tt, refl)
column_back CA = (lit< tt, refl)
column_back CB = (lit< tt, refl)
column_back CC = (lit< tt, refl)
column_back CD = (lit< tt, refl)
column_back CE = (lit< tt, refl)
column_back CF = (lit< tt, refl)

letter_row_back : (r : LetterRow) → Back letter_row_at letter_row_number 6 r
letter_row_back Row2 = (lit< tt, refl)
letter_row_back Row3 = (lit< tt, refl)
letter_row_back Row4 = (lit< tt, refl)
letter_row_back Row5 = (lit< tt, refl)
letter_row_back Row6 = (lit< tt, refl)
letter_row_back Row7 = (lit< tt, refl)

pub symbol_row_back : (r : SymbolRow) → Back symbol_row_at symbol_row_number 5 r
symbol_row_back Special = (lit< tt, refl)
symbol_row_back Spanish = (lit< tt, refl)
symbol_row_back French = (lit< tt, refl)
symbol_row_back Portuguese = (lit< tt, refl)
symbol_row_back German = (lit< tt, refl)

color_back : (c : color.Color) → Back color_at color_number 7 c
color_back White = (lit< tt, refl)
color_back Green = (lit< tt, refl)
color_back Blue = (lit< tt, refl)
color_back Cyan = (lit< tt, refl)
color_back Red = (lit< tt, refl)
color_back Yellow = (lit< tt, refl)
color_back Magenta = (lit< tt, refl)

-- a colour keeps its number among the styles
color_style : (c : color.Color) → Back style_at style_of 16 (style.Color c)
color_style White = (lit< tt, refl)
color_style Green = (lit< tt, refl)
color_style Blue = (lit< tt, refl)
color_style Cyan = (lit< tt, refl)
color_style Red = (lit< tt, refl)
color_style Yellow = (lit< tt, refl)
color_style Magenta = (lit< tt, refl)

pub style_back : (t : PreambleType) → Back style_at style_of 16 t
style_back (style.Color c) = color_style c
style_back style.WhiteItalics = (lit< tt, refl)
style_back style.Indent0 = (lit< tt, refl)
style_back style.Indent4 = (lit< tt, refl)
style_back style.Indent8 = (lit< tt, refl)
style_back style.Indent12 = (lit< tt, refl)
style_back style.Indent16 = (lit< tt, refl)
style_back style.Indent20 = (lit< tt, refl)
style_back style.Indent24 = (lit< tt, refl)
style_back style.Indent28 = (lit< tt, refl)

pub kind_small : (k : MidRowColor) → kind_number k < 8
kind_small (kind.Color c) = lt_trans (color_back c).0 (lit< tt)
kind_small kind.Italics = lit< tt

pub command_back : (c : Command) → Back command_at command_number 16 c
command_back command.ResumeCaptionLoading = (lit< tt, refl)
command_back command.Backspace = (lit< tt, refl)
command_back command.AlarmOff = (lit< tt, refl)
command_back command.AlarmOn = (lit< tt, refl)
command_back command.DeleteToEndOfRow = (lit< tt, refl)
command_back command.RollUp2 = (lit< tt, refl)
command_back command.RollUp3 = (lit< tt, refl)
command_back command.RollUp4 = (lit< tt, refl)
command_back command.FlashOn = (lit< tt, refl)
command_back command.ResumeDirectionCaptioning = (lit< tt, refl)
command_back command.TextRestart = (lit< tt, refl)
command_back command.ResumeTextDisplay = (lit< tt, refl)
command_back command.EraseDisplayedMemory = (lit< tt, refl)
command_back command.CarriageReturn = (lit< tt, refl)
command_back command.EraseNonDisplayedMemory = (lit< tt, refl)
command_back command.EndOfCaption = (lit< tt, refl)

-- a tab's number is below 4 and leads back to it
pub tab_back : (t : Tab) → Back tab_of tab_number 4 t
tab_back tab.TabOffset1 = (lit< tt, refl)
tab_back tab.TabOffset2 = (lit< tt, refl)
tab_back tab.TabOffset3 = (lit< tt, refl)

-- the places are made of row and column
pub letter_small : (l : Letter) → letter_place l < 96
letter_small l = omega (arith, (letter_row_back l.row).0, (column_back l.column).0)

pub symbol_small : (s : Symbol) → symbol_place s < 80
symbol_small s = omega (arith, (symbol_row_back s.row).0, (column_back s.column).0)

-- a place and what stands there give each other back
pub letter_again : (l : Letter) → letter_at (letter_place l) ≡ l
letter_again l =
    let row : letter_place l / 16 ≡ letter_row_number l.row = omega (arith, (column_back l.column).0) in
    let column : letter_place l % 16 ≡ column_number l.column = omega (arith, (column_back l.column).0) in
    ap₂ {C = Letter} (λ (r : LetterRow) (c : Column). record { row = r; column = c })
    (ap letter_row_at row ∙ (letter_row_back l.row).1) (ap column_at column ∙ (column_back l.column).1)

pub symbol_again : (s : Symbol) → symbol_at (symbol_place s) ≡ s
symbol_again s =
    let row : symbol_place s / 16 ≡ symbol_row_number s.row = omega (arith, (column_back s.column).0) in
    let column : symbol_place s % 16 ≡ column_number s.column = omega (arith, (column_back s.column).0) in
    ap₂ {C = Symbol} (λ (r : SymbolRow) (c : Column). record { row = r; column = c })
    (ap symbol_row_at row ∙ (symbol_row_back s.row).1) (ap column_at column ∙ (column_back s.column).1)

pub letter_place_lem : (n : ℕ) → n < 96 → letter_place (letter_at n) ≡ n
letter_place_lem n less = agree (λ (x : ℕ). letter_place (letter_at x)) (λ (x : ℕ). x) 96 refl n less

pub symbol_place_lem : (n : ℕ) → n < 80 → symbol_place (symbol_at n) ≡ n
symbol_place_lem n less = agree (λ (x : ℕ). symbol_place (symbol_at x)) (λ (x : ℕ). x) 80 refl n less

-- a style's colour, by its number
pub color_by_number : (t : PreambleType) → cond (ltb (style_of t) 7) (color_at (style_of t)) White ≡ color_of_style t
color_by_number (style.Color c) = rw (lt-ltb (color_number c) 7 (color_back c).0, (color_back c).1)
color_by_number style.WhiteItalics = refl
color_by_number style.Indent0 = refl
color_by_number style.Indent4 = refl
color_by_number style.Indent8 = refl
color_by_number style.Indent12 = refl
color_by_number style.Indent16 = refl
color_by_number style.Indent20 = refl
color_by_number style.Indent24 = refl
color_by_number style.Indent28 = refl

-- its indent
pub indent_by_number : (t : PreambleType) → cond (leb 8 (style_of t)) (Some ((style_of t - 8) * 4)) None ≡ indent_in t
indent_by_number (style.Color c) = rw (lt-leb 8 (color_number c) (omega (arith, (color_back c).0)))
indent_by_number style.WhiteItalics = refl
indent_by_number style.Indent0 = refl
indent_by_number style.Indent4 = refl
indent_by_number style.Indent8 = refl
indent_by_number style.Indent12 = refl
indent_by_number style.Indent16 = refl
indent_by_number style.Indent20 = refl
indent_by_number style.Indent24 = refl
indent_by_number style.Indent28 = refl

-- whether it is italics
pub italics_by_number : (t : PreambleType) → eqb (style_of t) 7 ≡ is_italics t
italics_by_number (style.Color c) = ne_eqb (color_number c) 7 (λ (e : color_number c ≡ 7). omega (arith, (color_back c).0))
italics_by_number style.WhiteItalics = refl
italics_by_number style.Indent0 = refl
italics_by_number style.Indent4 = refl
italics_by_number style.Indent8 = refl
italics_by_number style.Indent12 = refl
italics_by_number style.Indent16 = refl
italics_by_number style.Indent20 = refl
italics_by_number style.Indent24 = refl
italics_by_number style.Indent28 = refl
