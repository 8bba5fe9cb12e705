-- The places of the characters that are control codes: the special characters, from 47 CFR 79.101 (g), and the four
-- rows of extended characters, from CTA-608 as 01 lists them.
use Rattle.std.specs.Prelude.{ℕ, ◌+◌, ◌*◌, ◌/◌, ◌%◌, List, [], ◌∷◌, get_or}
use Rattle.code.specs.Column.{column_at, column_number}
use Rattle.code.specs.Pair.{pair}
use Rattle.code.specs.declared.pair.Pair.{Pair}
use Rattle.code.specs.declared.symbol.Symbol.{Symbol}
use Rattle.code.specs.declared.symbol.SymbolRow.{SymbolRow}
use Rattle.code.specs.declared.symbol.SymbolRow.TheVariants.{Special, Spanish, French, Portuguese, German}

abbrev pub symbol_rows : List SymbolRow
symbol_rows = Special ∷ Spanish ∷ French ∷ Portuguese ∷ German ∷ []

abbrev pub symbol_row_at : ℕ → SymbolRow
symbol_row_at n = get_or symbol_rows n Special

abbrev pub symbol_row_number : SymbolRow → ℕ
symbol_row_number Special = 0
symbol_row_number Spanish = 1
symbol_row_number French = 2
symbol_row_number Portuguese = 3
symbol_row_number German = 4

-- the bytes of the first symbol of each row; the others rise by one from it
abbrev pub symbol_base : SymbolRow → Pair
symbol_base Special = pair 0x11 0x30
symbol_base Spanish = pair 0x12 0x20
symbol_base French = pair 0x12 0x30
symbol_base Portuguese = pair 0x13 0x20
symbol_base German = pair 0x13 0x30

-- the symbol at a place, and the place of a symbol, from 0 for the registered mark
abbrev pub symbol_at : ℕ → Symbol
symbol_at n = record { row = symbol_row_at (n / 16); column = column_at (n % 16) }

abbrev pub symbol_place : Symbol → ℕ
symbol_place s = symbol_row_number s.row * 16 + column_number s.column
