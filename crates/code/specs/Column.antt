-- The sixteen columns of a row of characters, and their numbers: the port's own words.
use Rattle.std.specs.Prelude.{ℕ, List, [], ◌∷◌, get_or}
use Rattle.code.specs.declared.column.Column.{Column}
use Rattle.code.specs.declared.column.Column.TheVariants.{C0, C1, C2, C3, C4, C5, C6, C7, C8, C9, CA, CB, CC, CD, CE, CF}

abbrev pub columns : List Column
columns = C0 ∷ C1 ∷ C2 ∷ C3 ∷ C4 ∷ C5 ∷ C6 ∷ C7 ∷ C8 ∷ C9 ∷ CA ∷ CB ∷ CC ∷ CD ∷ CE ∷ CF ∷ []

abbrev pub column_at : ℕ → Column
column_at n = get_or columns n C0

abbrev pub column_number : Column → ℕ
column_number C0 = 0
column_number C1 = 1
column_number C2 = 2
column_number C3 = 3
column_number C4 = 4
column_number C5 = 5
column_number C6 = 6
column_number C7 = 7
column_number C8 = 8
column_number C9 = 9
column_number CA = 10
column_number CB = 11
column_number CC = 12
column_number CD = 13
column_number CE = 14
column_number CF = 15
