-- The places of the standard characters, from 47 CFR 79.101 (g): 0x20 to 0x7F, six rows of sixteen.
use Rattle.std.specs.Prelude.{ℕ, ◌+◌, ◌*◌, ◌/◌, ◌%◌, List, [], ◌∷◌, get_or}
use Rattle.code.specs.Column.{column_at, column_number}
use Rattle.code.specs.declared.letter.Letter.{Letter}
use Rattle.code.specs.declared.letter.LetterRow.{LetterRow}
use Rattle.code.specs.declared.letter.LetterRow.TheVariants.{Row2, Row3, Row4, Row5, Row6, Row7}

abbrev pub letter_rows : List LetterRow
letter_rows = Row2 ∷ Row3 ∷ Row4 ∷ Row5 ∷ Row6 ∷ Row7 ∷ []

abbrev pub letter_row_at : ℕ → LetterRow
letter_row_at n = get_or letter_rows n Row2

abbrev pub letter_row_number : LetterRow → ℕ
letter_row_number Row2 = 0
letter_row_number Row3 = 1
letter_row_number Row4 = 2
letter_row_number Row5 = 3
letter_row_number Row6 = 4
letter_row_number Row7 = 5

-- the letter at a place, and the place of a letter, from 0 for the space
abbrev pub letter_at : ℕ → Letter
letter_at n = record { row = letter_row_at (n / 16); column = column_at (n % 16) }

abbrev pub letter_place : Letter → ℕ
letter_place l = letter_row_number l.row * 16 + column_number l.column
