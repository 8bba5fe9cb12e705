-- The layout of the code's tables, in the port's own words; no public promise mentions it. An entry is one number, its
-- bytes above the low sixteen bits and its code point in them. `proofs/Meaning` and `proofs/TableRules` tie it to the
-- definitions of `Read`, `Write` and `Characters`.
use Rattle.std.specs.Prelude.{ℕ, suc, ◌+◌, ◌*◌, ◌-◌, ◌/◌, ◌%◌, cond, List, [], ◌∷◌, ◌++◌, map, eqb, ltb, get_or, replicate, Option, None, Some}
use Rattle.std.specs.Option.{unwrap_or}
use Rattle.code.specs.Characters.{standard, symbols, special, spanish, french, portuguese, german}
use Rattle.code.specs.Control.{command_at, tab_of}
use Rattle.code.specs.Letter.{letter_at}
use Rattle.code.specs.Pair.{pair}
use Rattle.code.specs.Range.{within}
use Rattle.code.specs.Symbol.{symbol_at, symbol_base}
use Rattle.code.specs.declared.code.Code.{Code}
use Rattle.code.specs.declared.code.Code.TheVariants as code
use Rattle.code.specs.declared.control.Control.{Control}
use Rattle.code.specs.declared.control.Control.TheVariants as control
use Rattle.code.specs.declared.pair.Pair.{Pair}
use Rattle.code.specs.declared.symbol.SymbolRow.TheVariants.{Special, Spanish, French, Portuguese, German}

-- the byte of a character, or the two bytes of a control code
abbrev pub bytes_of : ℕ → ℕ
bytes_of e = e / 65536

-- its code point, or 0
abbrev pub point_of : ℕ → ℕ
point_of e = e % 65536

-- a character of a code point, which is 0 where there is none
abbrev pub character_of : ℕ → Option ℕ
character_of n = cond (eqb n 0) None (Some n)

-- two bytes as one number, and back
abbrev pub both_bytes : Pair → ℕ
both_bytes p = p.0 * 256 + p.1

abbrev pub two_bytes : ℕ → Pair
two_bytes n = pair (n / 256) (n % 256)

-- entries for these characters, the bytes rising by one from the first
abbrev pub entries : ℕ → List (Option ℕ) → List ℕ
entries bytes [] = []
entries bytes (c ∷ cs) = (bytes * 65536 + unwrap_or c 0) ∷ entries (suc bytes) cs

-- NUL, then 0x20 to 0x7F
unfoldable pub code_entries : List ℕ
code_entries = 0 ∷ entries 0x20 standard

-- the symbols, the commands 14 20 to 14 2F and the tabs 17 21 to 17 23
unfoldable pub control_entries : List ℕ
control_entries =
    entries (both_bytes (symbol_base Special)) special ++ entries (both_bytes (symbol_base Spanish)) spanish
    ++ entries (both_bytes (symbol_base French)) french ++ entries (both_bytes (symbol_base Portuguese)) portuguese
    ++ entries (both_bytes (symbol_base German)) german ++ entries 0x1420 (replicate 16 None)
    ++ entries 0x1721 (replicate 3 None)

-- the code points of the standard characters, then of the symbols
abbrev pub all_points : List ℕ
all_points = map (λ (c : Option ℕ). unwrap_or c 0) (standard ++ symbols)

abbrev pub code_at : ℕ → Code
code_at i = cond (eqb i 0) code.Nul (code.Letter (letter_at (i - 1)))

abbrev pub control_at : ℕ → Control
control_at i =
    cond (ltb i 80) (control.Symbol (symbol_at i))
    (cond (ltb i 96) (control.Command (command_at (i - 80))) (control.Tab (tab_of (i - 95))))

-- the row of 40 to 5F after each of the first bytes 10 to 17
abbrev pub first_row_at : ℕ → ℕ
first_row_at n = get_or (10 ∷ 0 ∷ 2 ∷ 11 ∷ 13 ∷ 4 ∷ 6 ∷ 8 ∷ []) n 0

-- the tab of a second byte after 17
abbrev pub tab_in : ℕ → Option Control
tab_in b = cond (within 0x21 0x23 b) (Some (control.Tab (tab_of (b - 0x20)))) None
