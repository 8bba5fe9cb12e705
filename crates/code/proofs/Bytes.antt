-- The bytes of symbols and preambles stay below 0x80 where a column, or a style and its underline, is added to them. The
-- code points of characters, as the code's one table has them.
-- Assumes nothing.
use Rattle.std.specs.Prelude.{None, Some}
use mathlib.Core.Bool.{true}
use mathlib.Core.Path.{◌≡◌, refl, ap, sym}
use Prim.Native.Nat.{ℕ, ◌+◌, ◌*◌, ◌≤◌, ◌<◌}
use native.Mathlib.Nat.{add_assoc, add-zero}
use borrow.Author.Tests.{leb-true}
use lib.Dec.{leb, lit<}
use lib.ListN.{get_or}
use Rattle.code.proofs.Agree.{agree}
use Rattle.code.specs.Characters.{standard, symbols}
use Rattle.code.specs.Pair.{pair, plus}
use Rattle.code.specs.Preamble.{row_prefix}
use Rattle.code.specs.Symbol.{symbol_base}
use Rattle.code.specs.Tables.{all_points, character_of}
use Rattle.code.specs.declared.symbol.SymbolRow.{SymbolRow}
use Rattle.code.specs.declared.symbol.SymbolRow.TheVariants.{Special, Spanish, French, Portuguese, German}

-- the second byte of a row's first symbol is below 40
pub base_small : (r : SymbolRow) → (symbol_base r).1 < 64
base_small Special = lit< tt
base_small Spanish = lit< tt
base_small French = lit< tt
base_small Portuguese = lit< tt
base_small German = lit< tt

-- the second byte of a row's white preamble is at most 60
pub prefix_small : (row : ℕ) → row < 15 → (row_prefix row).1 ≤ 96
prefix_small row inside =
    leb-true (row_prefix row).1 96 (agree (λ (x : ℕ). leb (row_prefix x).1 96) (λ (x : ℕ). true) 15 refl row inside)

-- a preamble's bytes, with and without the underline, are its row's with the style added
pub underlined_row : (row s : ℕ) → pair (row_prefix row).0 ((row_prefix row).1 + 2 * s + 1) ≡ plus (row_prefix row) (2 * s + 1)
underlined_row row s = ap (pair (row_prefix row).0) (add_assoc (row_prefix row).1 (2 * s) 1)

pub plain_row : (row s : ℕ) → pair (row_prefix row).0 ((row_prefix row).1 + 2 * s) ≡ plus (row_prefix row) (2 * s + 0)
plain_row row s = ap (λ (n : ℕ). plus (row_prefix row) n) (sym (add-zero (2 * s)))

-- the code points of the code's one table are the definition's
pub letter_point : (n : ℕ) → n < 96 → Some (get_or all_points n 0) ≡ get_or standard n None
unfolding standard symbols
letter_point n less = agree (λ (x : ℕ). Some (get_or all_points x 0)) (λ (x : ℕ). get_or standard x None) 96 refl n less

pub symbol_point : (n : ℕ) → n < 80 → character_of (get_or all_points (96 + n) 0) ≡ get_or symbols n None
unfolding standard symbols
symbol_point n less = agree (λ (x : ℕ). character_of (get_or all_points (96 + x) 0)) (λ (x : ℕ). get_or symbols x None) 80 refl n less
