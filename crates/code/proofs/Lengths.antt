-- How long codes are, for the layers above: one byte or two, and what is read as text has one.
-- Assumes nothing.
use mathlib.Core.Bool.{Bool, true, false, cond}
use mathlib.Core.Path.{◌≡◌, refl, sym}
use Prim.Native.Nat.{ℕ}
use lib.Dec.{eqb, leb}
use Rattle.code.specs.Code.{byte_len}
use Rattle.code.specs.Read.{single}
use Rattle.code.specs.declared.code.Code.{Code}
use Rattle.code.specs.declared.code.Code.TheVariants as code

-- a code that has not one byte has two
pub not_one_is_two : (c : Code) → eqb (byte_len c) 1 ≡ false → eqb (byte_len c) 2 ≡ true
not_one_is_two code.Nul e = sym e
not_one_is_two (code.Control c) e = refl
not_one_is_two (code.Letter l) e = sym e
not_one_is_two (code.Unknown b) e = sym e

printed : (t : Bool) (c : Code) (b : ℕ) → byte_len c ≡ 1 → byte_len (cond t c (code.Unknown b)) ≡ 1
printed true c b e = e
printed false c b e = refl

or_nul : (t : Bool) (c : Code) → byte_len c ≡ 1 → byte_len (cond t code.Nul c) ≡ 1
or_nul true c e = refl
or_nul false c e = e

-- each of the two codes of a text pair has one byte
pub text_has_one_byte : (b : ℕ) → byte_len (single b) ≡ 1
text_has_one_byte b = or_nul (eqb b 0) _ (printed (leb 0x20 b) _ b refl)
