-- TEXT has characters of 20 to 7E alone, so that no content byte breaks a line; and each of these is shown as itself.
-- Assumes nothing.
use Prim.Native.Nat.{ℕ}
use mathlib.Core.Bool.{Bool, cond, false, true}
use mathlib.Core.Path.{◌≡◌, refl, ap}
use Rattle.code.specs.Range.{within}
use Rattle.packet_lines.specs.Words.{character}

pub shown_in_range : (b : ℕ) → within 0x20 0x7E (character b) ≡ true
shown_in_range b = by (within 0x20 0x7E b) refl
  where
    by : (t : Bool) → within 0x20 0x7E b ≡ t → within 0x20 0x7E (cond t b 0x2E) ≡ true
    by true e = e
    by false e = refl

pub shown_as_itself : (b : ℕ) → within 0x20 0x7E b ≡ true → character b ≡ b
shown_as_itself b e = ap (λ (t : Bool). cond t b 0x2E) e
