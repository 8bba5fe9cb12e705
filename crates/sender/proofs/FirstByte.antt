-- A first byte of 10 to 1F, by its two bounds.
-- Assumes nothing.
use mathlib.Core.Bool.{false}
use mathlib.Core.Path.{◌≡◌, refl}
use Prim.Native.Nat.{ℕ, ◌≤◌, ◌<◌}
use borrow.Author.Tests.{le-leb, lt-leb}
use lib.Dec.{leb}
use Rattle.code.specs.Read.{is_command}

pub below : (a : ℕ) → a < 0x10 → false ≡ is_command a
below a h = rw (lt-leb 0x10 a h) refl

pub not_below : (a : ℕ) → 0x10 ≤ a → leb a 0x1F ≡ is_command a
not_below a h = rw (le-leb 0x10 a h) refl
