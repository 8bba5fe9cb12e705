-- A flush puts what waits of a line, or as much of it as there is room for.
-- Assumes nothing.
use mathlib.Core.List.{List}
use mathlib.Core.Path.{◌≡◌, refl, ap, sym, ◌∙◌}
use Prim.Native.Nat.{ℕ, ◌+◌, ◌≤◌, ◌<◌, min}
use native.Mathlib.Omega.{arith}
use borrow.Author.Tests.{le-ltb, lt-ltb}
use lib.ListN.{length, take}
use Rattle.std.proofs.lemmas.List.{take_min}
use Rattle.lines.proofs.Puts.{same_bytes}
use Rattle.lines.proofs.Waiting.{empty_where_no_more, how_many_lem}
use Rattle.lines.specs.Line.{Flushes, empty_line, pending, waiting, writes}
use Rattle.lines.specs.Put.{Puts, room_of}
use Rattle.lines.specs.declared.line.Line.{Line}
use Rattle.lines.specs.declared.put.Writer.{Writer}

module _ (l : Line) {w next : Writer} {bytes : List ℕ} (waits : bytes ≡ pending l) (count : ℕ) (most : count ≡ min (length bytes) (room_of w)) (puts : Puts w (take count bytes) next) where
  how_many : length bytes ≡ waiting l
  how_many = ap length waits ∙ how_many_lem l

  all_that_fits : take count bytes ≡ writes l (room_of w)
  all_that_fits =
      let other : count ≡ min (room_of w) (length bytes) = omega (arith, most) in
      ap (λ (n : ℕ). take n bytes) other ∙ take_min (room_of w) bytes ∙ ap (take (room_of w)) waits

  pub flushes_all : length bytes ≤ count → (rest : Line) → rest ≡ empty_line → Flushes l w rest next
  flushes_all all rest empty = record {
    puts = same_bytes all_that_fits puts;
    leaves = empty ∙ sym (empty_where_no_more l (room_of w) (le-ltb (room_of w) (waiting l) (omega (arith, all, most, how_many))));
  }

  pub flushes_some : count < length bytes → Flushes l w (record { bytes = l.bytes; at = l.at + count; len = l.len }) next
  flushes_some less =
      let full : count ≡ room_of w = omega (arith, less, most) in record {
        puts = same_bytes all_that_fits puts;
        leaves = ap {B = Line} (λ (n : ℕ). record { bytes = l.bytes; at = l.at + n; len = l.len }) full ∙ sym (rw (lt-ltb (room_of w) (waiting l) (omega (arith, less, full, how_many))) refl);
      }
