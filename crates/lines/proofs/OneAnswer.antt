-- The answer is unique: the outcome of `read`, how much was taken and written, the listing and the output, is
-- injective. The other promises equate the answer itself with its definition.
-- Assumes nothing.
use mathlib.Core.List.{List}
use mathlib.Core.Path.{ap}
use Prim.Native.Nat.{ℕ}
use Rattle.code.proofs.OneAnswer.{Injective}
use Rattle.lines.specs.Pieces.{read_outcome}
use Rattle.lines.specs.declared.listing.Listing.{Listing}
use Rattle.lines.specs.declared.listing.Progress.{Progress}

pub read_injective : Injective (λ (r : (Listing × Progress) × List ℕ). read_outcome r.0 r.1)
read_injective r s e =
    ap {B = (Listing × Progress) × List ℕ}
    (λ (w : ℕ × ℕ × Listing × List ℕ). ((w.2, record { taken = w.0; written = w.1 }), w.3)) e
