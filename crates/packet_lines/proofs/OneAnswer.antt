-- The answer is unique: the outcome of `read` and of `end`, how much was taken and written, the listing and the output, is
-- injective. The other promises equate the answer itself with its definition.
-- Assumes nothing.
use Prim.Native.Nat.{ℕ}
use mathlib.Core.List.{List}
use mathlib.Core.Path.{ap}
use Rattle.code.proofs.OneAnswer.{Injective}
use Rattle.packet_lines.specs.Pieces.{Read, read_outcome}
use Rattle.packet_lines.specs.declared.listing.PacketListing.{PacketListing}
use Rattle.lines.specs.declared.listing.Progress.{Progress}

pub read_injective : Injective (λ (r : (PacketListing × Progress) × List ℕ). read_outcome r.0 r.1)
read_injective r s e =
    ap {B = (PacketListing × Progress) × List ℕ} (λ (w : Read). ((w.2, record { taken = w.0; written = w.1 }), w.3)) e
