-- The two bytes are one pair, and its line waits.
use Rattle.std.proofs.Common.{rules, refl, ap₂}
use Rattle.lines.proofs.Puts.{taken_back}
use Rattle.lines.specs.Put.{Placed}
use Rattle.lines.specs.declared.listing.Listing.{Listing}
use Rattle.lines.proofs.listing.Listing.after_pair.Goals as goal

pub returns : goal.returns
returns c =
    let one = c.list_pairs.ensures.one refl in
    ap₂ {C = Listing} (λ (x : Listing) (s : Placed). record { receiver = x.receiver; half = x.half; pairs = x.pairs; refused = x.refused; ended = c.args.self.ended; line = record { bytes = s.1; at = 0; len = s.0 } }) one.0
    (taken_back c.list_pairs.new.out (search rules) one.1)
