-- By whether the listing stops with so much room.
use Rattle.std.proofs.Common.{refl, ap, rules, sym, ◌∙◌}
use Rattle.packet_lines.proofs.Reading.{ended_so, no_end, same_turn, the_end}
use Rattle.packet_lines.specs.Pieces.{ended_by}
use Rattle.packet_lines.proofs.listing.PacketListing.end.Goals as goal

pub returns-then-stops : goal.returns-then-stops
returns-then-stops c = no_end c.args.self c.args.output.now (sym c.stops.ensures ∙ c.if-stops.true)

pub returns : goal.returns
returns c =
    let l = c.args.self in
    the_end l c.args.output.now (sym c.stops.ensures ∙ c.if-stops.false) refl
    (same_turn (ap (λ r. ended_by r l) c.end_refusal.ensures ∙ ended_so l) c.end_by.ensures)
    (search rules)
