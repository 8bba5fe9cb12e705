-- The line of a refusal, where there is one, and the last line with one refusal more.
use Rattle.std.proofs.Common.{[], refl, ap, sym, subst, ◌∙◌}
use Rattle.lines.proofs.Puts.{◌then◌}
use Rattle.lines.specs.Put.{Puts}
use Rattle.lines.specs.Words.{line, refused_words}
use Rattle.packet_lines.proofs.Reading.{closed_so, same_turn}
use Rattle.packet_lines.proofs.listing.PacketListing.end_by.Goals.{in-Some, in_default}
use Rattle.packet_lines.specs.Pieces.{ended_by, refused_by}
use Rattle.packet_lines.specs.Words.{last_line}
use Rattle.packet_lines.proofs.listing.PacketListing.end_by.Goals as goal

pub returns : goal.returns
returns c =
    let l = c.args.self.now in
    let out = c.args.out.now in
    elim c.match-refusal.branch [
      | in-Some w ↦
          let said = subst (λ x. Puts out (line l.pairs (refused_words w.number.result)) x) (sym w.out-is) w.put_refused_line.ensures in
          same_turn (ap (λ n. refused_by n l) w.number.ensures ∙ ap (λ r. ended_by r l) (sym w.in-Some.is))
          (closed_so l _ (w.refused-is ∙ w.one_more-refused.ensures) (said then c.put_last_line.ensures) refl)
      | in_default w ↦
          same_turn (ap (λ r. ended_by r l) (sym w.in_default.is))
          (closed_so l [] w.refused-is (subst (λ x. Puts x (last_line l.pairs l.packets c.match-refusal.refused) c.put_last_line.new.out) w.out-is c.put_last_line.ensures) refl)
    ]
