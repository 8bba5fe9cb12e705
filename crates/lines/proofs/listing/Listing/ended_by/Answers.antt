-- The line of a refusal, where there is one, and the last line with one refusal more.
use Rattle.std.proofs.Common.{[], ap, sym, ◌∙◌}
use Rattle.lines.proofs.Ends.{lines_put}
use Rattle.lines.proofs.listing.Listing.ended_by.Goals.{in-Some, in_default}
use Rattle.lines.specs.Pieces.{ended_by, ending, refused_by}
use Rattle.lines.specs.Put.{placed}
use Rattle.lines.specs.Words.{line, refused_words}
use Rattle.lines.proofs.listing.Listing.ended_by.Goals as goal

pub returns : goal.returns
returns c =
    let l = c.args.self in
    let begun = c.args.line in
    elim c.match-refusal.branch [
      | in-Some w ↦
          let words = line l.pairs (refused_words w.number.result) in
          lines_put l begun words (ap placed w.out-is ∙ w.put_refused_line.ensures.put) c.put_last_line.ensures
          ∙ ap (ending l begun words) (w.refused-is ∙ w.one_more-refused.ensures)
          ∙ ap (λ n. refused_by n l begun) w.number.ensures
          ∙ ap (λ r. ended_by r l begun) (sym w.in-Some.is)
      | in_default w ↦
          lines_put l begun [] (ap placed w.out-is) c.put_last_line.ensures
          ∙ ap (ending l begun []) w.refused-is
          ∙ ap (λ r. ended_by r l begun) (sym w.in_default.is)
    ]
