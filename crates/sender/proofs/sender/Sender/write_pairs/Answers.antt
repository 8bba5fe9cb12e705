-- A turn of the loop is a send (`Filling.one_turn`), and with no turn left the writer has come to what has been done.
use Rattle.std.proofs.Common.{◌+◌, ◌*◌, ◌≡◌, true, ap, ap₂, sym, ◌∙◌, set, arith}
use Rattle.code.specs.Outcome.{Outcome}
use Rattle.code.specs.declared.pair.Pair.{Pair}
use Rattle.sender.proofs.Filling.{comes_to, done_at_most, done_when_idle, one_turn}
use Rattle.sender.proofs.Refines.{sent_formed}
use Rattle.sender.proofs.Steps.{step_is_the_send}
use Rattle.sender.specs.ByParts.{moved}
use Rattle.sender.specs.Sender.{well_formed}
use Rattle.sender.specs.declared.send.Step.{Step}
use Rattle.sender.specs.declared.sender.Sender.{Sender}
use Rattle.sender.proofs.sender.Sender.write_pairs.Goals as goal

pub returns-then-has_nothing : goal.returns-then-has_nothing
returns-then-has_nothing c =
    let loop = c.loop-sends in
    sym (done_when_idle c.args.limit loop.sends loop.self loop.part (2 * loop.sends) (sym c.if-has_nothing.ensures)) ∙ loop.invariant.0

pub loop-sends-preserved : goal.loop-sends-preserved
loop-sends-preserved c =
    let loop = c.loop-sends in
    let limit = c.args.limit in
    let s = loop.self in
    let is_formed : well_formed s ≡ true = loop.invariant.1 in
    let made = c.make.ensures ∙ ap (moved s) c.step-step.ensures in (
      ap₂ (λ (x : Sender) (t : Step). comes_to limit (loop.sends + 1) x (set (set loop.part (2 * loop.sends) t.pair.0) (2 * loop.sends + 1) t.pair.1) (2 * (loop.sends + 1))) made c.step-step.ensures
          ∙ one_turn limit loop.sends s loop.part is_formed (omega arith) (omega arith) (sym c.if-has_nothing.ensures)
          ∙ loop.invariant.0,
      ap well_formed made
          ∙ ap (λ (r : Outcome Pair × Sender). well_formed r.1) (step_is_the_send s is_formed)
          ∙ sent_formed s is_formed,
    )

pub returns : goal.returns
returns c =
    let loop = c.loop-sends in
    sym (done_at_most c.args.limit c.min-most.result loop.sends loop.self loop.part (omega (arith, c.min-most.ensures)) (omega arith))
    ∙ loop.invariant.0
