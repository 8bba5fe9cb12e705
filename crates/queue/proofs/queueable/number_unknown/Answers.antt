-- 2 by either byte.
use Rattle.std.proofs.Common.{le-ltb, lt-ltb}
use Rattle.code.specs.declared.control.Control.TheVariants as control
use Rattle.queue.proofs.Verdicts.{as_tested}
use Rattle.queue.proofs.queueable.number_unknown.Goals.{then-first-ge128-via-then-first-ge128, then-first-ge128-via-else-first-ge128+then-second-ge128}
use Rattle.queue.proofs.queueable.number_unknown.Goals as goal

pub returns-then-first-ge128 : goal.returns-then-first-ge128
returns-then-first-ge128 c =
    elim c.then-first-ge128.branch [
      | then-first-ge128-via-then-first-ge128 w ↦ as_tested _ (control.Unknown _ _) _ (simp (le-ltb _ _ w.if-first-ge128.true))
      | then-first-ge128-via-else-first-ge128+then-second-ge128 w ↦ as_tested _ (control.Unknown _ _) _ (simp (lt-ltb _ _ w.if-first-ge128.false, le-ltb _ _ w.if-second-ge128.true))
    ]
