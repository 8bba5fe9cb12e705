-- The parts of the control code are the definition's (`parsed`).
use Rattle.std.proofs.Common.{ap, ◌∙◌}
use Rattle.code.proofs.Meaning.{parsed}
use Rattle.code.specs.Read.{meaning}
use Rattle.code.proofs.control.ControlCode.parse.Goals as goal

pub returns : goal.returns
returns c =
    rw c.unwrap_or.ensures
    (parsed _ _ _ _ _ c.meaning-meaning.result c.requires.0 c.requires.1 c.requires.3 c.field.ensures
    c.without_field.ensures.first (c.meaning-meaning.ensures ∙ ap (meaning _) c.without_field.ensures.second))
