-- The fold goes over the contents, and gives their sum modulo 128.
use Rattle.std.proofs.Common.{rules, ◌≡◌, ◌∙◌}
use Rattle.std.specs.List.{fold}
use Rattle.extended.specs.State.{contents_of}
use Rattle.extended.proofs.ContentsLemmas.{plus, sum_by_fold}
use Rattle.extended.proofs.packet.Contents.sum.Goals as goal

pub returns : goal.returns
returns c =
    let over : c.fold.result ≡ fold plus 0 (contents_of c.args.self) = search rules in
    over ∙ sum_by_fold (contents_of c.args.self)
