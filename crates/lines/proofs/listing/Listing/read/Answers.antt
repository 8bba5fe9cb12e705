use Rattle.std.proofs.Common.{rules, ◌∙◌}
use Rattle.lines.proofs.Reading.{begun, read_whole}
use Rattle.lines.proofs.listing.Listing.read.Goals as goal

pub returns : goal.returns
returns c =
    read_whole (search rules) c.read_into-taken.ensures ∙ begun c.args.input.now c.args.self c.args.output.now
