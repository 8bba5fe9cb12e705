-- The copy stands in their places.
use Rattle.std.proofs.Common.{refl, arith}
use Rattle.lines.proofs.Puts.{copied}
use Rattle.lines.proofs.put.Writer.put_bytes.Goals as goal

pub returns : goal.returns
returns c =
    let w = c.args.self.now in record {
      same_memory = refl;
      put = copied w.at _ w.out.now c.args.bytes.now _ (omega arith) c.copy_from_slice.ensures.after c.requires;
    }
