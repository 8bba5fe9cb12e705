-- As much of it as there is room for.
use Rattle.std.proofs.Common.{refl, sym}
use Rattle.lines.proofs.Puts.{as_far_as_room, none_left}
use Rattle.lines.specs.Put.{placed}
use Rattle.lines.proofs.put.Writer.put_word.Goals as goal

pub returns-then-self : goal.returns-then-self
returns-then-self c =
    as_far_as_room c.args.word.now c.min-count.result c.if-self.true c.min-count.ensures c.put_bytes.ensures

pub returns-else-self : goal.returns-else-self
returns-else-self c = record {
  same_memory = refl;
  put = sym (none_left c.args.word.now (placed c.args.self.now) c.if-self.false);
}
