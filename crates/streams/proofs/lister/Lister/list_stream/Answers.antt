-- Nothing is listed at first; each turn lists a block more, or reads nothing; the last one ends it.
use Rattle.std.proofs.Common.{arith, sym}
use Rattle.streams.proofs.Blocks.{begins, finishes, goes_on}
use Rattle.streams.proofs.lister.Lister.list_stream.Goals as goal

pub loop-init : goal.loop-init
loop-init g c =
    begins g.Self.Lister.after_block g.Self.Lister.block_text g.Self.Lister.fresh c.new-listing.result
    (g.R.Read.remaining c.args.from.now) (g.W.Write.contents c.args.output.now) c.new-listing.ensures

pub returns-then-is_done-clause-lists_all : goal.returns-then-is_done-clause-lists_all
returns-then-is_done-clause-lists_all g c =
    finishes g.Self.Lister.after_block g.Self.Lister.block_text g.Self.Lister.fresh
    g.Self.Lister.done g.met.Self.Lister.ends_done g.met.Self.Lister.stays_done g.Self.Lister.listing g.met.Self.Lister.any_cutting
    c.loop.listing c.in_ok-listing.listing
    (g.R.Read.remaining c.args.from.now) (g.R.Read.remaining c.loop.from) (g.R.Read.remaining c.read-read.new.self)
    (g.W.Write.contents c.args.output.now) (g.W.Write.contents c.loop.output) (g.W.Write.contents c.after_read.new.output)
    c.read-read.result c.read-read.new.buf (omega (arith, c.read-read.auto.buf)) c.loop.invariant c.read-read.ensures.bytes
    c.in_ok-listing.ensures.leaves c.in_ok-listing.ensures.writes (sym c.if-is_done.ensures)

pub loop-preserved : goal.loop-preserved
loop-preserved g c =
    goes_on g.Self.Lister.after_block g.Self.Lister.block_text g.Self.Lister.fresh
    g.Self.Lister.done g.met.Self.Lister.ends_done
    c.loop.listing c.in_ok-listing.listing
    (g.R.Read.remaining c.args.from.now) (g.R.Read.remaining c.loop.from) (g.R.Read.remaining c.read-read.new.self)
    (g.W.Write.contents c.args.output.now) (g.W.Write.contents c.loop.output) (g.W.Write.contents c.after_read.new.output)
    c.read-read.result c.read-read.new.buf c.loop.invariant c.read-read.ensures.bytes
    c.in_ok-listing.ensures.leaves c.in_ok-listing.ensures.writes (sym c.if-is_done.ensures)
