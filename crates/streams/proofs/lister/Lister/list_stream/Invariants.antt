-- What was read so far has been listed.
use Rattle.streams.proofs.Blocks.{Listed}
use Rattle.streams.proofs.lister.Lister.list_stream.Given as goal

abbrev pub invariant-loop : goal.invariant-loop
invariant-loop g l =
    Listed g.Self.Lister.after_block g.Self.Lister.block_text g.Self.Lister.fresh l.listing (g.R.Read.remaining l.initial.from) (g.R.Read.remaining l.from) (g.W.Write.contents l.initial.output) (g.W.Write.contents l.output)
