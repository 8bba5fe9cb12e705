use Rattle.std.proofs.Common.{arith, ap, sym, ◌∙◌, ◌++◌, ℕ, List, append-nil, append_assoc, subst, take}
use Rattle.std.proofs.KnownBytes.{Appends-trans}
use Rattle.std.specs.Io.KnownBytes.{Appends}
use Rattle.packet_lines.proofs.Called as called
use Rattle.packet_lines.specs.Pieces.{Piece}
use Rattle.packet_lines.specs.declared.listing.PacketListing.{PacketListing}
use Rattle.packets.specs.declared.Packets.{Packets}
use Rattle.packets.proofs.WhatIsLeft as left
use Rattle.packets.proofs.WhatIsLeft.{after_no_bytes, end_says, no_bytes_say}
use Rattle.packets.proofs.PacketsLister.list.Goals as goal

abbrev packets_of : PacketListing → Packets
packets_of l = record { 0 = l }

pub shared_ref_as_front-write_all : goal.shared_ref_as_front-write_all
shared_ref_as_front-write_all g c =
    omega (arith, called.end_writes_no_more c.args.self.0 c.args.buffer.now c.end.result c.end.new.output c.end.ensures)

pub returns-then-is_empty-clause-leaves : goal.returns-then-is_empty-clause-leaves
returns-then-is_empty-clause-leaves g c =
    ap packets_of
    (called.end_leaves c.args.self.0 c.args.buffer.now c.end.result c.end.new.output c.end.ensures (omega arith) ∙ after_no_bytes c.args.self c.args.block.now (grind (arith, c.if-is_empty.ensures)))

pub returns-then-is_empty-clause-writes : goal.returns-then-is_empty-clause-writes
returns-then-is_empty-clause-writes g c =
    subst (Appends (g.W.Write.contents c.args.output.now) (g.W.Write.contents c.write_all.new.self))
    (end_says c.args.self.0 c.args.buffer.now c.end.result c.end.new.output c.end.ensures (omega arith) ∙ no_bytes_say c.args.self c.args.block.now (grind (arith, c.if-is_empty.ensures)))
    c.in_ok-write_all.ensures.bytes

pub shared_ref_as_front-write_all-in-loop-rest : goal.shared_ref_as_front-write_all-in-loop-rest
shared_ref_as_front-write_all-in-loop-rest g c =
    omega (arith, called.writes_no_more c.loop-rest.listing c.loop-rest.rest.now c.loop-rest.buffer c.read.result c.read.new.output c.read.ensures)

pub slice_bounds-rest-count : goal.slice_bounds-rest-count
slice_bounds-rest-count g c =
    called.takes_no_more c.loop-rest.listing c.loop-rest.rest.now c.loop-rest.buffer c.read.result c.read.new.output c.read.ensures

pub slice_bounds-rest-start : goal.slice_bounds-rest-start
slice_bounds-rest-start g c =
    called.takes_no_more c.loop-rest.listing c.loop-rest.rest.now c.loop-rest.buffer c.read.result c.read.new.output c.read.ensures

pub loop-rest-smaller : goal.loop-rest-smaller
loop-rest-smaller g c =
    left.is_less c.loop-rest.listing c.loop-rest.rest.now c.loop-rest.buffer c.read.result c.read.new.output c.read.ensures (sym c.if-not-is_done.ensures) (omega arith) (grind (arith, c.loop-rest-test.ensures))

pub loop-rest-preserved : goal.loop-rest-preserved
loop-rest-preserved g c =
    let begun = g.W.Write.contents c.args.output.now in
    let before = g.W.Write.contents c.loop-rest.output in
    let now = g.W.Write.contents c.write_all-in-loop-rest.new.self in
    let text = c.loop-rest.invariant.1 in
    let written = take c.read.result.1.written c.read.new.output in (
      left.ends_the_same c.loop-rest.listing c.loop-rest.rest.now c.loop-rest.buffer c.read.result c.read.new.output c.read.ensures ∙ c.loop-rest.invariant.0,
      text ++ written,
      Appends-trans begun before now text written c.loop-rest.invariant.2 c.in_ok-write_all-2.ensures.bytes,
      append_assoc text written _ ∙ ap (λ (xs : List ℕ). text ++ xs) (left.says_the_same c.loop-rest.listing c.loop-rest.rest.now c.loop-rest.buffer c.read.result c.read.new.output c.read.ensures) ∙ c.loop-rest.invariant.3,
    )

pub returns-else-not-is_done-clause-leaves : goal.returns-else-not-is_done-clause-leaves
returns-else-not-is_done-clause-leaves g c =
    ap packets_of
    (sym (ap (λ (x : Piece). x.next) (called.where_ended c.loop-rest.listing c.loop-rest.rest.now (sym c.if-not-is_done.ensures))) ∙ c.loop-rest.invariant.0)

pub returns-else-not-is_done-clause-writes : goal.returns-else-not-is_done-clause-writes
returns-else-not-is_done-clause-writes g c =
    let text = c.loop-rest.invariant.1 in
    subst (Appends (g.W.Write.contents c.args.output.now) (g.W.Write.contents c.loop-rest.output))
    (sym (append-nil text) ∙ ap (λ (xs : List ℕ). text ++ xs) (sym (ap (λ (x : Piece). x.text) (called.where_ended c.loop-rest.listing c.loop-rest.rest.now (sym c.if-not-is_done.ensures)))) ∙ c.loop-rest.invariant.3)
    c.loop-rest.invariant.2
