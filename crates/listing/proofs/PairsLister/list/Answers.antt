use Rattle.std.proofs.Common.{arith, ap, ◌∙◌, ◌++◌, ℕ, List, append_assoc, subst, take}
use Rattle.std.proofs.KnownBytes.{Appends-trans}
use Rattle.std.specs.Io.KnownBytes.{Appends}
use Rattle.lines.proofs.Called as called
use Rattle.lines.specs.declared.listing.Listing.{Listing}
use Rattle.listing.specs.declared.Pairs.{Pairs}
use Rattle.listing.proofs.WhatIsLeft as left
use Rattle.listing.proofs.PairsLister.list.Goals as goal

abbrev in_pairs : Listing → Pairs
in_pairs l = record { 0 = l }

pub shared_ref_as_front-write_all : goal.shared_ref_as_front-write_all
shared_ref_as_front-write_all g c =
    omega (arith, called.writes_no_more c.loop-listing.listing c.loop-listing.rest.now c.loop-listing.buffer c.read.result c.read.new.output c.read.ensures)

pub slice_bounds-rest-count : goal.slice_bounds-rest-count
slice_bounds-rest-count g c =
    called.takes_no_more c.loop-listing.listing c.loop-listing.rest.now c.loop-listing.buffer c.read.result c.read.new.output c.read.ensures

pub slice_bounds-rest-start : goal.slice_bounds-rest-start
slice_bounds-rest-start g c =
    called.takes_no_more c.loop-listing.listing c.loop-listing.rest.now c.loop-listing.buffer c.read.result c.read.new.output c.read.ensures

pub returns-then-progress-lt65536-clause-leaves : goal.returns-then-progress-lt65536-clause-leaves
returns-then-progress-lt65536-clause-leaves g c =
    ap in_pairs
    (called.all_where_not_full c.loop-listing.listing c.loop-listing.rest.now c.loop-listing.buffer c.read.result c.read.new.output c.read.ensures (omega (arith, c.if-progress-lt65536.true, c.read.auto.output)) ∙ c.loop-listing.invariant.0)

pub returns-then-progress-lt65536-clause-writes : goal.returns-then-progress-lt65536-clause-writes
returns-then-progress-lt65536-clause-writes g c =
    let begun = g.W.Write.contents c.args.output.now in
    let before = g.W.Write.contents c.loop-listing.output in
    let now = g.W.Write.contents c.write_all.new.self in
    let text = c.loop-listing.invariant.1 in
    let written = take c.read.result.1.written c.read.new.output in
    subst (Appends begun now)
    (ap (λ (xs : List ℕ). text ++ xs) (left.says_all c.loop-listing.listing c.loop-listing.rest.now c.loop-listing.buffer c.read.result c.read.new.output c.read.ensures (omega (arith, c.if-progress-lt65536.true, c.read.auto.output))) ∙ c.loop-listing.invariant.3)
    (Appends-trans begun before now text written c.loop-listing.invariant.2 c.in_ok-write_all.ensures.bytes)

pub loop-listing-smaller : goal.loop-listing-smaller
loop-listing-smaller g c =
    left.less_to_write c.loop-listing.listing c.loop-listing.rest.now c.loop-listing.buffer c.read.result c.read.new.output c.read.ensures (omega arith) (omega (arith, c.if-progress-lt65536.false))

pub loop-listing-preserved : goal.loop-listing-preserved
loop-listing-preserved g c =
    let begun = g.W.Write.contents c.args.output.now in
    let before = g.W.Write.contents c.loop-listing.output in
    let now = g.W.Write.contents c.write_all.new.self in
    let text = c.loop-listing.invariant.1 in
    let written = take c.read.result.1.written c.read.new.output in (
      left.ends_the_same c.loop-listing.listing c.loop-listing.rest.now c.loop-listing.buffer c.read.result c.read.new.output c.read.ensures ∙ c.loop-listing.invariant.0,
      text ++ written,
      Appends-trans begun before now text written c.loop-listing.invariant.2 c.in_ok-write_all.ensures.bytes,
      append_assoc text written _ ∙ ap (λ (xs : List ℕ). text ++ xs) (left.says_the_same c.loop-listing.listing c.loop-listing.rest.now c.loop-listing.buffer c.read.result c.read.new.output c.read.ensures) ∙ c.loop-listing.invariant.3,
    )
