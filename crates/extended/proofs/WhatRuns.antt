-- What runs after any pair: a refused pair changes nothing of it, and any other pair what its part says.
-- Assumes nothing.
use mathlib.Core.Bool.{Bool, cond, false}
use mathlib.Core.Path.{◌≡◌, refl, ap₂, sym}
use Rattle.code.specs.declared.pair.Pair.{Pair}
use Rattle.extended.proofs.Ways.{Way, acts, corrupted, ends_in_captions, ends_without_packet, fills, finishes, continues, has_wrong_sum, heard_not_refused, is_passed_over, is_text_lem, is_too_long, no_such_packet, starts, way_of}
use Rattle.extended.specs.Extended.{Read, Reader, read}
use Rattle.extended.specs.Part.{part_of}
use Rattle.extended.specs.Reading.{Is, first, is_refused}
use Rattle.extended.specs.WhatRuns.{runs_after}
use Rattle.extended.specs.declared.part.Part.{Part}

abbrev RunsOn : Reader → Pair → Read → Type 0
RunsOn s p r = r.1.running ≡ cond (is_refused r.0) s.running (runs_after (part_of (first p)) s.running)

-- a pair of this part that is not refused
taken_so : (s : Reader) (p : Pair) (x : Part) → Is x p → (t : Bool) → t ≡ false → runs_after x s.running ≡ cond t s.running (runs_after (part_of (first p)) s.running)
taken_so s p x is t e = ap₂ (λ (u : Bool) (y : Part). cond u s.running (runs_after y s.running)) (sym e) (sym is.part)

by_way : (s : Reader) (p : Pair) (r : Read) → Way s p r → RunsOn s p r
by_way s p _ (corrupted even) = refl
by_way s p _ (acts is) = taken_so s p _ is _ (heard_not_refused s p is.odd)
by_way s p _ (is_text_lem is runs) = taken_so s p _ is _ (heard_not_refused s p is.odd)
by_way s p _ (starts c is) = taken_so s p _ is false refl
by_way s p _ (continues c is there) = taken_so s p _ is false refl
by_way s p _ (no_such_packet c is other) = refl
by_way s p _ (ends_in_captions is runs) = refl
by_way s p _ (ends_without_packet c is runs gone) = refl
by_way s p _ (finishes c k is runs there right) = taken_so s p _ is false refl
by_way s p _ (has_wrong_sum c k is runs there wrong) = refl
by_way s p _ (is_passed_over c is runs gone) = taken_so s p _ is false refl
by_way s p _ (fills c k is runs there room) = taken_so s p _ is false refl
by_way s p _ (is_too_long c k is runs there full) = refl

pub what_runs : (s : Reader) (p : Pair) → (read s p).1.running ≡ cond (is_refused (read s p).0) s.running (runs_after (part_of (first p)) s.running)
what_runs s p = by_way s p (read s p) (way_of s p)
