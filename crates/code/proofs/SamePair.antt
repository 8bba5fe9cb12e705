-- A pair has the same bytes as itself: one law for every crate.
-- Assumes nothing.
use mathlib.Core.Bool.{true}
use mathlib.Core.Path.{◌≡◌, refl}
use borrow.Author.Tests.{eq-eqb}
use Rattle.code.specs.Pair.{same_pair}
use Rattle.code.specs.declared.pair.Pair.{Pair}

pub same_itself : (p : Pair) → same_pair p p ≡ true
same_itself p = rw (eq-eqb p.0 p.0 refl, eq-eqb p.1 p.1 refl)
