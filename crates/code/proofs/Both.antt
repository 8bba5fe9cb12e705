-- Where two tests hold together, each holds: one law for every crate.
-- Assumes nothing.
use mathlib.Core.Bool.{Bool, true, false, ◌&&◌, true≢false}
use mathlib.Core.Path.{◌≡◌, refl, sym}

pub both_left : (t u : Bool) → (t && u) ≡ true → t ≡ true
both_left true u e = refl
both_left false u e = e

pub both_right : (t u : Bool) → (t && u) ≡ true → u ≡ true
both_right true u e = e
both_right false u e = absurd (true≢false (sym e))

-- where the second fails, they do not hold together
pub both_fail : (t : Bool) → (t && false) ≡ false
both_fail true = refl
both_fail false = refl

pub both_true : (t u : Bool) → (t && u) ≡ true → (t ≡ true) × (u ≡ true)
both_true t u e = (both_left t u e, both_right t u e)
