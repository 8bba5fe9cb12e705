-- A part of an output, lent from a place on to the end: it is all from that place on, and comes back with nothing after
-- it. One law for every crate.
-- Assumes nothing.
use mathlib.Core.List.{List, ◌++◌, append-nil}
use mathlib.Core.Path.{◌≡◌, ap, ◌∙◌}
use Prim.Native.Nat.{ℕ, ◌-◌, ◌≤◌}
use native.Mathlib.Omega.{arith}
use lib.ListN.{drop, drop_of_length-le, length, length-drop, take}
use lib.Seq.{take_all}

pub lent_part : (out : List ℕ) (start : ℕ) → take (length out - start) (drop start out) ≡ drop start out
lent_part out start = take_all (length out - start) (drop start out) (omega (arith, length-drop start out))

-- an output whose part from a place on is now ys
abbrev pub with_part : List ℕ → ℕ → List ℕ → List ℕ
with_part out start ys = take start out ++ (ys ++ drop (length out - start) (drop start out))

pub with_part_lem : (out : List ℕ) (start : ℕ) (ys : List ℕ) → with_part out start ys ≡ take start out ++ ys
with_part_lem out start ys =
    let short : length (drop start out) ≤ length out - start = omega (arith, length-drop start out) in
    ap (λ (l : List ℕ). take start out ++ (ys ++ l)) (drop_of_length-le (drop start out) short)
    ∙ ap (λ (l : List ℕ). take start out ++ l) (append-nil ys)
