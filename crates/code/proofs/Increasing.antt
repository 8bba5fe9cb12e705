-- A table whose bytes rise, from one test that antt computes over the table.
-- Assumes nothing.
use mathlib.Core.Bool.{Bool, true, false, ◌&&◌}
use mathlib.Core.List.{List, [], ◌∷◌}
use Prim.Native.Nat.{ℕ, zero, suc, ◌<◌}
use native.Mathlib.Nat.{le_of_suc-le-suc, not-suc-le-zero}
use lib.Dec.{T, ltb, ltb→lt}
use lib.ListN.{length, get_or}
use Rattle.code.specs.Tables.{bytes_of}

abbrev key_at : List ℕ → ℕ → ℕ
key_at t i = bytes_of (get_or t i 0)

-- each entry's bytes are above those of every entry before it
abbrev pub Increasing : List ℕ → Type 0
Increasing t = (i j : ℕ) → i < j → j < length t → key_at t i < key_at t j

both : (a b : Bool) → T (a && b) → T a × T b
both true b h = (tt, h)
both false b h = absurd h

-- the test: each entry's bytes are below those of all entries after it
abbrev all_above : ℕ → List ℕ → Bool
all_above b [] = true
all_above b (y ∷ ys) = ltb b (bytes_of y) && all_above b ys

abbrev rising : List ℕ → Bool
rising [] = true
rising (x ∷ xs) = all_above (bytes_of x) xs && rising xs

above_at : (b : ℕ) (t : List ℕ) → T (all_above b t) → (j : ℕ) → j < length t → b < key_at t j
above_at b [] h j less = absurd (not-suc-le-zero less)
above_at b (y ∷ ys) h zero less = ltb→lt b (bytes_of y) (both (ltb b (bytes_of y)) (all_above b ys) h).0
above_at b (y ∷ ys) h (suc j) less = above_at b ys (both (ltb b (bytes_of y)) (all_above b ys) h).1 j (le_of_suc-le-suc less)

pub increasing : (t : List ℕ) → T (rising t) → Increasing t
increasing [] h i j before less = absurd (not-suc-le-zero less)
increasing (x ∷ xs) h i zero before less = absurd (not-suc-le-zero before)
increasing (x ∷ xs) h zero (suc j) before less =
    above_at (bytes_of x) xs (both (all_above (bytes_of x) xs) (rising xs) h).0 j (le_of_suc-le-suc less)
increasing (x ∷ xs) h (suc i) (suc j) before less =
    increasing xs (both (all_above (bytes_of x) xs) (rising xs) h).1 i j (le_of_suc-le-suc before) (le_of_suc-le-suc less)
