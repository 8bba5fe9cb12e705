-- What the last arm of a `match` on a number knows: the number is none of the keys before it.
-- Assumes nothing.
use mathlib.Core.Path.{◌≡◌}
use Prim.Native.Nat.{ℕ, zero, suc, ◌≤◌, ◌<◌, zero-le}
use native.Mathlib.Omega.{arith}

-- a number is none of 0 to k - 1, as the last arm has it
abbrev pub NoKey : ℕ → ℕ → Type 0
NoKey n zero = Unit
NoKey n (suc k) = NoKey n k × (n ≡ k → ⊥)

past_keys : (n k : ℕ) → NoKey n k → k ≤ n
past_keys n zero h = zero-le
past_keys n (suc k) h = let below : k ≤ n = past_keys n k h.0 in let other : n ≡ k → ⊥ = h.1 in omega arith

-- with keys 0 to k - 1 ruled out and n at most k, n is k
pub last_key : (n k : ℕ) → n < suc k → NoKey n k → n ≡ k
last_key n k small h = let large : k ≤ n = past_keys n k h in omega arith
