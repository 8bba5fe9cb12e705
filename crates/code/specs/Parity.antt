-- Odd parity, from 47 CFR 79.101: a byte is seven bits of data and a parity bit, bit 7, that makes the count of ones odd.
use Rattle.std.specs.Prelude.{ℕ, ◌+◌, ◌%◌, Bool, cond, eqb}
use Rattle.std.specs.Int.Count.{ones}

-- a byte whose count of ones is odd
abbrev pub is_odd : ℕ → Bool
is_odd b = eqb (ones b % 2) 1

-- the seven bits of data
abbrev pub stripped : ℕ → ℕ
stripped b = b % 128

-- the seven bits of data, and bit 7 where they have an even count of ones
abbrev pub with_parity : ℕ → ℕ
with_parity b = cond (is_odd (stripped b)) (stripped b) (stripped b + 128)
