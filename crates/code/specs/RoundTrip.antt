-- How many pairs are read: the counting of 01's 16,384, in the port's own words. `pairs_that_are_read` in
-- proofs/RoundTrip.antt is the law.
use Rattle.std.specs.Prelude.{ℕ, zero, suc, ◌+◌, Bool, cond}
use Rattle.code.specs.Outcome.{Outcome, answer, refused}
use Rattle.code.specs.Write.{write_two}
use Rattle.code.specs.declared.code.Code.{Code}
use Rattle.code.specs.declared.pair.Pair.{Pair}

-- how many numbers below n, and how many pairs of numbers below n and m, pass a test
abbrev pub count_below : (ℕ → Bool) → ℕ → ℕ
count_below f zero = 0
count_below f (suc n) = cond (f n) 1 0 + count_below f n

abbrev pub count_pairs : (ℕ → ℕ → Bool) → ℕ → ℕ → ℕ
count_pairs f zero m = 0
count_pairs f (suc n) m = count_below (f n) m + count_pairs f n m

-- what was read is written again
abbrev pub written_again : Outcome (Code × Code) → Outcome Pair
written_again (answer codes) = write_two codes.0 codes.1
written_again (refused n) = refused n
