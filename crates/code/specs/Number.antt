-- The value of a number, for the enums whose cases are numbered from 0 on: none has a number from the limit on.
use Rattle.std.specs.Prelude.{ℕ, cond, ltb, Result, Ok, Err}
use Rattle.code.specs.declared.number.NoSuchNumber.{NoSuchNumber}

abbrev pub numbered : {A : Type 0} → ℕ → (ℕ → A) → ℕ → Result A NoSuchNumber
numbered limit at n = cond (ltb n limit) (Ok (at n)) (Err (record {}))
