-- What a call returns: a value, or a refusal with its number in 01. An answer is led to an outcome by the numbers of its
-- refusals.
use Rattle.std.specs.Prelude.{ℕ, Bool, true, false, Result, Ok, Err}

pub data Outcome (A : Type 0) : Type 0 where
  answer : A → Outcome A
  refused : ℕ → Outcome A

abbrev pub is_answer : {A : Type 0} → Outcome A → Bool
is_answer (answer x) = true
is_answer (refused n) = false

abbrev pub outcome : {A E : Type 0} → (E → ℕ) → Result A E → Outcome A
outcome refusal (Ok x) = answer x
outcome refusal (Err e) = refused (refusal e)
