-- The first place of a list that passes a test, counted from 0: the port's own words.
use Rattle.std.specs.Prelude.{ℕ, zero, suc, Bool, cond, List, [], ◌∷◌, eqb, Option, None, Some}

abbrev pub later : Option ℕ → Option ℕ
later None = None
later (Some i) = Some (suc i)

abbrev pub first_place : {A : Type 0} → (A → Bool) → List A → Option ℕ
first_place test [] = None
first_place test (x ∷ xs) = cond (test x) (Some zero) (later (first_place test xs))

-- of a number
abbrev pub position : ℕ → List ℕ → Option ℕ
position x l = first_place (eqb x) l
