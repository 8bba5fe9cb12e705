-- The first entry of a table that has a given number, determined by the entries.
-- Assumes nothing.
use Rattle.std.specs.List as library
use Rattle.std.specs.List.{position_or_len}
use Rattle.std.proofs.lemmas.Bool.{lt-ltb, le-ltb, ltb-true, ltb-false}
use lib.Dec.{eqb, ltb}
use Prim.Native.Nat.{◌+◌, ℕ, zero, suc, ◌<◌}
use mathlib.Core.Path.{◌≡◌, refl, sym, ap, ◌∙◌}
use mathlib.Core.List.{List, [], ◌∷◌, map}
use mathlib.Core.Bool.{Bool, true, false, cond, not}
use Rattle.std.specs.Prelude.{Option, None, Some}
use Rattle.std.proofs.lemmas.Option.{none-some, same_Some}
use native.Mathlib.Nat.{zero-lt-suc, suc-le-suc_iff}
use native.Mathlib.Omega.{arith}
use lib.ListN.{length, get_or}
use Rattle.code.specs.Position.{first_place, later, position}
use Rattle.code.specs.Tables.{point_of}

inside_later : (n i : ℕ) (o : Option ℕ) → ((j : ℕ) → o ≡ Some j → j < n) → later o ≡ Some i → i < suc n
inside_later n i None inside e = absurd (none-some i e)
inside_later n i (Some j) inside e = rw (← same_Some (suc j) i e) (suc-le-suc_iff.1 (inside j refl))

inside_test : (t : Bool) (n i : ℕ) (o : Option ℕ) → ((j : ℕ) → o ≡ Some j → j < n) → cond t (Some 0) (later o) ≡ Some i → i < suc n
inside_test true n i o inside e = rw (← same_Some 0 i e) (zero-lt-suc n)
inside_test false n i o inside e = inside_later n i o inside e

-- a place is within the list, and what stands there passes the test
pub first_inside : {A : Type 0} (test : A → Bool) (l : List A) (i : ℕ) → first_place test l ≡ Some i → i < length l
first_inside test [] i e = absurd (none-some i e)
first_inside test (y ∷ ys) i e = inside_test (test y) (length ys) i (first_place test ys) (λ j p. first_inside test ys j p) e

later_passes : {A : Type 0} (test : A → Bool) (y : A) (ys : List A) (d : A) (i : ℕ) (o : Option ℕ) → ((j : ℕ) → o ≡ Some j → test (get_or ys j d) ≡ true) → later o ≡ Some i → test (get_or (y ∷ ys) i d) ≡ true
later_passes test y ys d i None passes e = absurd (none-some i e)
later_passes test y ys d i (Some j) passes e = rw (← same_Some (suc j) i e) (passes j refl)

passes_by : {A : Type 0} (test : A → Bool) (y : A) (ys : List A) (d : A) (i : ℕ) (t : Bool) → test y ≡ t → ((j : ℕ) → first_place test ys ≡ Some j → test (get_or ys j d) ≡ true) → cond t (Some 0) (later (first_place test ys)) ≡ Some i → test (get_or (y ∷ ys) i d) ≡ true
passes_by test y ys d i true is passes e = rw (← same_Some 0 i e) is
passes_by test y ys d i false is passes e = later_passes test y ys d i (first_place test ys) passes e

pub first_passes : {A : Type 0} (test : A → Bool) (l : List A) (d : A) (i : ℕ) → first_place test l ≡ Some i → test (get_or l i d) ≡ true
first_passes test [] d i e = absurd (none-some i e)
first_passes test (y ∷ ys) d i e =
    passes_by test y ys d i (test y) refl (λ j p. first_passes test ys d j p) e

-- the library's search finds the definition's place
counted : (k n : ℕ) (b : Bool) → ltb k n ≡ b → cond (ltb (1 + k) (suc n)) (Some (1 + k)) None ≡ later (cond b (Some k) None)
counted k n true is = rw (lt-ltb (1 + k) (suc n) (omega (arith, ltb-true k n is))) (ap Some (omega arith))
counted k n false is = rw (le-ltb (1 + k) (suc n) (omega (arith, ltb-false k n is))) refl

placed : (t : Bool) (k n : ℕ) (o : Option ℕ) → cond (ltb k n) (Some k) None ≡ o → cond (ltb (cond (not t) (1 + k) 0) (suc n)) (Some (cond (not t) (1 + k) 0)) None ≡ cond t (Some zero) (later o)
placed true k n o e = rw (lt-ltb 0 (suc n) (zero-lt-suc n)) refl
placed false k n o e = counted k n (ltb k n) refl ∙ ap later e

by_library : {A : Type 0} (test : A → Bool) (l : List A) → library.position test l ≡ first_place test l
by_library test [] = refl
by_library test (x ∷ xs) = placed (test x) (position_or_len test xs) (length xs) (first_place test xs) (by_library test xs)

over_points : (x : ℕ) (l : List ℕ) → first_place (λ (e : ℕ). eqb x (point_of e)) l ≡ position x (map point_of l)
over_points x [] = refl
over_points x (e ∷ l) = ap (λ (o : Option ℕ). cond (eqb x (point_of e)) (Some zero) (later o)) (over_points x l)

-- so a search over a table that is the definition's finds the place of a code point in that one
pub searched : (x : ℕ) (table entries : List ℕ) (r : Option ℕ) → r ≡ library.position (λ (e : ℕ). eqb x (point_of e)) table → table ≡ entries → position x (map point_of entries) ≡ r
searched x table entries r found same =
    sym
    (found ∙ by_library (λ (e : ℕ). eqb x (point_of e)) table ∙ over_points x table
    ∙ ap (λ (t : List ℕ). position x (map point_of t)) same)
