-- Classes by their numbers, 1 to 7.
-- Assumes nothing.
use Prim.Native.Nat.{ℕ, ◌+◌, ◌-◌, ◌*◌, ◌≤◌, ◌<◌}
use borrow.Author.Tests.{eq-eqb, eqb-true}
use lib.ListN.{get_or}
use mathlib.Core.Bool.{true}
use mathlib.Core.List.{[], ◌∷◌, map}
use mathlib.Core.Path.{◌≡◌, refl, ap, sym, ◌∙◌}
use native.Mathlib.Omega.{arith}
use Rattle.extended.specs.Class.{class_number, classes, start_byte}
use Rattle.extended.specs.Extended.{same_class}
use Rattle.extended.specs.State.{place}
use Rattle.extended.specs.declared.class.Class.TheVariants as class
use Rattle.extended.specs.declared.class.Class.{Class}

pub number_from_one : (c : Class) → 1 ≤ class_number c
number_from_one class.Current = omega arith
number_from_one class.Future = omega arith
number_from_one class.ChannelInformation = omega arith
number_from_one class.Miscellaneous = omega arith
number_from_one class.PublicService = omega arith
number_from_one class.Reserved = omega arith
number_from_one class.Private = omega arith

pub place_below : (c : Class) → place c < 7
place_below class.Current = omega arith
place_below class.Future = omega arith
place_below class.ChannelInformation = omega arith
place_below class.Miscellaneous = omega arith
place_below class.PublicService = omega arith
place_below class.Reserved = omega arith
place_below class.Private = omega arith

-- the start bytes by the numbers, and the classes in their order
pub start_by_number : (c : Class) → start_byte c + 1 ≡ 2 * class_number c
start_by_number class.Current = refl
start_by_number class.Future = refl
start_by_number class.ChannelInformation = refl
start_by_number class.Miscellaneous = refl
start_by_number class.PublicService = refl
start_by_number class.Reserved = refl
start_by_number class.Private = refl

pub numbered_in_order : map class_number classes ≡ 1 ∷ 2 ∷ 3 ∷ 4 ∷ 5 ∷ 6 ∷ 7 ∷ []
numbered_in_order = refl

-- a class by its number
class_at : (c : Class) → get_or classes (class_number c - 1) class.Current ≡ c
class_at class.Current = refl
class_at class.Future = refl
class_at class.ChannelInformation = refl
class_at class.Miscellaneous = refl
class_at class.PublicService = refl
class_at class.Reserved = refl
class_at class.Private = refl

pub same_class_lem : (d c : Class) → same_class d c ≡ true → d ≡ c
same_class_lem d c same =
    sym (class_at d) ∙ ap (λ (n : ℕ). get_or classes (n - 1) class.Current) (eqb-true (class_number d) (class_number c) same) ∙ class_at c

pub its_own_class : (c : Class) → same_class c c ≡ true
its_own_class c = eq-eqb (class_number c) (class_number c) refl
