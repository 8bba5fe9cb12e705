-- The line pair by pair, in the port's own words. One thing is remembered: the pair of which a copy was corrupted in
-- the stretch so far, if any. `Line` says the same of whole stretches; proofs/OneByOne.antt proves each from the other.
use Rattle.std.specs.Prelude.{Bool, true, false, cond, List, [], ◌∷◌, ◌≡◌, Option, None, Some}
use Rattle.code.specs.declared.pair.Pair.{Pair}
use Rattle.code.specs.Pair.{same_pair}
use Rattle.code.specs.Read.{is_command_pair, is_odd_pair}
use Rattle.agreement.specs.Agreement.{All}

abbrev pub IsOdd : Pair → Type 0
IsOdd p = is_odd_pair p ≡ true

abbrev pub AllOdd : List Pair → Type 0
AllOdd ps = All IsOdd ps

abbrev pub was_corrupted : Option Pair → Pair → Bool
was_corrupted None p = false
was_corrupted (Some q) p = same_pair q p

-- the stretch goes on as long as its pair is sent
abbrev pub goes_on : Option Pair → Pair → Option Pair
goes_on h p = cond (was_corrupted h p) h None

pub data OneByOne : Option Pair → List Pair → List Pair → Type 0 where
  ends : {h : Option Pair} → OneByOne h [] []
  arrives : {h : Option Pair} {p : Pair} {ps qs : List Pair} → OneByOne (goes_on h p) ps qs → OneByOne h (p ∷ ps) (p ∷ qs)
  is_corrupted : {h : Option Pair} {p q : Pair} {ps qs : List Pair} → is_command_pair p ≡ true → was_corrupted h p ≡ false → is_odd_pair q ≡ false → OneByOne (Some p) ps qs → OneByOne h (p ∷ ps) (q ∷ qs)
