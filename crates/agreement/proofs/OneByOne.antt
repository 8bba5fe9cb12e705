-- The line as the letter has it, of whole stretches, and the same pair by pair: each follows from the other, where what
-- was sent has odd parity.
-- Assumes nothing.
use mathlib.Core.Bool.{Bool, true, false, cond, not, true≢false}
use mathlib.Core.List.{List, [], ◌∷◌, ◌++◌}
use Rattle.std.specs.Prelude.{Option, None, Some}
use mathlib.Core.Path.{◌≡◌, refl, ap, ap₂, sym, subst, ◌∙◌}
use Prim.Native.Nat.{ℕ, zero, suc, ◌≤◌}
use native.Mathlib.Omega.{arith}
use borrow.Author.Tests.{eqb-true}
use lib.Dec.{eqb}
use lib.ListN.{drop, get_or, length, replicate, take}
use Rattle.code.proofs.SamePair.{same_itself}
use Rattle.code.proofs.Both.{both_true}
use Rattle.code.specs.Pair.{same_pair, pair}
use Rattle.code.specs.Read.{is_odd_pair}
use Rattle.code.specs.declared.pair.Pair.{Pair}
use Rattle.agreement.specs.Agreement.{Carried, Line, OneEachStretch, how_many, corrupted_places}
use Rattle.agreement.specs.Agreement as line
use Rattle.agreement.specs.OneByOne.{AllOdd, OneByOne, goes_on, was_corrupted}
use Rattle.agreement.specs.OneByOne as one

pub same_is_equal : (p q : Pair) → same_pair p q ≡ true → p ≡ q
same_is_equal p q e =
    let b = both_true (eqb p.0 q.0) (eqb p.1 q.1) e in
    ap₂ pair (eqb-true p.0 q.0 b.0) (eqb-true p.1 q.1 b.1)

-- a pair that fails parity is not the one that was sent
by_parity : (p q : Pair) (t : Bool) → same_pair p q ≡ t → is_odd_pair p ≡ true → is_odd_pair q ≡ false → t ≡ false
by_parity p q false e odd even = refl
by_parity p q true e odd even = absurd (true≢false (sym odd ∙ ap is_odd_pair (same_is_equal p q e) ∙ even))

pub corrupted_is_another : (p q : Pair) → is_odd_pair p ≡ true → is_odd_pair q ≡ false → same_pair p q ≡ false
corrupted_is_another p q odd even = by_parity p q (same_pair p q) refl odd even

-- it counts as one, and a pair that arrived as it was sent as none
counted : (p q : Pair) (places : List Bool) → same_pair p q ≡ false → how_many (not (same_pair p q) ∷ places) ≡ suc (how_many places)
counted p q places other = rw other refl

not_counted : (p q : Pair) (places : List Bool) → same_pair p q ≡ true → how_many (not (same_pair p q) ∷ places) ≡ how_many places
not_counted p q places same = rw same refl

-- once a copy of a stretch is corrupted, no other is
abbrev Spared : Option Pair → List Pair → List Pair → Type 0
Spared None sent arrived = Unit
Spared (Some p) sent arrived =
    (n : ℕ) (more : List Pair) → sent ≡ replicate n p ++ more → how_many (take n (corrupted_places sent arrived)) ≡ 0

module _ (p q : Pair) (ps qs : List Pair) where
  -- what holds of every stretch holds of every stretch further on
  further : OneEachStretch (p ∷ ps) (q ∷ qs) → OneEachStretch ps qs
  further all before n x more e = all (p ∷ before) n x more (ap (λ (l : List Pair). p ∷ l) e)

  -- the rest of the stretch, past a copy that arrived and past a corrupted one
  spared_on : (h : Option Pair) (t : Bool) → was_corrupted h p ≡ t → same_pair p q ≡ true → Spared h (p ∷ ps) (q ∷ qs) → Spared (cond t h None) ps qs
  spared_on None true w same spared = tt
  spared_on None false w same spared = tt
  spared_on (Some x) false w same spared = tt
  spared_on (Some x) true w same spared =
      λ (n : ℕ) (more : List Pair) (e : ps ≡ replicate n x ++ more).
      let is : p ≡ x = sym (same_is_equal x p w) in
      sym (not_counted p q (take n (corrupted_places ps qs)) same) ∙ spared (suc n) more (ap₂ ◌∷◌ is e)

  spared_from : is_odd_pair p ≡ true → is_odd_pair q ≡ false → OneEachStretch (p ∷ ps) (q ∷ qs) → Spared (Some p) ps qs
  spared_from odd even all n more e =
      let told = all [] (suc n) p more (ap (λ (l : List Pair). p ∷ l) e) in
      omega (arith, told, counted p q (take n (corrupted_places ps qs)) (corrupted_is_another p q odd even))

  -- no second copy of a stretch is corrupted
  not_twice : (h : Option Pair) (t : Bool) → was_corrupted h p ≡ t → is_odd_pair p ≡ true → is_odd_pair q ≡ false → Spared h (p ∷ ps) (q ∷ qs) → t ≡ false
  not_twice h false w odd even spared = refl
  not_twice None true w odd even spared = absurd (true≢false (sym w))
  not_twice (Some x) true w odd even spared =
      let is : p ≡ x = sym (same_is_equal x p w) in
      let told = spared 1 ps (ap (λ (y : Pair). y ∷ ps) is) in
      absurd (omega (arith, told, counted p q [] (corrupted_is_another p q odd even)))

pair_by_pair : (h : Option Pair) (sent arrived : List Pair) → AllOdd sent → Carried sent arrived → OneEachStretch sent arrived → Spared h sent arrived → OneByOne h sent arrived
pair_by_pair h sent arrived odd line.ends all spared = one.ends
pair_by_pair h sent arrived odd (line.arrives {p = p} {ps = ps} {qs = qs} rest) all spared =
    one.arrives (pair_by_pair (goes_on h p) ps qs odd.1 rest (further p p ps qs all) (spared_on p p ps qs h (was_corrupted h p) refl (same_itself p) spared))
pair_by_pair h sent arrived odd (line.is_corrupted {p = p} {q = q} {ps = ps} {qs = qs} command even rest) all spared =
    one.is_corrupted command (not_twice p q ps qs h (was_corrupted h p) refl odd.0 even spared) even
    (pair_by_pair (Some p) ps qs odd.1 rest (further p q ps qs all) (spared_from p q ps qs odd.0 even all))

-- every line that the letter allows, pair by pair
pub line_one_by_one : (sent arrived : List Pair) → AllOdd sent → Line sent arrived → OneByOne None sent arrived
line_one_by_one sent arrived odd l = pair_by_pair None sent arrived odd l.pairs l.stretches tt

-- and back: a line that is allowed pair by pair is one that the letter allows
carried : (h : Option Pair) (sent arrived : List Pair) → OneByOne h sent arrived → Carried sent arrived
carried h sent arrived one.ends = line.ends
carried h sent arrived (one.arrives {ps = ps} {qs = qs} rest) = line.arrives (carried _ ps qs rest)
carried h sent arrived (one.is_corrupted {ps = ps} {qs = qs} command w even rest) = line.is_corrupted command even (carried _ ps qs rest)

-- equal lists have equal heads and equal tails
in_front : (x y : Pair) (xs ys : List Pair) → x ∷ xs ≡ y ∷ ys → x ≡ y
in_front x y xs ys e = ap (λ (l : List Pair). get_or l 0 x) e

same_tail : (x y : Pair) (xs ys : List Pair) → x ∷ xs ≡ y ∷ ys → xs ≡ ys
same_tail x y xs ys e = ap (drop 1) e

-- of n copies at the front at most one is corrupted, and none where one was before
abbrev AtFront : Bool → ℕ → Type 0
AtFront true n = n ≡ 0
AtFront false n = n ≤ 1

at_most_one : (t : Bool) (n : ℕ) → AtFront t n → n ≤ 1
at_most_one true n e = omega (arith, e)
at_most_one false n e = e

weaker : (t : Bool) (n : ℕ) → AtFront t n → AtFront false n
weaker t n e = at_most_one t n e

front : (n : ℕ) (h : Option Pair) (sent arrived : List Pair) (p : Pair) (rest : List Pair) → AllOdd sent → OneByOne h sent arrived → sent ≡ replicate n p ++ rest → AtFront (was_corrupted h p) (how_many (take n (corrupted_places sent arrived)))
front zero h sent arrived p rest odd passed e = none_yet (was_corrupted h p)
  where
    none_yet : (t : Bool) → AtFront t 0
    none_yet true = refl
    none_yet false = omega arith
front (suc n) h sent arrived p rest odd one.ends e = absurd (omega (arith, ap length e))
front (suc n) h sent arrived p rest odd (one.arrives {p = x} {ps = ps} {qs = qs} passed) e =
    let is = in_front x p ps (replicate n p ++ rest) e in
    let later = front n (goes_on h x) ps qs p rest odd.1 passed (same_tail x p ps (replicate n p ++ rest) e) in
    subst (AtFront (was_corrupted h p)) (sym (not_counted x x (take n (corrupted_places ps qs)) (same_itself x))) (still (was_corrupted h p) refl is later)
  where
    still : (t : Bool) → was_corrupted h p ≡ t → x ≡ p → AtFront (was_corrupted (goes_on h x) p) (how_many (take n (corrupted_places ps qs))) → AtFront t (how_many (take n (corrupted_places ps qs)))
    still true w is later =
        let on = ap (λ (t : Bool). was_corrupted (cond t h None) p) (ap (was_corrupted h) is ∙ w) ∙ w in
        subst (λ (t : Bool). AtFront t (how_many (take n (corrupted_places ps qs)))) on later
    still false w is later = weaker (was_corrupted (goes_on h x) p) _ later
front (suc n) h sent arrived p rest odd (one.is_corrupted {p = x} {q = q} {ps = ps} {qs = qs} command w even passed) e =
    let is = in_front x p ps (replicate n p ++ rest) e in
    let later = front n (Some x) ps qs p rest odd.1 passed (same_tail x p ps (replicate n p ++ rest) e) in
    let none_later = subst (λ (t : Bool). AtFront t (how_many (take n (corrupted_places ps qs)))) (ap (same_pair x) (sym is) ∙ same_itself x) later in
    let here = counted x q (take n (corrupted_places ps qs)) (corrupted_is_another x q odd.0 even) in
    subst (λ (t : Bool). AtFront t (how_many (take (suc n) (corrupted_places (x ∷ ps) (q ∷ qs))))) (sym (ap (was_corrupted h) (sym is) ∙ w))
    (omega (arith, none_later, here))

one_each_stretch : (before : List Pair) (h : Option Pair) (sent arrived : List Pair) → AllOdd sent → OneByOne h sent arrived → (n : ℕ) (p : Pair) (rest : List Pair) → sent ≡ before ++ (replicate n p ++ rest) → how_many (take n (drop (length before) (corrupted_places sent arrived))) ≤ 1
one_each_stretch [] h sent arrived odd passed n p rest e = at_most_one (was_corrupted h p) _ (front n h sent arrived p rest odd passed e)
one_each_stretch (x ∷ before) h sent arrived odd one.ends n p rest e = absurd (omega (arith, ap length e))
one_each_stretch (x ∷ before) h sent arrived odd (one.arrives {p = y} {ps = ps} {qs = qs} passed) n p rest e =
    one_each_stretch before _ ps qs odd.1 passed n p rest (same_tail y x ps (before ++ (replicate n p ++ rest)) e)
one_each_stretch (x ∷ before) h sent arrived odd (one.is_corrupted {p = y} {ps = ps} {qs = qs} command w even passed) n p rest e =
    one_each_stretch before _ ps qs odd.1 passed n p rest (same_tail y x ps (before ++ (replicate n p ++ rest)) e)

pub one_by_one_is_a_line : (sent arrived : List Pair) → AllOdd sent → OneByOne None sent arrived → Line sent arrived
one_by_one_is_a_line sent arrived odd passed = record {
  pairs = carried None sent arrived passed;
  stretches = λ (before : List Pair) (n : ℕ) (p : Pair) (rest : List Pair). one_each_stretch before None sent arrived odd passed n p rest;
}

-- a line that corrupts nothing is one
clean : (h : Option Pair) (sent : List Pair) → OneByOne h sent sent
clean h [] = one.ends
clean h (p ∷ ps) = one.arrives (clean (goes_on h p) ps)

pub clean_line : (sent : List Pair) → AllOdd sent → Line sent sent
clean_line sent odd = one_by_one_is_a_line sent sent odd (clean None sent)
