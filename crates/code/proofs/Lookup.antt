-- From a character to its code: what a search over each table says of the definition. No entry has the code point 0, by
-- which an entry without a character is kept, so that 0 is not searched for.
-- Assumes nothing.
use mathlib.Core.List.{List, [], ◌∷◌, ◌++◌, map}
use Rattle.std.specs.Prelude.{Option, None, Some}
use Rattle.std.specs.Option.{unwrap_or}
use Rattle.std.proofs.lemmas.Option.{none-some, same_Some}
use mathlib.Core.Path.{◌≡◌, refl, ap, sym, ◌∙◌}
use Prim.Native.Nat.{ℕ, zero, suc, ◌-◌, ◌<◌}
use native.Mathlib.Omega.{arith}
use borrow.Author.Tests.{ne_eqb}
use lib.Dec.{eqb}
use lib.ListN.{replicate}
use Rattle.code.proofs.First.{first_inside}
use Rattle.code.specs.Characters.{is_point, place_of, standard, symbols}
use Rattle.code.specs.Code.{from_char, symbol_code}
use Rattle.code.specs.Letter.{letter_at}
use Rattle.code.specs.Outcome.{answer, refused}
use Rattle.code.specs.Position.{later, position}
use Rattle.code.specs.Symbol.{symbol_at}
use Rattle.code.specs.Tables.{code_entries, control_entries, point_of}
use Rattle.code.specs.declared.channel.Channel.{Channel}
use Rattle.code.specs.declared.code.Code.TheVariants as code
use Rattle.code.specs.declared.control.Control.TheVariants as control

-- a character's place among the code points is its place among the characters
same_test : (c : ℕ) (k : Option ℕ) → (c ≡ 0 → ⊥) → eqb c (unwrap_or k 0) ≡ is_point c k
same_test c (Some d) h = refl
same_test c None h = ne_eqb c 0 h

point_place : (c : ℕ) (l : List (Option ℕ)) → (c ≡ 0 → ⊥) → position c (map (λ (k : Option ℕ). unwrap_or k 0) l) ≡ place_of c l
point_place c [] h = refl
point_place c (k ∷ l) h = rw (same_test c k h, point_place c l h) refl

-- a character is found among the symbols alone, since the commands and tabs after them have none
none_in_empty : (c n : ℕ) → place_of c (replicate n None) ≡ None
none_in_empty c zero = refl
none_in_empty c (suc n) = ap later (none_in_empty c n)

before_empty : (c n : ℕ) (l : List (Option ℕ)) → place_of c (l ++ replicate n None) ≡ place_of c l
before_empty c n [] = none_in_empty c n
before_empty c n (y ∷ ys) = simp (before_empty c n ys)

symbol_place_lem : (c : ℕ) → (c ≡ 0 → ⊥) → position c (map point_of control_entries) ≡ place_of c symbols
unfolding control_entries symbols
symbol_place_lem c h = point_place c (symbols ++ replicate 19 None) h ∙ before_empty c 19 symbols

-- a standard character's entry is one after its place, since NUL comes first
letter_entry : (c : ℕ) → (c ≡ 0 → ⊥) → position c (map point_of code_entries) ≡ later (place_of c standard)
unfolding code_entries standard
letter_entry c h = rw (ne_eqb c 0 h) (ap later (point_place c standard h))

-- 0 is no character
pub zero_has_no_code : (ch : Channel) → refused 5 ≡ from_char 0 ch
unfolding from_char standard symbols
zero_has_no_code ch = refl

module _ (c : ℕ) (ch : Channel) (some_character : c ≡ 0 → ⊥) where
  pub symbol_inside : (i : ℕ) → position c (map point_of control_entries) ≡ Some i → i < 80
  unfolding symbols
  symbol_inside i found = first_inside (is_point c) symbols i (sym (symbol_place_lem c some_character) ∙ found)

  pub found_symbol : (i : ℕ) → position c (map point_of control_entries) ≡ Some i → answer (code.Control (record { field = None; channel = ch; control = control.Symbol (symbol_at i) })) ≡ symbol_code ch (place_of c symbols)
  found_symbol i found = let place : place_of c symbols ≡ Some i = sym (symbol_place_lem c some_character) ∙ found in rw place

  pub found_no_symbol : position c (map point_of control_entries) ≡ None → refused 5 ≡ symbol_code ch (place_of c symbols)
  found_no_symbol found = let place : place_of c symbols ≡ None = sym (symbol_place_lem c some_character) ∙ found in rw place

  -- the entry after NUL
  entry_after : (o : Option ℕ) (i : ℕ) → later o ≡ Some i → (0 < i) × (o ≡ Some (i - 1))
  entry_after None i e = absurd (none-some i e)
  entry_after (Some j) i e =
      let one_more_lem : suc j ≡ i = same_Some (suc j) i e in
      (omega (arith, one_more_lem), ap Some (omega (arith, one_more_lem)))

  letter_found : (i : ℕ) → position c (map point_of code_entries) ≡ Some i → (0 < i) × (place_of c standard ≡ Some (i - 1))
  letter_found i found = entry_after (place_of c standard) i (sym (letter_entry c some_character) ∙ found)

  pub letter_inside : (i : ℕ) → position c (map point_of code_entries) ≡ Some i → (0 < i) × (i - 1 < 96)
  unfolding standard
  letter_inside i found =
      let known = letter_found i found in
      (known.0, first_inside (is_point c) standard (i - 1) known.1)

  pub found_letter : (i : ℕ) → position c (map point_of code_entries) ≡ Some i → answer (code.Letter (letter_at (i - 1))) ≡ from_char c ch
  unfolding from_char
  found_letter i found = rw (letter_found i found).1 refl

  not_found : (o : Option ℕ) → later o ≡ None → o ≡ None
  not_found None e = refl
  not_found (Some j) e = absurd (none-some (suc j) (sym e))

  pub found_no_letter : position c (map point_of code_entries) ≡ None → symbol_code ch (place_of c symbols) ≡ from_char c ch
  unfolding from_char
  found_no_letter found = rw (not_found (place_of c standard) (sym (letter_entry c some_character) ∙ found)) refl
