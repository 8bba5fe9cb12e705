-- Characters both ways. The code of a character has that character; a letter, or a symbol with a character, is the code of
-- its character, with the given channel and no field.
-- Assumes nothing.
use Rattle.code.specs.declared.channel.Field.{Field}
use mathlib.Core.Bool.{true, true≢false}
use Rattle.std.specs.Prelude.{Option, None, Some}
use mathlib.Core.Path.{◌≡◌, refl, ap, sym, ◌∙◌}
use Prim.Native.Nat.{ℕ}
use native.Mathlib.Omega.{arith}
use borrow.Author.Tests.{eqb-true}
use lib.ListN.{get_or}
use Rattle.code.proofs.Bytes.{letter_point}
use Rattle.code.proofs.First.{first_inside, first_passes}
use Rattle.code.proofs.Numbers.{letter_again, letter_place_lem, letter_small, symbol_again, symbol_place_lem, symbol_small}
use Rattle.code.proofs.OneAnswer.{clash, same}
use Rattle.code.proofs.TableRules.{first_place_of, letter_once, symbol_apart, symbol_once}
use Rattle.code.specs.Characters.{is_point, place_of, standard, symbols}
use Rattle.code.specs.Code.{char_of, from_char, letter_code, symbol_char, symbol_code}
use Rattle.code.specs.Letter.{letter_at, letter_place}
use Rattle.code.specs.Outcome.{answer}
use Rattle.code.specs.Symbol.{symbol_at, symbol_place}
use Rattle.code.specs.Tables.{all_points}
use Rattle.code.specs.declared.channel.Channel.{Channel}
use Rattle.code.specs.declared.code.Code.{Code}
use Rattle.code.specs.declared.code.Code.TheVariants as code
use Rattle.code.specs.declared.control.Control.TheVariants as control
use Rattle.code.specs.declared.control.ControlCode.{ControlCode}
use Rattle.code.specs.declared.letter.Letter.{Letter}
use Rattle.code.specs.declared.symbol.Symbol.{Symbol}

-- a symbol as a code
abbrev pub symbol_as : Option Field → Channel → Symbol → Code
symbol_as f ch s = code.Control (record { field = f; channel = ch; control = control.Symbol s })

-- no character is none
pub absent_is_no_point : {c : ℕ} → None ≡ Some c → ⊥
absent_is_no_point e = let z : ◌≡◌ {A = ℕ} 0 1 = cc in omega arith

-- what stands at the place of a character is that character
is_that_point : (c : ℕ) (k : Option ℕ) → is_point c k ≡ true → k ≡ Some c
is_that_point c (Some d) e = ap Some (sym (eqb-true c d e))
is_that_point c None e = absurd (true≢false (sym e))

letter_has : (c i : ℕ) → place_of c standard ≡ Some i → char_of (code.Letter (letter_at i)) ≡ Some c
unfolding standard char_of
letter_has c i e =
    ap (λ (n : ℕ). get_or standard n None) (letter_place_lem i (first_inside (is_point c) standard i e))
    ∙ is_that_point c (get_or standard i None) (first_passes (is_point c) standard None i e)

symbol_has : (c i : ℕ) (ch : Channel) → place_of c symbols ≡ Some i → char_of (symbol_as None ch (symbol_at i)) ≡ Some c
unfolding symbols char_of
symbol_has c i ch e =
    ap (λ (n : ℕ). get_or symbols n None) (symbol_place_lem i (first_inside (is_point c) symbols i e))
    ∙ is_that_point c (get_or symbols i None) (first_passes (is_point c) symbols None i e)

by_symbol : (c : ℕ) (ch : Channel) (x : Code) (o : Option ℕ) → place_of c symbols ≡ o → symbol_code ch o ≡ answer x → char_of x ≡ Some c
by_symbol c ch x None place e = absurd (clash (sym e))
by_symbol c ch x (Some i) place e = ap char_of (sym (same e)) ∙ symbol_has c i ch place

by_letter : (c : ℕ) (ch : Channel) (x : Code) (o : Option ℕ) → place_of c standard ≡ o → letter_code o (symbol_code ch (place_of c symbols)) ≡ answer x → char_of x ≡ Some c
by_letter c ch x None place e = by_symbol c ch x (place_of c symbols) refl e
by_letter c ch x (Some i) place e = ap char_of (sym (same e)) ∙ letter_has c i place

pub a_characters_code_has_it : (c : ℕ) (ch : Channel) (x : Code) → from_char c ch ≡ answer x → char_of x ≡ Some c
unfolding from_char
a_characters_code_has_it c ch x e = by_letter c ch x (place_of c standard) refl e

-- every letter has a character
pub a_letter_has_a_character : (l : Letter) → (c : ℕ) × (char_of (code.Letter l) ≡ Some c)
unfolding char_of
a_letter_has_a_character l = (get_or all_points (letter_place l) 0, sym (letter_point (letter_place l) (letter_small l)))

-- and what a character's code is, if it is no letter: a symbol with no field and the given channel
symbol_or_not : (ch : Channel) (k : ControlCode) (o : Option ℕ) → symbol_code ch o ≡ answer (code.Control k) → (s : Symbol) × (k ≡ record { field = None; channel = ch; control = control.Symbol s })
symbol_or_not ch k None e = absurd (clash (sym e))
symbol_or_not ch k (Some i) e = (symbol_at i, let z : k ≡ record { field = None; channel = ch; control = control.Symbol (symbol_at i) } = cc in z)

by_place : (c : ℕ) (ch : Channel) (k : ControlCode) (o : Option ℕ) → letter_code o (symbol_code ch (place_of c symbols)) ≡ answer (code.Control k) → (s : Symbol) × (k ≡ record { field = None; channel = ch; control = control.Symbol s })
by_place c ch k None e = symbol_or_not ch k (place_of c symbols) e
by_place c ch k (Some i) e = let z : ◌≡◌ {A = ℕ} 0 1 = cc in absurd (omega arith)

pub a_characters_control_is_a_symbol : (c : ℕ) (ch : Channel) (k : ControlCode) → from_char c ch ≡ answer (code.Control k) → (s : Symbol) × (k ≡ record { field = None; channel = ch; control = control.Symbol s })
unfolding from_char
a_characters_control_is_a_symbol c ch k e = by_place c ch k (place_of c standard) e

-- the place of a letter's character is the letter's own
letter_at_its_place : (l : Letter) (c : ℕ) → char_of (code.Letter l) ≡ Some c → place_of c standard ≡ Some (letter_place l)
unfolding char_of
letter_at_its_place l c e = sym (ap (first_place_of standard) e) ∙ letter_once (letter_place l) (letter_small l)

pub a_letter_is_its_characters_code : (l : Letter) (c : ℕ) (ch : Channel) → char_of (code.Letter l) ≡ Some c → from_char c ch ≡ answer (code.Letter l)
unfolding from_char
a_letter_is_its_characters_code l c ch e =
    ap (λ (o : Option ℕ). letter_code o (symbol_code ch (place_of c symbols))) (letter_at_its_place l c e)
    ∙ ap (λ (x : Letter). answer (code.Letter x)) (letter_again l)

-- a symbol's character is no standard one, and its place among the symbols is the symbol's own
symbol_is_no_letter : (s : Symbol) (c : ℕ) → symbol_char s ≡ Some c → place_of c standard ≡ None
symbol_is_no_letter s c e = sym (ap (first_place_of standard) e) ∙ symbol_apart (symbol_place s) (symbol_small s)

pub a_symbol_is_its_characters_code : (f : Option Field) (d : Channel) (s : Symbol) (c : ℕ) (ch : Channel) → char_of (symbol_as f d s) ≡ Some c → from_char c ch ≡ answer (symbol_as None ch s)
unfolding from_char char_of
a_symbol_is_its_characters_code f d s c ch e =
    ap (λ (o : Option ℕ). letter_code o (symbol_code ch (place_of c symbols))) (symbol_is_no_letter s c e)
    ∙ ap (symbol_code ch) (symbol_once (symbol_place s) c (symbol_small s) e)
    ∙ ap (λ (x : Symbol). answer (symbol_as None ch x)) (symbol_again s)
