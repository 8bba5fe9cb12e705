-- The rules of the tables, each once over its table: the bytes rise, so that no byte or pair occurs twice; an entry's
-- bytes are read as that entry, and the entry is written as its bytes; a character occurs once.
-- Assumes nothing.
use mathlib.Core.List.{List}
use Rattle.std.specs.Prelude.{Option, None, Some}
use mathlib.Core.Path.{◌≡◌, refl, ap, sym, ◌∙◌}
use Prim.Native.Nat.{ℕ, ◌/◌, ◌%◌, ◌<◌}
use lib.Count.{ones, ones_in}
use lib.ListN.{get_or}
use Rattle.code.proofs.Agree.{agree}
use Rattle.code.proofs.Increasing.{Increasing, increasing}
use Rattle.code.specs.Characters.{place_of, standard, symbols}
use Rattle.code.specs.Outcome.{answer}
use Rattle.code.specs.Pair.{same_pair}
use Rattle.code.specs.Position.{first_place}
use Rattle.code.specs.Preamble.{row_prefix, row_prefixes}
use Rattle.code.specs.Read.{meaning, single}
use Rattle.code.specs.Tables.{bytes_of, code_at, code_entries, control_at, control_entries, two_bytes}
use Rattle.code.specs.Write.{as_single, control_bytes, write_code}

pub characters_rise : Increasing code_entries
unfolding code_entries standard
characters_rise = increasing code_entries tt

pub controls_rise : Increasing control_entries
unfolding control_entries
controls_rise = increasing control_entries tt

abbrev code_bytes : ℕ → ℕ
code_bytes i = bytes_of (get_or code_entries i 0)

abbrev entry_bytes : ℕ → ℕ
entry_bytes i = bytes_of (get_or control_entries i 0)

-- the table of characters, both ways
pub entry_read : (i : ℕ) → i < 97 → single (code_bytes i) ≡ code_at i
unfolding code_entries standard
entry_read i less = agree (λ (x : ℕ). single (code_bytes x)) code_at 97 refl i less

pub entry_written : (i : ℕ) → i < 97 → write_code (code_at i) ≡ as_single (code_bytes i)
unfolding ones ones_in write_code code_entries standard
entry_written i less = agree (λ (x : ℕ). write_code (code_at x)) (λ (x : ℕ). as_single (code_bytes x)) 97 refl i less

-- the control table, both ways
pub control_read : (i : ℕ) → i < 99 → meaning (entry_bytes i / 256) (entry_bytes i % 256) ≡ Some (control_at i)
unfolding control_entries meaning
control_read i less =
    agree (λ (x : ℕ). meaning (entry_bytes x / 256) (entry_bytes x % 256)) (λ (x : ℕ). Some (control_at x)) 99 refl i less

pub control_written : (i : ℕ) → i < 99 → control_bytes (control_at i) ≡ answer (two_bytes (entry_bytes i))
unfolding control_entries control_bytes
control_written i less =
    agree (λ (x : ℕ). control_bytes (control_at x)) (λ (x : ℕ). answer (two_bytes (entry_bytes x))) 99 refl i less

-- each row's prefix is its own
pub row_back : (row : ℕ) → row < 15 → first_place (same_pair (row_prefix row)) row_prefixes ≡ Some row
row_back row less = agree (λ (x : ℕ). first_place (same_pair (row_prefix x)) row_prefixes) (λ (x : ℕ). Some x) 15 refl row less

-- a character's first place is its only one, and no symbol is a standard character
abbrev pub first_place_of : List (Option ℕ) → Option ℕ → Option ℕ
first_place_of l (Some c) = place_of c l
first_place_of l None = None

pub letter_once : (n : ℕ) → n < 96 → first_place_of standard (get_or standard n None) ≡ Some n
unfolding standard
letter_once n less = agree (λ (x : ℕ). first_place_of standard (get_or standard x None)) (λ (x : ℕ). Some x) 96 refl n less

abbrev only_at : ℕ → Option ℕ → Option ℕ
only_at n (Some c) = Some n
only_at n None = None

pub symbol_once : (n c : ℕ) → n < 80 → get_or symbols n None ≡ Some c → place_of c symbols ≡ Some n
unfolding symbols
symbol_once n c less e =
    sym (ap (first_place_of symbols) e)
    ∙ agree (λ (x : ℕ). first_place_of symbols (get_or symbols x None)) (λ (x : ℕ). only_at x (get_or symbols x None)) 80 refl n less
    ∙ ap (only_at n) e

pub symbol_apart : (n : ℕ) → n < 80 → first_place_of standard (get_or symbols n None) ≡ None
unfolding standard symbols
symbol_apart n less = agree (λ (x : ℕ). first_place_of standard (get_or symbols x None)) (λ (x : ℕ). None) 80 refl n less
