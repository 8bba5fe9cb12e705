-- What the two bytes of a control code mean, as the code decides it: a preamble by the rows of its first byte, the rest
-- by the first byte and then the second's upper digit. One computation over all pairs shows that it is the definition.
-- Assumes nothing.
use Rattle.code.specs.declared.channel.Field.{Field}
use mathlib.Core.Bool.{Bool, true, cond, ◌&&◌}
use Rattle.std.specs.Prelude.{Option, None, Some}
use mathlib.Core.Path.{◌≡◌, refl, ap, sym, ◌∙◌}
use Prim.Native.Nat.{ℕ, ◌+◌, ◌/◌, ◌%◌, ◌≤◌, ◌<◌}
use borrow.Author.Tests.{le-leb, lt-leb, ltb-true}
use lib.Dec.{eqb, leb, ltb, lit<, lit≤}
use native.Mathlib.Omega.{arith}
use Rattle.code.proofs.Agree.{agree, agree_from, agree_grid}
use Rattle.code.proofs.Ranges.{still_between}
use Rattle.code.specs.Control.{command_at, names_field}
use Rattle.code.specs.MidRow.{mid_row_at}
use Rattle.code.specs.Preamble.{style_at}
use Rattle.code.specs.Read.{channel_of, control_code_of, field_of, is_command, meaning, or_unknown, symbol_in, underlined, without_channel, without_field}
use Rattle.code.specs.Tables.{first_row_at, tab_in}
use Rattle.code.specs.declared.channel.Channel.{Channel}
use Rattle.code.specs.declared.control.Control.{Control}
use Rattle.code.specs.declared.control.Control.TheVariants as control
use Rattle.code.specs.declared.control.ControlCode.{ControlCode}
use Rattle.code.specs.declared.symbol.SymbolRow.TheVariants.{Special, Spanish, French, Portuguese, German}

abbrev pub preamble_of : ℕ → ℕ → Option Control
preamble_of b row = Some (control.Preamble (record { row = row; underline = underlined b; ty = style_at (b % 32 / 2) }))

abbrev pub decided_row : ℕ → ℕ → Option Control
decided_row p b = cond (ltb b 0x60) (preamble_of b (first_row_at (p % 8))) (cond (eqb p 0x10) None (preamble_of b (first_row_at (p % 8) + 1)))

-- by the first byte, then by the upper digit of the second
abbrev pub decided_other : ℕ → ℕ → Option Control
decided_other p b =
    let digit = b / 16 in
    cond (eqb p 0x11)
    (cond (eqb digit 2) (Some (control.MidRow (mid_row_at (b % 16 / 2) (underlined b))))
    (cond (eqb digit 3) (symbol_in Special b) None))
    (cond (eqb p 0x12) (cond (eqb digit 2) (symbol_in Spanish b) (cond (eqb digit 3) (symbol_in French b) None))
    (cond (eqb p 0x13) (cond (eqb digit 2) (symbol_in Portuguese b) (cond (eqb digit 3) (symbol_in German b) None))
    (cond (eqb p 0x14) (cond (eqb digit 2) (Some (control.Command (command_at (b % 16)))) None)
    (cond (eqb p 0x17) (cond (eqb digit 2) (tab_in b) None) None))))

abbrev pub decided : ℕ → ℕ → Option Control
decided p b = cond (leb 0x40 b) (decided_row p b) (decided_other p b)

decided_is : (p b : ℕ) → 16 ≤ p → p < 24 → b < 128 → decided p b ≡ meaning p b
unfolding meaning
decided_is p b from below less = agree_grid decided meaning 16 8 128 refl p b from below less

-- below 40 there is no preamble
pub other_told : (p b : ℕ) (r : Option Control) → 16 ≤ p → p < 24 → b < 64 → r ≡ decided_other p b → r ≡ meaning p b
other_told p b r from below less found = simp (← decided_is p b from below (omega arith), lt-leb _ _ less, found)

-- from 40 on there is nothing else
pub row_told : (p b : ℕ) (r : Option Control) → 16 ≤ p → p < 24 → 64 ≤ b → b < 128 → r ≡ decided_row p b → r ≡ meaning p b
row_told p b r from below up less found =
    found
    ∙ sym (ap (λ (t : Bool). cond t (decided_row p b) (decided_other p b)) (le-leb 0x40 b up))
    ∙ decided_is p b from below less

-- 10 to 1F, by the upper digit
pub in_row_one : (a : ℕ) → a < 128 → eqb (a / 16) 1 ≡ is_command a
in_row_one a less = agree (λ (x : ℕ). eqb (x / 16) 1) is_command 128 refl a less

-- 20 to 2F, by the upper digit
pub in_row_two : (b : ℕ) → b < 256 → eqb (b / 16) 2 ≡ names_field b
in_row_two b less = agree (λ (x : ℕ). eqb (x / 16) 2) names_field 256 refl b less

-- the remainder drops the channel bit
without_channel_lem : (a : ℕ) → 16 ≤ a → a < 32 → a % 8 + 16 ≡ without_channel a
without_channel_lem a from below = agree_from (λ (x : ℕ). x % 8 + 16) without_channel 16 16 refl a from below

-- taking the field away keeps the first byte between 10 and 17
pub without_field_between : (p b : ℕ) → 16 ≤ p → p < 24 → (16 ≤ without_field p b) × (without_field p b < 24)
without_field_between p b from below = still_between (names_field b && eqb p 0x15) 0x14 p (lit≤ tt, lit< tt) (from, below)

-- a control code put together from its parts
pub parsed : (a b p : ℕ) (ch : Channel) (f : Option Field) (r : Option Control) → 16 ≤ a → a < 32 → ch ≡ channel_of a → f ≡ field_of (a % 8 + 16) b → p ≡ without_field (a % 8 + 16) b → r ≡ meaning p b → ◌≡◌ {A = ControlCode} (record { field = f; channel = ch; control = or_unknown a b r }) (control_code_of a b)
unfolding control_code_of
parsed a b p ch f r from below of_channel field prefix found =
    simp (found, prefix, field, of_channel, without_channel_lem a from below)

-- a first byte's second row is at most 14
pub first_row_small : (n : ℕ) → n < 8 → first_row_at n < 14
first_row_small n less = ltb-true (first_row_at n) 14 (agree (λ (x : ℕ). ltb (first_row_at x) 14) (λ (x : ℕ). true) 8 refl n less)
