-- Every pair that is read as a command, by its two stripped bytes: each part is one computation over the 2,048 pairs of a
-- first byte of 10 to 1F and a second of seven bits.
-- Assumes nothing.
use Rattle.std.specs.Prelude.{None, Option, Some}
use Rattle.code.specs.declared.channel.Field.{Field}
use mathlib.Core.Bool.{Bool, true, false, ◌&&◌, true≢false}
use mathlib.Core.Path.{◌≡◌, refl, ap, sym, subst, ◌∙◌}
use Prim.Native.Nat.{ℕ, ◌≤◌, ◌<◌}
use native.Mathlib.Omega.{arith}
use borrow.Author.Tests.{eqb-true}
use lib.Dec.{eqb}
use Rattle.code.proofs.Agree.{agree_from, agree_grid}
use Rattle.code.proofs.Both.{both_true}
use Rattle.code.proofs.Ranges.{command_range}
use Rattle.code.proofs.WrittenLemmas.{command_by_first_byte, command_of_its_bytes}
use Rattle.code.specs.ByBytes.{CommandOf, backspace_by_bytes, channel_by_byte, field_by_bytes}
use Rattle.code.specs.Code.{needs_backspace}
use Rattle.code.specs.Outcome.{answer}
use Rattle.code.specs.Parity.{stripped}
use Rattle.code.specs.Read.{channel_of, control_code_of, meaning, read_pair}
use Rattle.code.specs.declared.code.Code.{Code}
use Rattle.code.specs.declared.code.Code.TheVariants as code
use Rattle.code.specs.declared.control.Control.{Control}
use Rattle.code.specs.declared.control.Control.TheVariants as control
use Rattle.code.specs.declared.control.ControlCode.{ControlCode}

-- an `Unknown` holds its two bytes and names no field
abbrev names_none : Option Field → Bool
names_none (Some f) = false
names_none None = true

abbrev holds : ℕ → ℕ → Option Field → Control → Bool
holds a b f (control.MidRow m) = true
holds a b f (control.Symbol s) = true
holds a b f (control.Command c) = true
holds a b f (control.Tab t) = true
holds a b f (control.Preamble p) = true
holds a b f (control.Unknown x y) = eqb x a && (eqb y b && names_none f)

none_named : (f : Option Field) → names_none f ≡ true → f ≡ None
none_named (Some f) e = absurd (true≢false (sym e))
none_named None e = refl

module _ (a b : ℕ) (from : 16 ≤ a) (below : a < 32) (less : b < 128) where
  abbrev read : ControlCode
  read = control_code_of a b

  its_channel : read.channel ≡ channel_by_byte a
  unfolding control_code_of
  its_channel = agree_from channel_of channel_by_byte 16 16 refl a from below

  its_field : read.field ≡ field_by_bytes a b
  unfolding control_code_of
  its_field = agree_grid (λ (x y : ℕ). (control_code_of x y).field) field_by_bytes 16 16 128 refl a b from below less

  its_backspace : needs_backspace (code.Control read) ≡ backspace_by_bytes a b
  unfolding control_code_of meaning
  its_backspace =
      agree_grid (λ (x y : ℕ). needs_backspace (code.Control (control_code_of x y))) backspace_by_bytes 16 16 128 refl a b from below less

  its_bytes : holds a b read.field read.control ≡ true
  unfolding control_code_of meaning
  its_bytes =
      agree_grid (λ (x y : ℕ). holds x y (control_code_of x y).field (control_code_of x y).control) (λ (x y : ℕ). true) 16 16 128 refl a b from below less

  its_unknown : (x y : ℕ) → read.control ≡ control.Unknown x y → (x ≡ a) × (y ≡ b) × (read.field ≡ None)
  its_unknown x y is =
      let held : (eqb x a && (eqb y b && names_none read.field)) ≡ true = sym (ap (holds a b read.field) is) ∙ its_bytes in
      let first = both_true (eqb x a) (eqb y b && names_none read.field) held in
      let second = both_true (eqb y b) (names_none read.field) first.1 in
      (eqb-true x a first.0, eqb-true y b second.0, none_named read.field second.1)

  by_its_bytes : CommandOf a b read
  by_its_bytes = record { channel = its_channel; field = its_field; unknown = its_unknown; backspace = its_backspace }

pub every_command : (a b : ℕ) (c : ControlCode) (y : Code) → read_pair a b ≡ answer (code.Control c, y) → CommandOf (stripped a) (stripped b) c
every_command a b c y e =
    let range = command_range (stripped a) (command_by_first_byte a b c y e) in
    subst (CommandOf (stripped a) (stripped b)) (command_of_its_bytes a b c y e)
    (by_its_bytes (stripped a) (stripped b) range.0 range.1 (omega arith))
