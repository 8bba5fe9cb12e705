-- The known pairs are what their events are written as; services and the rows of a window by their numbers; and the refusal
-- of each call by its number in 01.
-- Assumes nothing.
use mathlib.Core.Bool.{true, false}
use mathlib.Core.List.{[], ◌∷◌, map}
use Rattle.std.specs.Prelude.{None, Some}
use mathlib.Core.Path.{◌≡◌, refl}
use Prim.Native.Nat.{ℕ}
use lib.Count.{ones, ones_in}
use lib.IntN.{pos}
use Rattle.code.specs.Channel.{channel_one, channel_two, field_one, field_two}
use Rattle.code.specs.Characters.{standard, symbols}
use Rattle.code.specs.Code.{from_char}
use Rattle.code.specs.Outcome.{answer, refused}
use Rattle.code.specs.Write.{control_bytes, on_line, write_code}
use Rattle.code.specs.declared.color.Color.TheVariants.{White}
use Rattle.code.specs.declared.preamble.PreambleType.TheVariants.{Color}
use Rattle.event.specs.Id.{channel_of_id, field_of_id, from_value}
use Rattle.event.specs.IntoCode.{codes_of, no_first, no_second, refusal}
use Rattle.event.specs.KnownPairs.{Known, known_pairs, pair_of_event}
use Rattle.event.specs.Mode.{is_rollup, rollup_rows}
use Rattle.event.specs.declared.event.Cea608.{Cea608}
use Rattle.event.specs.declared.event.Cea608.TheVariants as event
use Rattle.event.specs.declared.id.Id.TheVariants.{CC1, CC2, CC3, CC4}
use Rattle.event.specs.declared.mode.Mode.TheVariants.{PopOn, PaintOn, RollUp2, RollUp3, RollUp4}

pub written_as_known : map (λ (k : Known). pair_of_event k.event) known_pairs ≡ map (λ (k : Known). answer k.pair) known_pairs
unfolding ones ones_in standard symbols from_char codes_of write_code control_bytes on_line
written_as_known = refl

-- CC1 to CC4
pub services_by_number : map from_value (pos 1 ∷ pos 2 ∷ pos 3 ∷ pos 4 ∷ []) ≡ map answer (CC1 ∷ CC2 ∷ CC3 ∷ CC4 ∷ [])
services_by_number = refl

-- CC1 and CC2 are on field one, CC3 and CC4 on field two
pub services_by_field_and_channel : (map field_of_id (CC1 ∷ CC2 ∷ CC3 ∷ CC4 ∷ []) ≡ field_one ∷ field_one ∷ field_two ∷ field_two ∷ []) × (map channel_of_id (CC1 ∷ CC2 ∷ CC3 ∷ CC4 ∷ []) ≡ channel_one ∷ channel_two ∷ channel_one ∷ channel_two ∷ [])
services_by_field_and_channel = (refl, refl)

-- row 15 in an event
pub refused_3 : codes_of (event.Preamble channel_one (record { row = 15; underline = false; ty = Color White })) field_one ≡ refusal 3
unfolding codes_of
refused_3 = refl

-- a tab of four columns
pub refused_4 : codes_of (event.TabOffset channel_one 4) field_one ≡ refusal 4
unfolding codes_of
refused_4 = refl

-- two €, and A before a €: the first character is looked up first
abbrev said : ℕ → ℕ → Cea608
said c d = event.Text (record { needs_backspace = false; char1 = Some c; char2 = Some d; channel = channel_one })

pub refused_5 : (codes_of (said 0x20AC 0x20AC) field_one ≡ no_first 5) × (codes_of (said 0x41 0x20AC) field_one ≡ no_second 5)
unfolding codes_of from_char standard symbols
refused_5 = (refl, refl)

-- 0 and 5 are no service
pub refused_6 : (from_value (pos 0) ≡ refused 6) × (from_value (pos 5) ≡ refused 6)
refused_6 = (refl, refl)

-- the rows of a window
pub rows_of_modes : map rollup_rows (PopOn ∷ PaintOn ∷ RollUp2 ∷ RollUp3 ∷ RollUp4 ∷ []) ≡ None ∷ None ∷ Some 2 ∷ Some 3 ∷ Some 4 ∷ []
rows_of_modes = refl

pub modes_that_roll_up : map is_rollup (PopOn ∷ PaintOn ∷ RollUp2 ∷ RollUp3 ∷ RollUp4 ∷ []) ≡ false ∷ false ∷ true ∷ true ∷ true ∷ []
modes_that_roll_up = refl
