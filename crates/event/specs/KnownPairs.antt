-- Pairs as every captioner knows them, with odd parity as they stand in caption files, each with its event. They are of
-- channel one and field one, from the tables of 47 CFR 79.101, and for extended characters of CTA-608. They hold the
-- definitions to bytes: whoever exchanges two events, rows, styles or modes in a definition and in its code meets this
-- list. Commands without an event are in `KnownPairs` of `receiver`. `written_as_known` in proofs/KnownPairs.antt goes from
-- the events to the pairs; the crate `receiver` goes back.
use Rattle.std.specs.Prelude.{None, Option, Some, ℕ, Bool, true, false, List, [], ◌∷◌, ◌++◌}
use Rattle.code.specs.Channel.{channel_one, field_one}
use Rattle.code.specs.MidRow.{colored, italic}
use Rattle.code.specs.Outcome.{Outcome, refused}
use Rattle.code.specs.Pair.{pair}
use Rattle.code.specs.Write.{write_two}
use Rattle.code.specs.declared.color.Color.TheVariants.{White, Green, Blue, Cyan, Red, Yellow, Magenta}
use Rattle.code.specs.declared.midrow.MidRow.{MidRow}
use Rattle.code.specs.declared.pair.Pair.{Pair}
use Rattle.code.specs.declared.preamble.PreambleType.{PreambleType}
use Rattle.code.specs.declared.preamble.PreambleType.TheVariants.{Color, WhiteItalics, Indent0, Indent4, Indent8, Indent12, Indent16, Indent20, Indent24, Indent28}
use Rattle.event.specs.IntoCode.{Turned, codes, codes_of, no_first, no_second, refusal}
use Rattle.event.specs.declared.event.Cea608.{Cea608}
use Rattle.event.specs.declared.event.Cea608.TheVariants.{Text, NewMode, EraseDisplay, EraseNonDisplay, CarriageReturn, Backspace, EndOfCaption, TabOffset, DeleteToEndOfRow, Preamble, MidRowChange}
use Rattle.event.specs.declared.mode.Mode.{Mode}
use Rattle.event.specs.declared.mode.Mode.TheVariants.{PopOn, PaintOn, RollUp2, RollUp3, RollUp4}

pub record Known : Type 0 where
  pub pair : Pair
  pub event : Cea608

abbrev known : ℕ → ℕ → Cea608 → Known
known a b e = record { pair = pair a b; event = e }

-- 14 20 to 14 2F, those that have an event, and 17 21 to 17 23
abbrev begins : ℕ → ℕ → Mode → Known
begins a b m = known a b (NewMode channel_one m)

abbrev commands : List Known
commands =
    begins 0x94 0x20 PopOn ∷ known 0x94 0xA1 (Backspace channel_one) ∷ known 0x94 0xA4 (DeleteToEndOfRow channel_one)
    ∷ begins 0x94 0x25 RollUp2 ∷ begins 0x94 0x26 RollUp3 ∷ begins 0x94 0xA7 RollUp4 ∷ begins 0x94 0x29 PaintOn
    ∷ known 0x94 0x2C (EraseDisplay channel_one) ∷ known 0x94 0xAD (CarriageReturn channel_one)
    ∷ known 0x94 0xAE (EraseNonDisplay channel_one) ∷ known 0x94 0x2F (EndOfCaption channel_one)
    ∷ known 0x97 0xA1 (TabOffset channel_one 1) ∷ known 0x97 0xA2 (TabOffset channel_one 2) ∷ known 0x97 0x23 (TabOffset channel_one 3) ∷ []

-- a preamble by its row, counted from 0
abbrev styled : ℕ → ℕ → ℕ → Bool → PreambleType → Known
styled a b row u t = known a b (Preamble channel_one (record { row = row; underline = u; ty = t }))

abbrev white : ℕ → ℕ → ℕ → Known
white a b row = styled a b row false (Color White)

-- the fifteen rows
abbrev rows : List Known
rows =
    white 0x91 0x40 0 ∷ white 0x91 0xE0 1 ∷ white 0x92 0x40 2 ∷ white 0x92 0xE0 3 ∷ white 0x15 0x40 4 ∷ white 0x15 0xE0 5
    ∷ white 0x16 0x40 6 ∷ white 0x16 0xE0 7 ∷ white 0x97 0x40 8 ∷ white 0x97 0xE0 9 ∷ white 0x10 0x40 10 ∷ white 0x13 0x40 11
    ∷ white 0x13 0xE0 12 ∷ white 0x94 0x40 13 ∷ white 0x94 0xE0 14 ∷ []

-- the styles, in the last row; one underlined
abbrev last_row : ℕ → PreambleType → Known
last_row b t = styled 0x94 b 14 false t

abbrev styles : List Known
styles =
    last_row 0x62 (Color Green) ∷ last_row 0x64 (Color Blue) ∷ last_row 0xE6 (Color Cyan) ∷ last_row 0x68 (Color Red)
    ∷ last_row 0xEA (Color Yellow) ∷ last_row 0xEC (Color Magenta) ∷ last_row 0x6E WhiteItalics ∷ last_row 0x70 Indent0
    ∷ last_row 0xF2 Indent4 ∷ last_row 0xF4 Indent8 ∷ last_row 0x76 Indent12 ∷ last_row 0xF8 Indent16 ∷ last_row 0x7A Indent20
    ∷ last_row 0x7C Indent24 ∷ last_row 0xFE Indent28 ∷ styled 0x94 0x61 14 true (Color White) ∷ []

abbrev changes : ℕ → MidRow → Known
changes b m = known 0x91 b (MidRowChange channel_one m)

abbrev mid_rows : List Known
mid_rows =
    changes 0x20 (colored White false) ∷ changes 0xA1 (colored White true) ∷ changes 0xA2 (colored Green false)
    ∷ changes 0xA4 (colored Blue false) ∷ changes 0x26 (colored Cyan false) ∷ changes 0xA8 (colored Red false)
    ∷ changes 0x2A (colored Yellow false) ∷ changes 0x2C (colored Magenta false) ∷ changes 0xAE (italic false)
    ∷ changes 0x2F (italic true) ∷ []

-- text: standard characters, a special one, and an extended one of each row, which takes the place of the one before it
abbrev shows : ℕ → ℕ → Bool → Option ℕ → Option ℕ → Known
shows a b back one two = known a b (Text (record { needs_backspace = back; char1 = one; char2 = two; channel = channel_one }))

-- Hi; A alone; a note; Á, À, Ã, Ä
abbrev texts : List Known
texts =
    shows 0xC8 0xE9 false (Some 0x48) (Some 0x69) ∷ shows 0xC1 0x80 false (Some 0x41) None
    ∷ shows 0x91 0x37 false (Some 0x266A) None ∷ shows 0x92 0x20 true (Some 0xC1) None
    ∷ shows 0x92 0xB0 true (Some 0xC0) None ∷ shows 0x13 0x20 true (Some 0xC3) None
    ∷ shows 0x13 0xB0 true (Some 0xC4) None ∷ []

abbrev pub known_pairs : List Known
known_pairs = commands ++ rows ++ styles ++ mid_rows ++ texts

-- what an event is written as
abbrev pub written_from : Turned → Outcome Pair
written_from (codes x y) = write_two x y
written_from (refusal n) = refused n
written_from (no_first n) = refused n
written_from (no_second n) = refused n

abbrev pub pair_of_event : Cea608 → Outcome Pair
pair_of_event e = written_from (codes_of e field_one)
