-- Codes by the names that they have here, each with its two stripped bytes, which are channel one's: commands, tabs, the
-- rows and the columns of characters. From 47 CFR 79.101, and for extended characters from CTA-608. Whoever exchanges two
-- names in a definition and in its code meets this list. proofs/NamedCodes.antt reads and writes them.
use Rattle.std.specs.Prelude.{None, Option, Some, ℕ, List, [], ◌∷◌, ◌++◌}
use Rattle.code.specs.declared.channel.Field.{Field}
use Rattle.code.specs.Channel.{channel_one, field_one}
use Rattle.code.specs.Pair.{pair}
use Rattle.code.specs.Parity.{with_parity}
use Rattle.code.specs.declared.code.Code.{Code}
use Rattle.code.specs.declared.code.Code.TheVariants as code
use Rattle.code.specs.declared.column.Column.{Column}
use Rattle.code.specs.declared.column.Column.TheVariants.{C0, C1, C2, C3, C4, C5, C6, C7, C8, C9, CA, CB, CC, CD, CE, CF}
use Rattle.code.specs.declared.control.Command.{Command}
use Rattle.code.specs.declared.control.Command.TheVariants.{ResumeCaptionLoading, Backspace, AlarmOff, AlarmOn, DeleteToEndOfRow, RollUp2, RollUp3, RollUp4, FlashOn, ResumeDirectionCaptioning, TextRestart, ResumeTextDisplay, EraseDisplayedMemory, CarriageReturn, EraseNonDisplayedMemory, EndOfCaption}
use Rattle.code.specs.declared.control.Control.{Control}
use Rattle.code.specs.declared.control.Control.TheVariants as control
use Rattle.code.specs.declared.control.Tab.{Tab}
use Rattle.code.specs.declared.control.Tab.TheVariants.{TabOffset1, TabOffset2, TabOffset3}
use Rattle.code.specs.declared.letter.LetterRow.{LetterRow}
use Rattle.code.specs.declared.letter.LetterRow.TheVariants.{Row2, Row3, Row4, Row5, Row6, Row7}
use Rattle.code.specs.declared.pair.Pair.{Pair}
use Rattle.code.specs.declared.symbol.SymbolRow.{SymbolRow}
use Rattle.code.specs.declared.symbol.SymbolRow.TheVariants.{Special, Spanish, French, Portuguese, German}

-- a code, the pair of its stripped bytes, and how many of them it fills
pub record Named : Type 0 where
  pub pair : Pair
  pub code : Code
  pub length : ℕ

abbrev coded : ℕ → ℕ → Option Field → Control → Named
coded a b f c = record {
  pair = pair (with_parity a) (with_parity b);
  code = code.Control (record { field = f; channel = channel_one; control = c });
  length = 2;
}

abbrev one_byte : ℕ → Code → Named
one_byte b c = record { pair = pair (with_parity b) (with_parity 0); code = c; length = 1 }

-- 14 20 to 14 2F
abbrev command : ℕ → Command → Named
command b c = coded 0x14 b (Some field_one) (control.Command c)

abbrev commands : List Named
commands =
    command 0x20 ResumeCaptionLoading ∷ command 0x21 Backspace ∷ command 0x22 AlarmOff ∷ command 0x23 AlarmOn
    ∷ command 0x24 DeleteToEndOfRow ∷ command 0x25 RollUp2 ∷ command 0x26 RollUp3 ∷ command 0x27 RollUp4 ∷ command 0x28 FlashOn
    ∷ command 0x29 ResumeDirectionCaptioning ∷ command 0x2A TextRestart ∷ command 0x2B ResumeTextDisplay
    ∷ command 0x2C EraseDisplayedMemory ∷ command 0x2D CarriageReturn ∷ command 0x2E EraseNonDisplayedMemory
    ∷ command 0x2F EndOfCaption ∷ []

-- 17 21 to 17 23
abbrev tab : ℕ → Tab → Named
tab b t = coded 0x17 b None (control.Tab t)

abbrev tabs : List Named
tabs = tab 0x21 TabOffset1 ∷ tab 0x22 TabOffset2 ∷ tab 0x23 TabOffset3 ∷ []

-- the rows of symbols, each by its first
abbrev symbol : ℕ → ℕ → SymbolRow → Named
symbol a b r = coded a b None (control.Symbol (record { row = r; column = C0 }))

abbrev rows : List Named
rows =
    symbol 0x11 0x30 Special ∷ symbol 0x12 0x20 Spanish ∷ symbol 0x12 0x30 French ∷ symbol 0x13 0x20 Portuguese
    ∷ symbol 0x13 0x30 German ∷ []

-- NUL, and one byte that means nothing
abbrev others : List Named
others = one_byte 0 code.Nul ∷ one_byte 0x01 (code.Unknown 0x01) ∷ one_byte 0x0F (code.Unknown 0x0F) ∷ []

-- the columns by @ and A to O; the rows of letters by ! 1 A Q a q
abbrev letter : ℕ → LetterRow → Column → Named
letter b r c = one_byte b (code.Letter (record { row = r; column = c }))

abbrev letters : List Named
letters =
    letter 0x40 Row4 C0 ∷ letter 0x41 Row4 C1 ∷ letter 0x42 Row4 C2 ∷ letter 0x43 Row4 C3 ∷ letter 0x44 Row4 C4
    ∷ letter 0x45 Row4 C5 ∷ letter 0x46 Row4 C6 ∷ letter 0x47 Row4 C7 ∷ letter 0x48 Row4 C8 ∷ letter 0x49 Row4 C9
    ∷ letter 0x4A Row4 CA ∷ letter 0x4B Row4 CB ∷ letter 0x4C Row4 CC ∷ letter 0x4D Row4 CD ∷ letter 0x4E Row4 CE
    ∷ letter 0x4F Row4 CF ∷ letter 0x21 Row2 C1 ∷ letter 0x31 Row3 C1 ∷ letter 0x51 Row5 C1 ∷ letter 0x61 Row6 C1
    ∷ letter 0x71 Row7 C1 ∷ []

abbrev pub named_codes : List Named
named_codes = commands ++ tabs ++ rows ++ letters ++ others
