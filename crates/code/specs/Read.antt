-- What a pair means. From 47 CFR 79.101 (g), (h), (i): characters, control codes, the channel bit. From CTA-608 as 01
-- has it: extended characters and the field. From 01: `Unknown`, and refusal 1, which follows the crate against (j).
use Rattle.std.specs.Option.{unwrap_or}
use Rattle.std.specs.Prelude.{Result, ℕ, ◌+◌, ◌-◌, ◌/◌, ◌%◌, Bool, cond, ◌&&◌, eqb, leb, Option, None, Some}
use Rattle.code.specs.declared.read.InvalidParity.{InvalidParity}
use Rattle.code.specs.declared.channel.Field.{Field}
use Rattle.code.specs.Channel.{channel_one, channel_two, field_one, field_two}
use Rattle.code.specs.Column.{column_at}
use Rattle.code.specs.Control.{command_at, names_field, tab_of}
use Rattle.code.specs.Letter.{letter_at}
use Rattle.code.specs.MidRow.{mid_row_at}
use Rattle.code.specs.Outcome.{Outcome, answer, outcome, refused}
use Rattle.code.specs.Parity.{is_odd, stripped}
use Rattle.code.specs.Pair.{pair, same_pair}
use Rattle.code.specs.Position.{first_place}
use Rattle.code.specs.Preamble.{row_prefixes, style_at}
use Rattle.code.specs.Range.{within}
use Rattle.code.specs.Symbol.{symbol_base}
use Rattle.code.specs.declared.channel.Channel.{Channel}
use Rattle.code.specs.declared.code.Code.{Code}
use Rattle.code.specs.declared.code.Code.TheVariants as code
use Rattle.code.specs.declared.control.Control.{Control}
use Rattle.code.specs.declared.control.Control.TheVariants as control
use Rattle.code.specs.declared.control.ControlCode.{ControlCode}
use Rattle.code.specs.declared.pair.Pair.{Pair}
use Rattle.code.specs.declared.symbol.SymbolRow.{SymbolRow}
use Rattle.code.specs.declared.symbol.SymbolRow.TheVariants.{Special, Spanish, French, Portuguese, German}

-- bit 0x01 underlines
abbrev pub underlined : ℕ → Bool
underlined b = eqb (b % 2) 1

-- the first byte of a control code: 10 to 17 for channel one, 18 to 1F for channel two
abbrev pub is_command : ℕ → Bool
is_command a = within 0x10 0x1F a

-- of such a byte: bit 0x08 clear is channel one, set is two; it is removed
abbrev pub channel_of : ℕ → Channel
channel_of a = cond (leb a 0x17) channel_one channel_two

abbrev pub without_channel : ℕ → ℕ
without_channel a = cond (leb a 0x17) a (a - 8)

-- the field that 14 or 15 names; 15 then means what 14 does
abbrev pub field_of : ℕ → ℕ → Option Field
field_of p b = cond (names_field b) (cond (eqb p 0x14) (Some field_one) (cond (eqb p 0x15) (Some field_two) None)) None

abbrev pub without_field : ℕ → ℕ → ℕ
without_field p b = cond (names_field b && eqb p 0x15) 0x14 p

-- a preamble: its row by its prefix, its style in bits 0x1E
abbrev pub row_of : ℕ → ℕ → Option ℕ
row_of p b = first_place (same_pair (pair p (b - b % 32))) row_prefixes

abbrev pub preamble_at : ℕ → Option ℕ → Option Control
preamble_at b None = None
preamble_at b (Some row) =
    Some (control.Preamble (record { row = row; underline = underlined b; ty = style_at (b % 32 / 2) }))

-- a symbol: its row by the first byte and the upper digit of the second, its column by the lower digit
abbrev pub is_in_row : SymbolRow → ℕ → ℕ → Bool
is_in_row r p b = eqb p (symbol_base r).0 && within (symbol_base r).1 ((symbol_base r).1 + 15) b

abbrev pub symbol_in : SymbolRow → ℕ → Option Control
symbol_in r b = Some (control.Symbol (record { row = r; column = column_at (b % 16) }))

-- what a first byte, 10 to 17 with 15 already read as 14 where it names a field, and a second byte mean together
unfoldable pub meaning : ℕ → ℕ → Option Control
meaning p b =
    cond (eqb p 0x11 && within 0x20 0x2F b) (Some (control.MidRow (mid_row_at ((b - 0x20) / 2) (underlined b))))
    (cond (is_in_row Special p b) (symbol_in Special b)
    (cond (is_in_row Spanish p b) (symbol_in Spanish b)
    (cond (is_in_row French p b) (symbol_in French b)
    (cond (is_in_row Portuguese p b) (symbol_in Portuguese b)
    (cond (is_in_row German p b) (symbol_in German b)
    (cond (eqb p 0x14 && names_field b) (Some (control.Command (command_at (b - 0x20))))
    (cond (eqb p 0x17 && within 0x21 0x23 b) (Some (control.Tab (tab_of (b - 0x20)))) (preamble_at b (row_of p b)))))))))

-- what has no meaning keeps its two stripped bytes, with the channel bit
abbrev pub or_unknown : ℕ → ℕ → Option Control → Control
or_unknown a b meant = unwrap_or meant (control.Unknown a b)

-- the control code of two stripped bytes
unfoldable pub control_code_of : ℕ → ℕ → ControlCode
control_code_of a b = record {
  field = field_of (without_channel a) b;
  channel = channel_of a;
  control = or_unknown a b (meaning (without_field (without_channel a) b) b);
}

-- the code of one stripped byte of a pair that is no command
abbrev pub single : ℕ → Code
single b = cond (eqb b 0) code.Nul (cond (leb 0x20 b) (code.Letter (letter_at (b - 0x20))) (code.Unknown b))

-- the codes of two stripped bytes: a command and NUL, or two single codes
abbrev pub codes_of_bytes : ℕ → ℕ → Code × Code
codes_of_bytes a b = cond (is_command a) (code.Control (control_code_of a b), code.Nul) (single a, single b)

-- of a received pair: both bytes have odd parity; and its first byte is that of a control code
abbrev pub is_odd_pair : Pair → Bool
is_odd_pair p = is_odd p.0 && is_odd p.1

abbrev pub is_command_pair : Pair → Bool
is_command_pair p = is_command (stripped p.0)

-- the codes of a received pair; 1: a byte with an even count of ones
unfoldable pub read_pair : ℕ → ℕ → Outcome (Code × Code)
read_pair a b = cond (is_odd_pair (pair a b)) (answer (codes_of_bytes (stripped a) (stripped b))) (refused 1)

abbrev pub from_data_outcome : Result (Code × Code) InvalidParity → Outcome (Code × Code)
from_data_outcome r = outcome (λ e. 1) r
