-- The pair that a code is written as. From 47 CFR 79.101 (g), (h), (i): the bytes of characters and control codes. From
-- CTA-608 as 01 has it: extended characters and the field. From 01: `Unknown`, lengths, refusals 2 and 3.
use Rattle.std.specs.Prelude.{Result, None, Option, Some, ℕ, ◌+◌, ◌*◌, ◌/◌, ◌%◌, Bool, true, false, cond, ◌&&◌, not, eqb, ltb}
use Rattle.code.specs.declared.write.WriteError.{WriteError}
use Rattle.code.specs.declared.write.WriteError.TheVariants.{UnknownByte, NoSuchRow}
use Rattle.code.specs.declared.preamble.NoSuchRow as row
use Rattle.code.specs.declared.channel.Field.{Field}
use Rattle.code.specs.Column.{column_number}
use Rattle.code.specs.Control.{command_number, names_field, tab_number}
use Rattle.code.specs.Letter.{letter_place}
use Rattle.code.specs.MidRow.{mid_row_number}
use Rattle.code.specs.Outcome.{Outcome, answer, outcome, refused}
use Rattle.code.specs.Pair.{pair, plus}
use Rattle.code.specs.Parity.{with_parity}
use Rattle.code.specs.Preamble.{in_row, row_prefix, style_of}
use Rattle.code.specs.Read.{is_command}
use Rattle.code.specs.Symbol.{symbol_base}
use Rattle.code.specs.declared.channel.Channel.{Channel}
use Rattle.code.specs.declared.code.Code.{Code}
use Rattle.code.specs.declared.code.Code.TheVariants as code
use Rattle.code.specs.declared.control.Command.{Command}
use Rattle.code.specs.declared.control.Control.{Control}
use Rattle.code.specs.declared.control.Control.TheVariants as control
use Rattle.code.specs.declared.control.Tab.{Tab}
use Rattle.code.specs.declared.midrow.MidRow.{MidRow}
use Rattle.code.specs.declared.pair.Pair.{Pair}
use Rattle.code.specs.declared.preamble.PreambleAddressCode.{PreambleAddressCode}
use Rattle.code.specs.declared.symbol.Symbol.{Symbol}

abbrev pub bit : Bool → ℕ
bit true = 1
bit false = 0

-- from 11 20 on
abbrev pub mid_row_bytes : MidRow → Pair
mid_row_bytes m = pair 0x11 (0x20 + 2 * mid_row_number m + bit m.underline)

abbrev pub symbol_bytes : Symbol → Pair
symbol_bytes s = plus (symbol_base s.row) (column_number s.column)

-- from 14 20 on, and from 17 21 on
abbrev pub command_bytes : Command → Pair
command_bytes c = pair 0x14 (0x20 + command_number c)

abbrev pub tab_bytes : Tab → Pair
tab_bytes t = pair 0x17 (0x20 + tab_number t)

abbrev pub preamble_bytes : PreambleAddressCode → Pair
preamble_bytes p = plus (row_prefix p.row) (2 * style_of p.ty + bit p.underline)

-- 3 as a preamble's constructor has it
abbrev pub row_bytes : PreambleAddressCode → Outcome Pair
row_bytes p = in_row p.row (preamble_bytes p)

-- the bytes of an `Unknown` have seven bits; 2: one of 0x80 or more
abbrev pub is_seven_bits : ℕ → Bool
is_seven_bits b = ltb b 0x80

abbrev pub of_seven_bits : {A : Type 0} → Bool → A → Outcome A
of_seven_bits small x = cond small (answer x) (refused 2)

-- the two bytes of a control, channel, field and parity aside
unfoldable pub control_bytes : Control → Outcome Pair
control_bytes (control.MidRow m) = answer (mid_row_bytes m)
control_bytes (control.Symbol s) = answer (symbol_bytes s)
control_bytes (control.Command c) = answer (command_bytes c)
control_bytes (control.Tab t) = answer (tab_bytes t)
control_bytes (control.Preamble p) = row_bytes p
control_bytes (control.Unknown a b) = of_seven_bits (is_seven_bits a && is_seven_bits b) (pair a b)

-- field two turns 14 before 20 to 2F into 15
abbrev pub is_field_two : Option Field → Bool
is_field_two (Some f) = not f.0
is_field_two None = false

abbrev pub with_field : Option Field → Pair → ℕ
with_field f p = cond (is_field_two f && eqb p.0 0x14 && names_field p.1) 0x15 p.0

-- channel two sets bit 0x08
abbrev pub with_bit8 : ℕ → ℕ
with_bit8 a = cond (eqb (a / 8 % 2) 1) a (a + 8)

abbrev pub with_channel : Channel → ℕ → ℕ
with_channel c a = cond c.0 a (with_bit8 a)

unfoldable pub on_line : Option Field → Channel → Pair → Pair
on_line f c p = pair (with_parity (with_channel c (with_field f p))) (with_parity p.1)

-- a command fills the pair and has length 2
abbrev pub as_command : Option Field → Channel → Outcome Pair → Outcome (Pair × ℕ)
as_command f c (answer p) = answer (on_line f c p, 2)
as_command f c (refused n) = refused n

-- a single code comes first, with NUL after it, and has length 1
abbrev pub single_written : ℕ → Pair × ℕ
single_written b = (pair (with_parity b) 0x80, 1)

abbrev pub as_single : ℕ → Outcome (Pair × ℕ)
as_single b = answer (single_written b)

unfoldable pub write_code : Code → Outcome (Pair × ℕ)
write_code code.Nul = as_single 0
write_code (code.Control c) = as_command c.field c.channel (control_bytes c.control)
write_code (code.Letter l) = as_single (0x20 + letter_place l)
write_code (code.Unknown b) = of_seven_bits (is_seven_bits b) (single_written b)

-- the numbers of what is refused in writing
abbrev pub write_refusal : WriteError → ℕ
write_refusal UnknownByte = 2
write_refusal NoSuchRow = 3

abbrev pub written_outcome : Result (Pair × ℕ) WriteError → Outcome (Pair × ℕ)
written_outcome r = outcome write_refusal r

abbrev pub seven_bits_outcome : Result ℕ WriteError → Outcome ℕ
seven_bits_outcome r = outcome write_refusal r

-- a code that can be written: 2 and 3 as above
abbrev pub control_in_domain : Control → Outcome Unit
control_in_domain (control.MidRow m) = answer tt
control_in_domain (control.Symbol s) = answer tt
control_in_domain (control.Command c) = answer tt
control_in_domain (control.Tab t) = answer tt
control_in_domain (control.Preamble p) = in_row p.row tt
control_in_domain (control.Unknown a b) = of_seven_bits (is_seven_bits a && is_seven_bits b) tt

unfoldable pub in_domain : Code → Outcome Unit
in_domain code.Nul = answer tt
in_domain (code.Control c) = control_in_domain c.control
in_domain (code.Letter l) = answer tt
in_domain (code.Unknown b) = of_seven_bits (is_seven_bits b) tt

abbrev pub domain_outcome : Result Unit WriteError → Outcome Unit
domain_outcome r = outcome write_refusal r

-- two codes that were read from one pair are written as the command, or as the two single bytes
abbrev pub together : Outcome (Pair × ℕ) → Outcome (Pair × ℕ) → Outcome Pair
together (answer x) (answer y) = answer (cond (eqb x.1 2) x.0 (pair x.0.0 y.0.0))
together (answer x) (refused n) = refused n
together (refused n) (answer y) = refused n
together (refused n) (refused m) = refused n

abbrev pub write_two : Code → Code → Outcome Pair
write_two x y = together (write_code x) (write_code y)

abbrev pub bytes_outcome : Result Pair WriteError → Outcome Pair
bytes_outcome r = outcome write_refusal r

abbrev pub row_bytes_outcome : Result Pair row.NoSuchRow → Outcome Pair
row_bytes_outcome r = outcome (λ e. 3) r

-- which codes are sent as commands: every control code but `Unknown`, and `Unknown`, of one byte or two, where its own
-- first byte is 10 to 1F
abbrev pub is_command_control : Control → Bool
is_command_control (control.MidRow m) = true
is_command_control (control.Symbol s) = true
is_command_control (control.Command c) = true
is_command_control (control.Tab t) = true
is_command_control (control.Preamble p) = true
is_command_control (control.Unknown a b) = is_command a

abbrev pub is_command_code : Code → Bool
is_command_code code.Nul = false
is_command_code (code.Control c) = is_command_control c.control
is_command_code (code.Letter l) = false
is_command_code (code.Unknown b) = is_command b
