-- Which codes are written as command pairs: field, channel and parity keep a first byte of 10 to 1F in that range and any
-- other out of it, and each row of symbols and of preambles begins with one.
-- Assumes nothing.
use Rattle.std.specs.Prelude.{Option}
use Rattle.code.specs.declared.channel.Field.{Field}
use mathlib.Core.Bool.{Bool, true, false, cond, ◌&&◌}
use mathlib.Core.Path.{◌≡◌, refl, ap, sym, subst, ◌∙◌}
use Prim.Native.Nat.{ℕ, ◌+◌, ◌<◌}
use native.Mathlib.Omega.{arith}
use borrow.Author.Tests.{eqb-true, leb-true, ltb-true}
use lib.Dec.{eqb, leb, lit<}
use Rattle.code.proofs.Agree.{agree}
use Rattle.code.proofs.Both.{both_left, both_right}
use Rattle.code.proofs.Numbers.{letter_small}
use Rattle.code.proofs.Ranges.{command_range}
use Rattle.code.proofs.WrittenLemmas.{data_kept}
use Rattle.code.specs.Control.{names_field}
use Rattle.code.specs.Letter.{letter_place}
use Rattle.code.specs.Outcome.{Outcome, answer, refused}
use Rattle.code.specs.Pair.{pair}
use Rattle.code.specs.Parity.{stripped, with_parity}
use Rattle.code.specs.Read.{is_command}
use Rattle.code.specs.Preamble.{row_prefix}
use Rattle.code.specs.Symbol.{symbol_base}
use Rattle.code.specs.Write.{as_command, as_single, command_bytes, control_bytes, is_command_code, is_command_control, is_field_two, is_seven_bits, mid_row_bytes, on_line, preamble_bytes, symbol_bytes, tab_bytes, with_bit8, with_channel, with_field, write_code}
use Rattle.code.specs.declared.channel.Channel.{Channel}
use Rattle.code.specs.declared.code.Code.{Code}
use Rattle.code.specs.declared.code.Code.TheVariants as code
use Rattle.code.specs.declared.control.Control.{Control}
use Rattle.code.specs.declared.control.Control.TheVariants as control
use Rattle.code.specs.declared.pair.Pair.{Pair}
use Rattle.code.specs.declared.preamble.PreambleAddressCode.{PreambleAddressCode}
use Rattle.code.specs.declared.symbol.Symbol.{Symbol}
use Rattle.code.specs.declared.symbol.SymbolRow.{SymbolRow}
use Rattle.code.specs.declared.symbol.SymbolRow.TheVariants.{Special, Spanish, French, Portuguese, German}

-- field, channel and parity keep a byte in or out of 10 to 1F
parity_says : (b : ℕ) → b < 128 → is_command (stripped (with_parity b)) ≡ is_command b
parity_says b less =
    let here : stripped b ≡ b = omega arith in
    ap is_command (data_kept b ∙ here)

channel_says : (t : Bool) (a : ℕ) → a < 128 → is_command (stripped (cond t a (with_bit8 a))) ≡ is_command a
channel_says true a less = agree (λ (x : ℕ). is_command (stripped x)) is_command 128 refl a less
channel_says false a less = agree (λ (x : ℕ). is_command (stripped (with_bit8 x))) is_command 128 refl a less

field_says : (t : Bool) (ch : Channel) (a : ℕ) → (t ≡ true → a ≡ 0x14) → a < 128 → is_command (stripped (with_channel ch (cond t 0x15 a))) ≡ is_command a
field_says true ch a is14 less = channel_says ch.0 0x15 (lit< tt) ∙ ap is_command (sym (is14 refl))
field_says false ch a is14 less = channel_says ch.0 a less

line_says : (f : Option Field) (ch : Channel) (p : Pair) → p.0 < 128 → is_command (stripped (on_line f ch p).0) ≡ is_command p.0
unfolding on_line
line_says f ch p less =
    let two = is_field_two f in
    let at14 = eqb p.0 0x14 in
    let before = names_field p.1 in
    ap is_command (data_kept (with_channel ch (with_field f p)))
    ∙ field_says (two && at14 && before) ch p.0
    (λ (e : (two && at14 && before) ≡ true). eqb-true p.0 0x14 (both_right two at14 (both_left (two && at14) before e)))
    less

-- the first bytes of the rows of symbols and of preambles
row_says : (r : SymbolRow) → is_command (symbol_base r).0 ≡ true
row_says Special = refl
row_says Spanish = refl
row_says French = refl
row_says Portuguese = refl
row_says German = refl

symbol_says : (s : Symbol) → is_command (symbol_bytes s).0 ≡ true
symbol_says s = row_says s.row

prefix_says : (row : ℕ) → row < 15 → is_command (row_prefix row).0 ≡ true
prefix_says row less = agree (λ (x : ℕ). is_command (row_prefix x).0) (λ (x : ℕ). true) 15 refl row less

preamble_says : (p : PreambleAddressCode) → p.row < 15 → is_command (preamble_bytes p).0 ≡ true
preamble_says p less = prefix_says p.row less

-- a first byte of 10 to 1F is still one when sent
goes_out : (f : Option Field) (ch : Channel) (p : Pair) → is_command p.0 ≡ true → is_command (stripped (on_line f ch p).0) ≡ true
goes_out f ch p e = line_says f ch p (omega (arith, command_range p.0 e)) ∙ e

-- of an outcome: if it is an answer, b says whether its first byte is 10 to 1F
abbrev Says : Bool → Outcome (Pair × ℕ) → Type 0
Says b (answer x) = is_command (stripped x.0.0) ≡ b
Says b (refused n) = Unit

preamble_goes_out : (f : Option Field) (ch : Channel) (p : PreambleAddressCode) (t : Bool) → leb p.row 14 ≡ t → Says true (as_command f ch (cond t (answer (preamble_bytes p)) (refused 3)))
preamble_goes_out f ch p true e = goes_out f ch (preamble_bytes p) (preamble_says p (omega (arith, leb-true p.row 14 e)))
preamble_goes_out f ch p false e = tt

unknown_goes_out : (f : Option Field) (ch : Channel) (a b : ℕ) (t : Bool) → (is_seven_bits a && is_seven_bits b) ≡ t → Says (is_command a) (as_command f ch (cond t (answer (pair a b)) (refused 2)))
unknown_goes_out f ch a b true e = line_says f ch (pair a b) (ltb-true a 0x80 (both_left (is_seven_bits a) (is_seven_bits b) e))
unknown_goes_out f ch a b false e = tt

control_says : (f : Option Field) (ch : Channel) (c : Control) → Says (is_command_control c) (as_command f ch (control_bytes c))
unfolding control_bytes
control_says f ch (control.MidRow m) = goes_out f ch (mid_row_bytes m) refl
control_says f ch (control.Symbol s) = goes_out f ch (symbol_bytes s) (symbol_says s)
control_says f ch (control.Command c) = goes_out f ch (command_bytes c) refl
control_says f ch (control.Tab t) = goes_out f ch (tab_bytes t) refl
control_says f ch (control.Preamble p) = preamble_goes_out f ch p (leb p.row 14) refl
control_says f ch (control.Unknown a b) = unknown_goes_out f ch a b (is_seven_bits a && is_seven_bits b) refl

letter_says : (n : ℕ) → n < 96 → is_command (0x20 + n) ≡ false
letter_says n less = agree (λ (x : ℕ). is_command (0x20 + x)) (λ (x : ℕ). false) 96 refl n less

single_says : (b : ℕ) (t : Bool) → is_seven_bits b ≡ t → Says (is_command b) (cond t (as_single b) (refused 2))
single_says b true e = parity_says b (ltb-true b 0x80 e)
single_says b false e = tt

code_says : (c : Code) → Says (is_command_code c) (write_code c)
unfolding write_code
code_says code.Nul = parity_says 0 (lit< tt)
code_says (code.Control c) = control_says c.field c.channel c.control
code_says (code.Letter l) =
    parity_says (0x20 + letter_place l) (omega (arith, letter_small l)) ∙ letter_says (letter_place l) (letter_small l)
code_says (code.Unknown b) = single_says b (is_seven_bits b) refl

-- a written code has a first byte of 10 to 1F exactly where it is one that is sent as a command
pub written_says_command : (c : Code) (p : Pair) (n : ℕ) → write_code c ≡ answer (p, n) → is_command (stripped p.0) ≡ is_command_code c
written_says_command c p n e = subst (Says (is_command_code c)) e (code_says c)
