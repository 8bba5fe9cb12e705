-- What is written is read back: a control code but `Unknown` with its own channel and control and with the field that its
-- bytes name, and single codes as they were. With `RoundTrip`, which goes from pairs to codes and back, this goes from codes to pairs and
-- back.
-- Assumes nothing.
use Rattle.code.specs.declared.channel.Field.{Field}
use mathlib.Core.Bool.{Bool, true, false, ◌&&◌, true≢false}
use Rattle.std.specs.Prelude.{Option, None, Some}
use Rattle.std.proofs.lemmas.Option.{none-some}
use mathlib.Core.Path.{◌≡◌, refl, ap, ap₂, sym, ◌∙◌}
use Prim.Native.Nat.{ℕ, ◌+◌, ◌≤◌, ◌<◌}
use borrow.Author.Tests.{le-leb, ltb-false, ltb-true}
use native.Mathlib.Omega.{arith}
use lib.Dec.{eqb, lit<, lit≤, ltb}
use Rattle.code.proofs.Agree.{agree, agree_from, agree_grid}
use Rattle.code.proofs.Both.{both_true}
use Rattle.code.proofs.KindByKind.{bytes_written, letter_written}
use Rattle.code.proofs.MeantBack.{command_meant, command_pair, is_pair_of_control, meant, mid_row_meant, mid_row_pair, preamble_meant, preamble_pair, symbol_meant, symbol_pair, tab_meant, tab_pair}
use Rattle.code.proofs.Numbers.{letter_again, letter_small}
use Rattle.code.proofs.Ranges.{command_range, still_between}
use Rattle.code.proofs.WrittenLemmas.{data_kept, read_as_command, read_as_text, with_parity_lem}
use Rattle.code.specs.Channel.{channel_one, channel_two, field_one, field_two}
use Rattle.code.specs.Control.{names_field}
use Rattle.code.specs.Letter.{letter_at, letter_place}
use Rattle.code.specs.Outcome.{Outcome, answer}
use Rattle.code.specs.Pair.{pair}
use Rattle.code.specs.Parity.{stripped, with_parity}
use Rattle.code.specs.Read.{channel_of, control_code_of, field_of, is_command, is_command_pair, meaning, or_unknown, read_pair, single, without_channel, without_field}
use Rattle.code.specs.ReadBack.{ReadsBack, TextReadsBack, field_read, is_plain}
use Rattle.code.specs.Write.{as_single, command_bytes, control_bytes, is_field_two, is_seven_bits, mid_row_bytes, on_line, preamble_bytes, symbol_bytes, tab_bytes, together, with_channel, with_field, write_code}
use Rattle.code.specs.declared.channel.Channel.{Channel}
use Rattle.code.specs.declared.code.Code.{Code}
use Rattle.code.specs.declared.code.Code.TheVariants as code
use Rattle.code.specs.declared.control.Command.{Command}
use Rattle.code.specs.declared.control.Control.{Control}
use Rattle.code.specs.declared.control.Control.TheVariants as control
use Rattle.code.specs.declared.control.ControlCode.{ControlCode}
use Rattle.code.specs.declared.control.Tab.{Tab}
use Rattle.code.specs.declared.letter.Letter.{Letter}
use Rattle.code.specs.declared.midrow.MidRow.{MidRow}
use Rattle.code.specs.declared.pair.Pair.{Pair}
use Rattle.code.specs.declared.preamble.PreambleAddressCode.{PreambleAddressCode}
use Rattle.code.specs.declared.symbol.Symbol.{Symbol}

-- seven bits of data stay
small_stays : (b : ℕ) → b < 128 → stripped b ≡ b
small_stays b less = omega arith

-- the channel is taken off again
channel_back : (ch : Bool) (a : ℕ) → 16 ≤ a → a < 24 → without_channel (with_channel (record { 0 = ch }) a) ≡ a
channel_back true a from below = agree_from (λ (x : ℕ). without_channel (with_channel channel_one x)) (λ (x : ℕ). x) 16 8 refl a from below
channel_back false a from below = agree_from (λ (x : ℕ). without_channel (with_channel channel_two x)) (λ (x : ℕ). x) 16 8 refl a from below

channel_kept : (ch : Bool) (a : ℕ) → 16 ≤ a → a < 24 → channel_of (with_channel (record { 0 = ch }) a) ≡ record { 0 = ch }
channel_kept true a from below = agree_from (λ (x : ℕ). channel_of (with_channel channel_one x)) (λ (x : ℕ). channel_one) 16 8 refl a from below
channel_kept false a from below = agree_from (λ (x : ℕ). channel_of (with_channel channel_two x)) (λ (x : ℕ). channel_two) 16 8 refl a from below

-- and so is the field, where the bytes mean something: 15 before 20 to 2F does not
abbrev if_meant : Option Control → Option Control → Option Control
if_meant None m = None
if_meant (Some c) m = m

abbrev read_as : Option Field → ℕ → ℕ → Option Control
read_as f a b = meaning (without_field (with_field f (pair a b)) b) b

field_back : (f : Option Field) (a b : ℕ) → 16 ≤ a → a < 24 → b < 128 → if_meant (meaning a b) (read_as f a b) ≡ meaning a b
unfolding meaning
field_back None a b from below less =
    agree_grid (λ (x y : ℕ). if_meant (meaning x y) (read_as None x y)) meaning 16 8 128 refl a b from below less
field_back (Some f) a b from below less = named f.0
  where
    named : (t : Bool) → if_meant (meaning a b) (read_as (Some (record { 0 = t })) a b) ≡ meaning a b
    named true = agree_grid (λ (x y : ℕ). if_meant (meaning x y) (read_as (Some field_one) x y)) meaning 16 8 128 refl a b from below less
    named false = agree_grid (λ (x y : ℕ). if_meant (meaning x y) (read_as (Some field_two) x y)) meaning 16 8 128 refl a b from below less

-- the field that is read, where the bytes mean something
abbrev if_meant_field : Option Control → Option Field → Option Field
if_meant_field None f = None
if_meant_field (Some c) f = f

abbrev field_meant : Option Field → Option Control → Option Field
field_meant f None = None
field_meant f (Some c) = field_read f c

abbrev field_written : Option Field → ℕ → ℕ → Option Field
field_written f a b = field_of (with_field f (pair a b)) b

field_meant_lem : (f : Option Field) (a b : ℕ) → 16 ≤ a → a < 24 → b < 128 → if_meant_field (meaning a b) (field_written f a b) ≡ field_meant f (meaning a b)
unfolding meaning
field_meant_lem None a b from below less =
    agree_grid (λ (x y : ℕ). if_meant_field (meaning x y) (field_written None x y)) (λ (x y : ℕ). field_meant None (meaning x y)) 16 8 128 refl a b from below less
field_meant_lem (Some f) a b from below less = named f.0
  where
    named : (t : Bool) → if_meant_field (meaning a b) (field_written (Some (record { 0 = t })) a b) ≡ field_meant (Some (record { 0 = t })) (meaning a b)
    named true = agree_grid (λ (x y : ℕ). if_meant_field (meaning x y) (field_written (Some field_one) x y)) (λ (x y : ℕ). field_meant (Some field_one) (meaning x y)) 16 8 128 refl a b from below less
    named false = agree_grid (λ (x y : ℕ). if_meant_field (meaning x y) (field_written (Some field_two) x y)) (λ (x y : ℕ). field_meant (Some field_two) (meaning x y)) 16 8 128 refl a b from below less

-- 14 becomes 15 at most, so that the first byte stays between 10 and 17
field_between : (f : Option Field) (a b : ℕ) → 16 ≤ a → a < 24 → (16 ≤ with_field f (pair a b)) × (with_field f (pair a b) < 24)
field_between f a b from below = still_between (is_field_two f && eqb a 0x14 && names_field b) 0x15 a (lit≤ tt, lit< tt) (from, below)

channel_between : (ch : Bool) (a : ℕ) → 16 ≤ a → a < 24 → (is_command (with_channel (record { 0 = ch }) a) ≡ true) × (stripped (with_channel (record { 0 = ch }) a) ≡ with_channel (record { 0 = ch }) a)
channel_between true a from below = (
  agree_from (λ (x : ℕ). is_command (with_channel channel_one x)) (λ (x : ℕ). true) 16 8 refl a from below,
  agree_from (λ (x : ℕ). stripped (with_channel channel_one x)) (with_channel channel_one) 16 8 refl a from below,
)
channel_between false a from below = (
  agree_from (λ (x : ℕ). is_command (with_channel channel_two x)) (λ (x : ℕ). true) 16 8 refl a from below,
  agree_from (λ (x : ℕ). stripped (with_channel channel_two x)) (with_channel channel_two) 16 8 refl a from below,
)

-- two bytes that mean a control, as they are written and read
module _ (f : Option Field) (ch : Channel) (a b : ℕ) (c : Control) (from : 16 ≤ a) (below : a < 24) (less : b < 128) (means : meaning a b ≡ Some c) where
  abbrev named : ℕ
  named = with_field f (pair a b)

  abbrev first_byte : ℕ
  first_byte = with_channel ch named

  inside : (16 ≤ named) × (named < 24)
  inside = field_between f a b from below

  -- what was read is what was meant
  means_again : meaning (without_field (without_channel first_byte) b) b ≡ Some c
  means_again =
      ap (λ (x : ℕ). meaning (without_field x b) b) (channel_back ch.0 named inside.0 inside.1)
      ∙ sym (ap (λ (m : Option Control). if_meant m (read_as f a b)) means)
      ∙ field_back f a b from below less
      ∙ means

  field_again : field_of (without_channel first_byte) b ≡ field_read f c
  field_again =
      ap (λ (x : ℕ). field_of x b) (channel_back ch.0 named inside.0 inside.1)
      ∙ sym (ap (λ (m : Option Control). if_meant_field m (field_written f a b)) means)
      ∙ field_meant_lem f a b from below less
      ∙ ap (field_meant f) means

  abbrev back : ControlCode
  back = record { field = field_read f c; channel = ch; control = c }

  command_back : control_code_of first_byte b ≡ back
  unfolding control_code_of
  command_back =
      ap (λ (g : Option Field). record { field = g; channel = channel_of first_byte; control = or_unknown first_byte b (meaning (without_field (without_channel first_byte) b) b) }) field_again
      ∙ ap₂ {C = ControlCode} (λ (d : Channel) (m : Option Control). record { field = field_read f c; channel = d; control = or_unknown first_byte b m })
      (channel_kept ch.0 named inside.0 inside.1) means_again

  first_kept : stripped (with_parity first_byte) ≡ first_byte
  first_kept = data_kept first_byte ∙ (channel_between ch.0 named inside.0 inside.1).1

  first_is_command : is_command (stripped (with_parity first_byte)) ≡ true
  first_is_command = ap is_command first_kept ∙ (channel_between ch.0 named inside.0 inside.1).0

  pub sent_as_command : is_command_pair (on_line f ch (pair a b)) ≡ true
  unfolding on_line
  sent_as_command = first_is_command

  pub bytes_read_back : read_pair (on_line f ch (pair a b)).0 (on_line f ch (pair a b)).1 ≡ answer (code.Control back, code.Nul)
  unfolding on_line
  bytes_read_back =
      let second : stripped (with_parity b) ≡ b = data_kept b ∙ small_stays b less in
      read_as_command (with_parity first_byte) (with_parity b) (with_parity_lem first_byte).odd (with_parity_lem b).odd first_is_command
      ∙ ap₂ {C = Outcome (Code × Code)} (λ (x y : ℕ). answer (code.Control (control_code_of x y), code.Nul)) first_kept second
      ∙ ap {B = Outcome (Code × Code)} (λ (x : ControlCode). answer (code.Control x, code.Nul)) command_back

-- from 18 on no first byte, channel aside, means anything
none_above : (a b : ℕ) → 24 ≤ a → a < 32 → b < 128 → meaning a b ≡ None
unfolding meaning
none_above a b from below less = agree_grid meaning (λ (x y : ℕ). None) 24 8 128 refl a b from below less

first_below : (a b : ℕ) (c : Control) (t : Bool) → ltb a 24 ≡ t → a < 32 → b < 128 → meaning a b ≡ Some c → a < 24
first_below a b c true e to less means = ltb-true a 24 e
first_below a b c false e to less means =
    absurd (none-some c (sym (none_above a b (ltb-false a 24 e) to less) ∙ means))

by_bytes : (f : Option Field) (ch : Channel) (c : Control) (p : Pair) → control_bytes c ≡ answer p → is_pair_of_control p ≡ true → meant p ≡ Some c → ReadsBack f ch c
by_bytes f ch c p bytes fits means =
    let both = both_true (is_command p.0) (is_seven_bits p.1) fits in
    let first = command_range p.0 both.0 in
    let from = first.0 in
    let less = ltb-true p.1 0x80 both.1 in
    let below = first_below p.0 p.1 c (ltb p.0 24) refl first.1 less means in
    record {
      pair = on_line f ch p;
      written = bytes_written (record { field = f; channel = ch; control = c }) p bytes;
      read = bytes_read_back f ch p.0 p.1 c from below less means;
      is_a_command = sent_as_command f ch p.0 p.1 c from below less means;
    }

pub mid_row_reads_back : (f : Option Field) (ch : Channel) (m : MidRow) → ReadsBack f ch (control.MidRow m)
unfolding control_bytes
mid_row_reads_back f ch m = by_bytes f ch (control.MidRow m) (mid_row_bytes m) refl (mid_row_pair m) (mid_row_meant m)

pub symbol_reads_back : (f : Option Field) (ch : Channel) (s : Symbol) → ReadsBack f ch (control.Symbol s)
unfolding control_bytes
symbol_reads_back f ch s = by_bytes f ch (control.Symbol s) (symbol_bytes s) refl (symbol_pair s) (symbol_meant s)

pub command_reads_back : (f : Option Field) (ch : Channel) (c : Command) → ReadsBack f ch (control.Command c)
unfolding control_bytes
command_reads_back f ch c =
    by_bytes f ch (control.Command c) (command_bytes c) refl (command_pair c) (command_meant c)

pub tab_reads_back : (f : Option Field) (ch : Channel) (t : Tab) → ReadsBack f ch (control.Tab t)
unfolding control_bytes
tab_reads_back f ch t = by_bytes f ch (control.Tab t) (tab_bytes t) refl (tab_pair t) (tab_meant t)

pub preamble_reads_back : (f : Option Field) (ch : Channel) (p : PreambleAddressCode) → p.row < 15 → ReadsBack f ch (control.Preamble p)
unfolding control_bytes
preamble_reads_back f ch p inside =
    by_bytes f ch (control.Preamble p) (preamble_bytes p) (rw (le-leb p.row 14 (omega arith)) refl) (preamble_pair p inside)
    (preamble_meant p inside)

-- the byte of NUL or a letter, before parity
pub record Plain (x : Code) : Type 0 where
  pub byte : ℕ
  pub small : byte < 128
  pub written : write_code x ≡ as_single byte
  pub read : single byte ≡ x
  pub no_command : is_command byte ≡ false

plain_nul : Plain code.Nul
unfolding write_code
plain_nul = record { byte = 0; small = lit< tt; written = refl; read = refl; no_command = refl }

plain_letter : (l : Letter) → Plain (code.Letter l)
plain_letter l =
    let n = letter_place l in
    let less = letter_small l in
    record {
      byte = 0x20 + n;
      small = omega arith;
      written = letter_written l;
      read =
          agree (λ (k : ℕ). single (0x20 + k)) (λ (k : ℕ). code.Letter (letter_at k)) 96 refl n less
          ∙ ap code.Letter (letter_again l);
      no_command = agree (λ (k : ℕ). is_command (0x20 + k)) (λ (k : ℕ). false) 96 refl n less;
    }

plain : (x : Code) → is_plain x ≡ true → Plain x
plain code.Nul e = plain_nul
plain (code.Control c) e = absurd (true≢false (sym e))
plain (code.Letter l) e = plain_letter l
plain (code.Unknown b) e = absurd (true≢false (sym e))

pub text_reads_back : (x y : Code) → is_plain x ≡ true → is_plain y ≡ true → TextReadsBack x y
text_reads_back x y px py =
    let one = plain x px in
    let two = plain y py in
    let a = one.byte in
    let b = two.byte in
    let first : stripped (with_parity a) ≡ a = data_kept a ∙ small_stays a one.small in
    let second : stripped (with_parity b) ≡ b = data_kept b ∙ small_stays b two.small in
    let text : is_command (stripped (with_parity a)) ≡ false = ap is_command first ∙ one.no_command in
    record {
      pair = pair (with_parity a) (with_parity b);
      written = ap₂ together one.written two.written;
      odd = rw ((with_parity_lem a).odd, (with_parity_lem b).odd) refl;
      read =
          read_as_text (with_parity a) (with_parity b) (with_parity_lem a).odd (with_parity_lem b).odd text
          ∙ ap₂ {C = Outcome (Code × Code)} (λ (v w : Code). answer (v, w)) (ap single first ∙ one.read) (ap single second ∙ two.read);
      no_command = text;
    }
