-- The numbers of the ring: every number stands for a code that may wait, the number of such a code gives that code back, and
-- a code's length, its bytes and whether it needs a backspace are told by its number alone.
-- Assumes nothing.
use Rattle.std.specs.Prelude.{None, Option, option_map, Some}
use Rattle.code.specs.declared.channel.Field.{Field}
use mathlib.Core.Bool.{Bool, true, false, cond, ◌&&◌, ◌||◌, not, true≢false}
use mathlib.Core.Path.{◌≡◌, refl, ap, ap₂, sym, ◌∙◌}
use Prim.Native.Nat.{ℕ, ◌+◌, ◌*◌, ◌-◌, ◌/◌, ◌%◌, ◌≤◌, ◌<◌}
use native.Mathlib.Omega.{arith}
use borrow.Author.Tests.{le-leb, leb-false, leb-true, lt-leb, lt-ltb, ltb-true}
use lib.Dec.{eqb, leb, ltb}
use Rattle.code.proofs.Agree.{agree, agree_from, agree_grid}
use Rattle.code.proofs.Both.{both_left, both_right}
use Rattle.code.proofs.Ranges.{command_range}
use Rattle.code.proofs.KindByKind.{control_domain, bytes_written, letter_domain, letter_written, nul_domain, unknown_domain, unknown_written}
use Rattle.code.proofs.MeantBack.{command_meant, command_pair, is_pair_of_control, mid_row_meant, mid_row_pair, preamble_meant, preamble_pair, symbol_meant, symbol_pair, tab_meant, tab_pair}
use Rattle.code.proofs.Numbers.{letter_again, letter_small}
use Rattle.code.specs.Channel.{channel_one, channel_two, field_one, field_two}
use Rattle.code.specs.Code.{control_needs_backspace, needs_backspace}
use Rattle.code.specs.Letter.{letter_at, letter_place}
use Rattle.code.specs.Outcome.{Outcome, answer, is_answer, refused}
use Rattle.code.specs.Parity.{with_parity}
use Rattle.code.specs.Read.{is_command, meaning, or_unknown}
use Rattle.code.specs.Pair.{pair}
use Rattle.code.specs.Write.{as_single, command_bytes, control_bytes, control_in_domain, mid_row_bytes, of_seven_bits, on_line, preamble_bytes, symbol_bytes, tab_bytes, write_code}
use Rattle.code.specs.declared.channel.Channel.{Channel}
use Rattle.code.specs.declared.code.Code.{Code}
use Rattle.code.specs.declared.code.Code.TheVariants as code
use Rattle.code.specs.declared.control.Control.{Control}
use Rattle.code.specs.declared.control.Control.TheVariants as control
use Rattle.code.specs.declared.control.ControlCode.{ControlCode}
use Rattle.code.specs.declared.letter.Letter.{Letter}
use Rattle.code.specs.declared.pair.Pair.{Pair}
use Rattle.code.specs.declared.preamble.PreambleAddressCode.{PreambleAddressCode}
use Rattle.queue.specs.Number.{bytes_number, channel_of_number, channel_number, code_of, control_number, control_of, field_of_number, field_number, first_in, number_in, number_of, second_in, single_of}
use Rattle.queue.specs.Queue.{is_single, may_wait, pair_of, pair_written}
use Rattle.queue.specs.Queueable.{is_dressed_control, queueable, unless_dressed}

-- a number of a single code, and of a command
as_single_lem : (n : ℕ) → 0x8000 ≤ n → code_of n ≡ single_of (n / 128 % 2) (second_in n)
unfolding code_of
as_single_lem n from = rw (le-leb 0x8000 n from) refl

abbrev pub command_of_number : ℕ → ControlCode
command_of_number n = record {
  field = field_of_number n;
  channel = channel_of_number n;
  control = control_of (n / 0x800 % 2) (first_in n) (second_in n);
}

as_command_lem : (n : ℕ) → n < 0x8000 → code_of n ≡ code.Control (command_of_number n)
unfolding code_of
as_command_lem n below = rw (lt-leb 0x8000 n below) refl

-- its length
single_has_one : (t : Bool) (l : Letter) (b : ℕ) → is_single (cond t (code.Letter l) (code.Unknown b)) ≡ true
single_has_one true l b = refl
single_has_one false l b = refl

length_by : (t : Bool) (c : ControlCode) (s : Code) → is_single s ≡ true → is_single (cond t s (code.Control c)) ≡ t
length_by true c s e = e
length_by false c s e = refl

pub length_told : (n : ℕ) → is_single (code_of n) ≡ leb 0x8000 n
unfolding code_of
length_told n =
    length_by (leb 0x8000 n) (command_of_number n) (single_of (n / 128 % 2) (second_in n))
    (single_has_one (eqb (n / 128 % 2) 0 && leb 0x20 (second_in n)) (letter_at (second_in n - 0x20)) (second_in n))

pub single_from : (n : ℕ) → is_single (code_of n) ≡ true → 0x8000 ≤ n
single_from n e = leb-true 0x8000 n (sym (length_told n) ∙ e)

pub command_below : (n : ℕ) → is_single (code_of n) ≡ false → n < 0x8000
command_below n e = leb-false 0x8000 n (sym (length_told n) ∙ e)

-- over all two bytes: what has a meaning, and so each control of a number, is written as its bytes
abbrev meant_by : ℕ → ℕ → Control
meant_by a b = or_unknown a b (meaning a b)

first_from : (n : ℕ) → 16 ≤ first_in n
first_from n = omega arith

first_below : (n : ℕ) → first_in n < 32
first_below n = omega arith

second_below : (n : ℕ) → second_in n < 128
second_below n = omega arith

bytes_by : (t : Bool) (a b : ℕ) → 16 ≤ a → a < 32 → b < 128 → control_bytes (cond t (meant_by a b) (control.Unknown a b)) ≡ answer (pair a b)
unfolding control_bytes meaning
bytes_by true a b from below less =
    agree_grid (λ (x y : ℕ). control_bytes (meant_by x y)) (λ (x y : ℕ). answer (pair x y)) 16 16 128 refl a b from below less
bytes_by false a b from below less = rw (lt-ltb a 0x80 (omega arith), lt-ltb b 0x80 less) refl

bytes_told : (n : ℕ) → control_bytes (command_of_number n).control ≡ answer (pair (first_in n) (second_in n))
bytes_told n = bytes_by (eqb (n / 0x800 % 2) 0) (first_in n) (second_in n) (first_from n) (first_below n) (second_below n)

-- and may be queued
abbrev pub control_tested : Control → Outcome Unit
control_tested c = unless_dressed (is_dressed_control c) (control_in_domain c)

control_by : (t : Bool) (a b : ℕ) → 16 ≤ a → a < 32 → b < 128 → control_tested (cond t (meant_by a b) (control.Unknown a b)) ≡ answer tt
unfolding meaning
control_by true a b from below less =
    agree_grid (λ (x y : ℕ). control_tested (meant_by x y)) (λ (x y : ℕ). answer tt) 16 16 128 refl a b from below less
control_by false a b from below less =
    agree_grid (λ (x y : ℕ). control_tested (control.Unknown x y)) (λ (x y : ℕ). answer tt) 16 16 128 refl a b from below less

-- what may be queued, kind by kind
pub nul_may : queueable code.Nul ≡ answer tt
unfolding queueable
nul_may = ap (unless_dressed false) nul_domain

pub letter_may : (l : Letter) → queueable (code.Letter l) ≡ answer tt
unfolding queueable
letter_may l = ap (unless_dressed false) (letter_domain l)

pub unknown_may : (b : ℕ) → queueable (code.Unknown b) ≡ unless_dressed false (of_seven_bits (ltb b 0x80) tt)
unfolding queueable
unknown_may b = ap (unless_dressed false) (unknown_domain b)

pub control_may : (c : ControlCode) → queueable (code.Control c) ≡ control_tested c.control
unfolding queueable
control_may c = ap (unless_dressed (is_dressed_control c.control)) (control_domain c)

single_may : (t : Bool) (l : Letter) (b : ℕ) → b < 128 → may_wait (cond t (code.Letter l) (code.Unknown b)) ≡ true
single_may true l b less = ap is_answer (letter_may l)
single_may false l b less =
    ap is_answer (unknown_may b) ∙ ap (λ (t : Bool). is_answer (unless_dressed false (of_seven_bits t tt))) (lt-ltb b 0x80 less)

may_by : (t : Bool) (c : ControlCode) (s : Code) → may_wait s ≡ true → control_tested c.control ≡ answer tt → may_wait (cond t s (code.Control c)) ≡ true
may_by true c s single command = single
may_by false c s single command = ap is_answer (control_may c ∙ command)

pub every_number_may_wait : (n : ℕ) → may_wait (code_of n) ≡ true
unfolding code_of
every_number_may_wait n =
    may_by (leb 0x8000 n) (command_of_number n) (single_of (n / 128 % 2) (second_in n))
    (single_may (eqb (n / 128 % 2) 0 && leb 0x20 (second_in n)) (letter_at (second_in n - 0x20)) (second_in n) (second_below n))
    (control_by (eqb (n / 0x800 % 2) 0) (first_in n) (second_in n) (first_from n) (first_below n) (second_below n))

-- the pair that it is sent as
pub command_of_number_lem : (n : ℕ) → n < 0x8000 → pair_of (code_of n) ≡ on_line (field_of_number n) (channel_of_number n) (pair (first_in n) (second_in n))
unfolding pair_of
command_of_number_lem n below =
    ap (λ (c : Code). pair_written (write_code c)) (as_command_lem n below)
    ∙ ap pair_written (bytes_written (command_of_number n) (pair (first_in n) (second_in n)) (bytes_told n))

letter_byte : (b : ℕ) → 32 ≤ b → b < 128 → 0x20 + letter_place (letter_at (b - 0x20)) ≡ b
letter_byte b from below = agree_from (λ (x : ℕ). 0x20 + letter_place (letter_at (x - 0x20))) (λ (x : ℕ). x) 32 96 refl b from below

single_by : (t u : Bool) (b : ℕ) → leb 0x20 b ≡ u → b < 128 → write_code (cond (t && u) (code.Letter (letter_at (b - 0x20))) (code.Unknown b)) ≡ as_single b
single_by true true b e less = letter_written (letter_at (b - 0x20)) ∙ ap as_single (letter_byte b (leb-true 0x20 b e) less)
single_by true false b e less = unknown_written b less
single_by false u b e less = unknown_written b less

pub single_of_number : (n : ℕ) → 0x8000 ≤ n → pair_of (code_of n) ≡ pair (with_parity (second_in n)) 0x80
unfolding pair_of
single_of_number n from =
    ap (λ (c : Code). pair_written (write_code c)) (as_single_lem n from)
    ∙ ap pair_written (single_by (eqb (n / 128 % 2) 0) (leb 0x20 (second_in n)) (second_in n) refl (second_below n))

-- whether it needs a backspace, by bits 11 to 4
abbrev pub wants_space : ℕ → Bool
wants_space d = eqb d 0x0A || eqb d 0x12 || eqb d 0x13 || eqb d 0x1A || eqb d 0x1B

space_told : (m : ℕ) → m < 0x1000 → control_needs_backspace (control_of (m / 0x800) (16 + m / 128 % 16) (m % 128)) ≡ wants_space (m / 16)
unfolding meaning
space_told m less =
    agree (λ (x : ℕ). control_needs_backspace (control_of (x / 0x800) (16 + x / 128 % 16) (x % 128))) (λ (x : ℕ). wants_space (x / 16)) 0x1000 refl m less

pub backspace_told : (n : ℕ) → n < 0x8000 → needs_backspace (code_of n) ≡ wants_space (n % 0x1000 / 16)
backspace_told n below =
    let unknown : n / 0x800 % 2 ≡ n % 0x1000 / 0x800 = omega arith in
    let first : n / 128 % 16 ≡ n % 0x1000 / 128 % 16 = omega arith in
    let second : n % 128 ≡ n % 0x1000 % 128 = omega arith in
    ap needs_backspace (as_command_lem n below)
    ∙ ap (λ (u : ℕ). control_needs_backspace (control_of u (first_in n) (second_in n))) unknown
    ∙ ap₂ (λ (a b : ℕ). control_needs_backspace (control_of (n % 0x1000 / 0x800) (16 + a) b)) first second
    ∙ space_told (n % 0x1000) (omega arith)

-- the digits of a command's number
abbrev digit : Option Field → ℕ
digit None = 0
digit (Some f) = cond f.0 1 2

abbrev field_at : ℕ → Option Field
field_at d = cond (eqb d 1) (Some field_one) (cond (eqb d 2) (Some field_two) None)

named_field : (t : Bool) → (field_at (cond t 1 2) ≡ Some (record { 0 = t })) × (cond t 0x2000 0x4000 ≡ 0x2000 * cond t 1 2) × (cond t 1 2 < 3)
named_field true = (refl, refl, omega arith)
named_field false = (refl, refl, omega arith)

field_digit : (f : Option Field) → (field_at (digit f) ≡ f) × (field_number f ≡ 0x2000 * digit f) × (digit f < 3)
field_digit None = (refl, refl, omega arith)
field_digit (Some f) = named_field f.0

abbrev channel_at : ℕ → Channel
channel_at d = cond (eqb d 0) channel_one channel_two

named_channel : (t : Bool) → (channel_at (cond t 0 1) ≡ record { 0 = t }) × (cond t 0 0x1000 ≡ 0x1000 * cond t 0 1) × (cond t 0 1 < 2)
named_channel true = (refl, refl, omega arith)
named_channel false = (refl, refl, omega arith)

field_part : (d k n : ℕ) → n ≡ 0x2000 * d + k → k < 0x2000 → n / 0x2000 ≡ d
field_part d k n e less = omega arith

channel_part : (d c k n : ℕ) → n ≡ 0x2000 * d + 0x1000 * c + k → c < 2 → k < 0x1000 → n / 0x1000 % 2 ≡ c
channel_part d c k n e small less = omega arith

unknown_part : (d u k n : ℕ) → n ≡ 0x1000 * d + 0x800 * u + k → u < 2 → k < 0x800 → n / 0x800 % 2 ≡ u
unknown_part d u k n e small less = omega arith

first_part : (d x y n : ℕ) → n ≡ 0x800 * d + (x * 128 + y) → x < 16 → y < 128 → n / 128 % 16 ≡ x
first_part d x y n e small less = omega arith

second_part : (d y n : ℕ) → n ≡ 128 * d + y → y < 128 → n % 128 ≡ y
second_part d y n e less = omega arith

below_half : (f c u k n : ℕ) → n ≡ 0x2000 * f + 0x1000 * c + (0x800 * u + k) → f < 3 → c < 2 → u < 2 → k < 0x800 → n < 0x8000
below_half f c u k n e fs cs us ks = omega arith

byte_first : (a : ℕ) → 16 ≤ a → a < 32 → 0x10 + a % 16 ≡ a
byte_first a from below = omega arith

byte_second : (b : ℕ) → b < 128 → b % 128 ≡ b
byte_second b less = omega arith

in_bytes : (a b : ℕ) → a % 16 * 128 + b % 128 < 0x800
in_bytes a b = omega arith

-- a command from its digits, and whether it is an `Unknown` and its two bytes, those of a control code
module _ (f : Option Field) (ch : Channel) (u a b n : ℕ) (small : u < 2) (from : 16 ≤ a) (below : a < 32) (less : b < 128) (e : n ≡ field_number f + channel_number ch + (0x800 * u + (a % 16 * 128 + b % 128))) where
  abbrev fd : ℕ
  fd = digit f

  abbrev cd : ℕ
  cd = cond ch.0 0 1

  abbrev k : ℕ
  k = a % 16 * 128 + b % 128

  whole : n ≡ 0x2000 * fd + 0x1000 * cd + (0x800 * u + k)
  whole = e ∙ ap₂ (λ (x y : ℕ). x + y + (0x800 * u + k)) (field_digit f).1 (named_channel ch.0).1

  on : (x y z w : ℕ) → x ≡ 0x2000 * y + 0x1000 * z + w → w < 0x1000 → x ≡ 0x2000 * y + (0x1000 * z + w)
  on x y z w sum less = omega (arith, sum)

  under_half : n < 0x8000
  under_half = below_half fd cd u k n whole (field_digit f).2 (named_channel ch.0).2 small (in_bytes a b)

  lower : 0x800 * u + k < 0x1000
  lower = omega (arith, small, in_bytes a b)

  of_field : n / 0x2000 ≡ fd
  of_field = field_part fd (0x1000 * cd + (0x800 * u + k)) n (on n fd cd (0x800 * u + k) whole lower) (omega (arith, lower, (named_channel ch.0).2))

  of_channel : n / 0x1000 % 2 ≡ cd
  of_channel = channel_part fd cd (0x800 * u + k) n whole (named_channel ch.0).2 lower

  of_kind : n / 0x800 % 2 ≡ u
  of_kind = unknown_part (2 * fd + cd) u k n (omega (arith, whole)) small (in_bytes a b)

  of_first : first_in n ≡ a
  of_first =
      ap (λ (x : ℕ). 0x10 + x) (first_part (4 * fd + 2 * cd + u) (a % 16) (b % 128) n (omega (arith, whole)) (omega arith) (omega arith))
      ∙ byte_first a from below

  of_second : second_in n ≡ b
  of_second = second_part (64 * fd + 32 * cd + 16 * u + a % 16) (b % 128) n (omega (arith, whole)) (omega arith) ∙ byte_second b less

  by_digits : code_of n ≡ code.Control (record { field = f; channel = ch; control = control_of u a b })
  by_digits =
      as_command_lem n under_half
      ∙ ap₂ {C = Code} (λ (x : Option Field) (y : Channel). code.Control (record { field = x; channel = y; control = control_of (n / 0x800 % 2) (first_in n) (second_in n) })) (ap field_at of_field ∙ (field_digit f).0) (ap channel_at of_channel ∙ (named_channel ch.0).0)
      ∙ ap {B = Code} (λ (x : ℕ). code.Control (record { field = f; channel = ch; control = control_of x (first_in n) (second_in n) })) of_kind
      ∙ ap₂ {C = Code} (λ (x y : ℕ). code.Control (record { field = f; channel = ch; control = control_of u x y })) of_first of_second

-- a control that is what its bytes mean
meant_back : (f : Option Field) (ch : Channel) (c : Control) (p : Pair) → is_pair_of_control p ≡ true → meaning p.0 p.1 ≡ Some c → code_of (field_number f + channel_number ch + bytes_number p) ≡ code.Control (record { field = f; channel = ch; control = c })
meant_back f ch c p fits means =
    let first = both_left (is_command p.0) (ltb p.1 0x80) fits in
    let second = ltb-true p.1 0x80 (both_right (is_command p.0) (ltb p.1 0x80) fits) in
    let range = command_range p.0 first in
    by_digits f ch 0 p.0 p.1 (field_number f + channel_number ch + bytes_number p) (omega arith) range.0 range.1 second (omega arith)
    ∙ ap {B = Code} (λ (o : Option Control). code.Control (record { field = f; channel = ch; control = or_unknown p.0 p.1 o })) means

preamble_back : (f : Option Field) (ch : Channel) (p : PreambleAddressCode) (t : Bool) → leb p.row 14 ≡ t → is_answer (unless_dressed false (cond t (answer tt) (refused 3))) ≡ true → code_of (field_number f + channel_number ch + number_in (cond t (answer (preamble_bytes p)) (refused 3))) ≡ code.Control (record { field = f; channel = ch; control = control.Preamble p })
preamble_back f ch p true e may =
    let inside : p.row < 15 = omega (arith, leb-true p.row 14 e) in
    meant_back f ch (control.Preamble p) (preamble_bytes p) (preamble_pair p inside) (preamble_meant p inside)
preamble_back f ch p false e may = absurd (true≢false (sym may))

unknown_back : (f : Option Field) (ch : Channel) (a b : ℕ) (t u : Bool) → (ltb a 0x80 && ltb b 0x80) ≡ t → is_command a ≡ u → is_answer (unless_dressed (not u) (of_seven_bits t tt)) ≡ true → code_of (field_number f + channel_number ch + (0x800 + number_in (cond t (answer (pair a b)) (refused 2)))) ≡ code.Control (record { field = f; channel = ch; control = control.Unknown a b })
unknown_back f ch a b true true e first may =
    let range = command_range a first in
    let less = ltb-true b 0x80 (both_right (ltb a 0x80) (ltb b 0x80) e) in
    by_digits f ch 1 a b (field_number f + channel_number ch + (0x800 + bytes_number (pair a b))) (omega arith) range.0 range.1 less (omega arith)
unknown_back f ch a b true false e first may = absurd (true≢false (sym may))
unknown_back f ch a b false u e first may = absurd (true≢false (sym may))

control_back : (f : Option Field) (ch : Channel) (c : Control) → is_answer (control_tested c) ≡ true → code_of (field_number f + channel_number ch + control_number c) ≡ code.Control (record { field = f; channel = ch; control = c })
unfolding control_bytes
control_back f ch (control.MidRow m) may = meant_back f ch (control.MidRow m) (mid_row_bytes m) (mid_row_pair m) (mid_row_meant m)
control_back f ch (control.Symbol s) may = meant_back f ch (control.Symbol s) (symbol_bytes s) (symbol_pair s) (symbol_meant s)
control_back f ch (control.Command c) may = meant_back f ch (control.Command c) (command_bytes c) (command_pair c) (command_meant c)
control_back f ch (control.Tab t) may = meant_back f ch (control.Tab t) (tab_bytes t) (tab_pair t) (tab_meant t)
control_back f ch (control.Preamble p) may = preamble_back f ch p (leb p.row 14) refl may
control_back f ch (control.Unknown a b) may = unknown_back f ch a b (ltb a 0x80 && ltb b 0x80) (is_command a) refl refl may

-- single codes
letter_back : (l : Letter) → code_of (0x8020 + letter_place l) ≡ code.Letter l
letter_back l =
    let n = 0x8020 + letter_place l in
    let small = letter_small l in
    let known : n / 128 % 2 ≡ 0 = omega (arith, small) in
    let second : second_in n ≡ 0x20 + letter_place l = omega (arith, small) in
    as_single_lem n (omega arith)
    ∙ ap₂ single_of known second
    ∙ ap (λ (t : Bool). cond t (code.Letter (letter_at (0x20 + letter_place l - 0x20))) (code.Unknown (0x20 + letter_place l))) (le-leb 0x20 (0x20 + letter_place l) (omega arith))
    ∙ ap (λ (k : ℕ). code.Letter (letter_at k)) (same_place (letter_place l))
    ∙ ap code.Letter (letter_again l)
  where
    same_place : (k : ℕ) → 0x20 + k - 0x20 ≡ k
    same_place k = omega arith

byte_back : (b : ℕ) → b < 128 → code_of (0x8080 + b) ≡ code.Unknown b
byte_back b less =
    let n = 0x8080 + b in
    let known : n / 128 % 2 ≡ 1 = omega arith in
    let second : second_in n ≡ b = omega arith in
    as_single_lem n (omega arith) ∙ ap₂ single_of known second

byte_by : (b : ℕ) (t : Bool) → ltb b 0x80 ≡ t → is_answer (unless_dressed false (of_seven_bits t tt)) ≡ true → code_of (0x8080 + b) ≡ code.Unknown b
byte_by b true e may = byte_back b (ltb-true b 0x80 e)
byte_by b false e may = absurd (true≢false (sym may))

-- a code that may wait has a number, which gives that code back
pub gives_the_code_back : (c : Code) → may_wait c ≡ true → option_map code_of (number_of c) ≡ Some c
gives_the_code_back code.Nul may = absurd (true≢false (sym may))
gives_the_code_back (code.Control c) may =
    ap Some (control_back c.field c.channel c.control (sym (ap is_answer (control_may c)) ∙ may))
gives_the_code_back (code.Letter l) may = ap Some (letter_back l)
gives_the_code_back (code.Unknown b) may = ap Some (byte_by b (ltb b 0x80) refl (sym (ap is_answer (unknown_may b)) ∙ may))
