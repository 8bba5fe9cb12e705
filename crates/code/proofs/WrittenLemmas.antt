-- What is known of a written pair, and all that the layers above know of one: both bytes have odd parity, the length is
-- the code's, and the first stripped byte decides whether the pair is read as a command or as two single codes.
-- Assumes nothing.
use Rattle.std.specs.Prelude.{Option}
use Rattle.code.specs.declared.channel.Field.{Field}
use mathlib.Core.Bool.{Bool, true, false, cond, ◌&&◌}
use mathlib.Core.Path.{◌≡◌, refl, ap, subst, sym}
use Prim.Native.Nat.{ℕ, ◌+◌, ◌-◌, ◌<◌}
use native.Mathlib.Omega.{arith}
use lib.Count.{ones, ones_in}
use lib.Dec.{eqb, leb, lit<}
use Rattle.code.proofs.Agree.{agree}
use Rattle.code.specs.Code.{byte_len}
use Rattle.code.specs.Outcome.{Outcome, answer, refused}
use Rattle.code.specs.Parity.{is_odd, stripped, with_parity}
use Rattle.code.proofs.OneAnswer.{clash, same}
use Rattle.code.specs.Letter.{letter_at}
use Rattle.code.specs.Pair.{pair}
use Rattle.code.specs.Read.{codes_of_bytes, control_code_of, is_command, is_odd_pair, read_pair, single}
use Rattle.code.specs.Write.{as_command, as_single, control_bytes, control_in_domain, in_domain, is_seven_bits, on_line, preamble_bytes, write_code}
use Rattle.code.specs.declared.channel.Channel.{Channel}
use Rattle.code.specs.declared.code.Code.{Code}
use Rattle.code.specs.declared.code.Code.TheVariants as code
use Rattle.code.specs.declared.control.ControlCode.{ControlCode}
use Rattle.code.specs.declared.control.Control.{Control}
use Rattle.code.specs.declared.control.Control.TheVariants as control
use Rattle.code.specs.declared.pair.Pair.{Pair}

-- a byte that may be sent
pub record SentByte (b : ℕ) : Type 0 where
  pub odd : is_odd b ≡ true
  pub small : b < 256

parity_of_seven : (s : ℕ) → s < 128 → is_odd (cond (is_odd s) s (s + 128)) ≡ true
unfolding ones ones_in
parity_of_seven s less = agree (λ (x : ℕ). is_odd (cond (is_odd x) x (x + 128))) (λ (x : ℕ). true) 128 refl s less

either_small : (t : Bool) (s : ℕ) → s < 128 → cond t s (s + 128) < 256
either_small true s less = omega arith
either_small false s less = omega arith

-- parity added to any byte makes it odd
pub with_parity_lem : (b : ℕ) → SentByte (with_parity b)
with_parity_lem b =
    let less : stripped b < 128 = omega arith in
    record { odd = parity_of_seven (stripped b) less; small = either_small (is_odd (stripped b)) (stripped b) less }

pub nul_sent : SentByte 0x80
unfolding ones ones_in
nul_sent = record { odd = refl; small = lit< tt }

pub record SentPair (p : Pair) : Type 0 where
  pub first : SentByte p.0
  pub second : SentByte p.1

-- of an outcome: if it is an answer, the pair is fit to be sent and the length is n
abbrev pub Good : ℕ → Outcome (Pair × ℕ) → Type 0
Good n (answer x) = SentPair x.0 × (x.1 ≡ n)
Good n (refused k) = Unit

good_command : (f : Option Field) (c : Channel) (o : Outcome Pair) → Good 2 (as_command f c o)
unfolding on_line
good_command f c (answer p) = (record { first = with_parity_lem _; second = with_parity_lem _ }, refl)
good_command f c (refused n) = tt

good_single : (b : ℕ) → Good 1 (as_single b)
good_single b = (record { first = with_parity_lem b; second = nul_sent }, refl)

good_unknown : (t : Bool) (b : ℕ) → Good 1 (cond t (as_single b) (refused 2))
good_unknown true b = good_single b
good_unknown false b = tt

good : (c : Code) → Good (byte_len c) (write_code c)
unfolding write_code
good code.Nul = good_single 0
good (code.Control c) = good_command c.field c.channel (control_bytes c.control)
good (code.Letter l) = good_single _
good (code.Unknown b) = good_unknown (is_seven_bits b) b

-- a written code: odd parity in both bytes, and its own length
pub written_is_sent : (c : Code) (p : Pair) (n : ℕ) → write_code c ≡ answer (p, n) → SentPair p × (n ≡ byte_len c)
written_is_sent c p n e = subst (Good (byte_len c)) e (good c)

-- a pair of odd parity is read as a command exactly where its first stripped byte is 10 to 1F
pub read_as_command : (a b : ℕ) → is_odd a ≡ true → is_odd b ≡ true → is_command (stripped a) ≡ true → read_pair a b ≡ answer (code.Control (control_code_of (stripped a) (stripped b)), code.Nul)
unfolding read_pair
read_as_command a b oa ob e = rw (oa, ob, e)

pub read_as_text : (a b : ℕ) → is_odd a ≡ true → is_odd b ≡ true → is_command (stripped a) ≡ false → read_pair a b ≡ answer (single (stripped a), single (stripped b))
unfolding read_pair
read_as_text a b oa ob e = rw (oa, ob, e)

-- and one with a byte of even parity is refused, 1
pub even_is_refused : (a b : ℕ) → is_odd_pair (pair a b) ≡ false → read_pair a b ≡ refused 1
unfolding read_pair
even_is_refused a b e = rw e

pub odd_is_read : (a b : ℕ) → is_odd_pair (pair a b) ≡ true → read_pair a b ≡ answer (codes_of_bytes (stripped a) (stripped b))
unfolding read_pair
odd_is_read a b e = rw e

-- a code is in the domain exactly where it can be written, and the refusals are the same
abbrev pub settled : Outcome (Pair × ℕ) → Outcome Unit
settled (answer x) = answer tt
settled (refused n) = refused n

tested : (t : Bool) (x : Outcome (Pair × ℕ)) (n : ℕ) → settled x ≡ answer tt → cond t (answer tt) (refused n) ≡ settled (cond t x (refused n))
tested true x n e = sym e
tested false x n e = refl

bytes_settled : (f : Option Field) (c : Channel) (t : Bool) (p : Pair) (n : ℕ) → cond t (answer tt) (refused n) ≡ settled (as_command f c (cond t (answer p) (refused n)))
bytes_settled f c true p n = refl
bytes_settled f c false p n = refl

control_settled : (f : Option Field) (ch : Channel) (c : Control) → control_in_domain c ≡ settled (as_command f ch (control_bytes c))
unfolding control_bytes
control_settled f ch (control.MidRow m) = refl
control_settled f ch (control.Symbol s) = refl
control_settled f ch (control.Command c) = refl
control_settled f ch (control.Tab t) = refl
control_settled f ch (control.Preamble p) = bytes_settled f ch (leb p.row 14) (preamble_bytes p) 3
control_settled f ch (control.Unknown a b) = bytes_settled f ch (is_seven_bits a && is_seven_bits b) (pair a b) 2

pub domain_is_written : (c : Code) → in_domain c ≡ settled (write_code c)
unfolding in_domain write_code
domain_is_written code.Nul = refl
domain_is_written (code.Control c) = control_settled c.field c.channel c.control
domain_is_written (code.Letter l) = refl
domain_is_written (code.Unknown b) = tested (is_seven_bits b) (as_single b) 2 refl

-- the data of a sent byte is the data that was written
pub data_kept : (b : ℕ) → stripped (with_parity b) ≡ stripped b
data_kept b = kept (is_odd (stripped b)) (stripped b) (omega arith)
  where
    kept : (t : Bool) (s : ℕ) → s < 128 → stripped (cond t s (s + 128)) ≡ s
    kept true s less = omega arith
    kept false s less = omega arith

-- padding is read as two NULs
pub padding_read : read_pair 0x80 0x80 ≡ answer (code.Nul, code.Nul)
unfolding read_pair ones ones_in
padding_read = refl

-- a single byte is never read as a command
plain : (t u : Bool) (b : ℕ) (c : ControlCode) → cond t code.Nul (cond u (code.Letter (letter_at (b - 0x20))) (code.Unknown b)) ≡ code.Control c → ⊥
plain true u b c e = let z : ◌≡◌ {A = ℕ} 0 1 = cc in omega arith
plain false true b c e = let z : ◌≡◌ {A = ℕ} 0 1 = cc in omega arith
plain false false b c e = let z : ◌≡◌ {A = ℕ} 0 1 = cc in omega arith

pub single_is_no_command : (b : ℕ) (c : ControlCode) → single b ≡ code.Control c → ⊥
single_is_no_command b c e = plain (eqb b 0) (leb 0x20 b) b c e

-- so what is read as a command has a first byte of 10 to 1F, and is the control code of its two bytes
first_of : (t : Bool) (a b : ℕ) → Code × Code
first_of t a b = cond t (code.Control (control_code_of a b), code.Nul) (single a, single b)

command_first : (t : Bool) (a b : ℕ) (c : ControlCode) → (first_of t a b).0 ≡ code.Control c → (t ≡ true) × (control_code_of a b ≡ c)
unfolding first_of
command_first true a b c e = (refl, cc)
command_first false a b c e = absurd (single_is_no_command a c e)

read_passed : (t : Bool) (a b : ℕ) (c : ControlCode) (y : Code) → cond t (answer (codes_of_bytes a b)) (refused 1) ≡ answer (code.Control c, y) → (is_command a ≡ true) × (control_code_of a b ≡ c)
unfolding first_of
read_passed true a b c y e = command_first (is_command a) a b c (ap (λ (w : Code × Code). w.0) (same e))
read_passed false a b c y e = absurd (clash (sym e))

pub command_by_first_byte : (a b : ℕ) (c : ControlCode) (y : Code) → read_pair a b ≡ answer (code.Control c, y) → is_command (stripped a) ≡ true
unfolding read_pair
command_by_first_byte a b c y e = (read_passed (is_odd_pair (pair a b)) (stripped a) (stripped b) c y e).0

pub command_of_its_bytes : (a b : ℕ) (c : ControlCode) (y : Code) → read_pair a b ≡ answer (code.Control c, y) → control_code_of (stripped a) (stripped b) ≡ c
unfolding read_pair
command_of_its_bytes a b c y e = (read_passed (is_odd_pair (pair a b)) (stripped a) (stripped b) c y e).1
