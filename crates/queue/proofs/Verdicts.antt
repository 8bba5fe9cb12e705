-- What may be queued with its number, kind by kind, as the code tests it.
-- Assumes nothing.
use Rattle.code.specs.declared.channel.Field.{Field}
use mathlib.Core.Bool.{Bool, true, false, cond}
use Rattle.std.specs.Prelude.{Option, None, Some, Result, Ok, Err, MatchResult, IsOkAnd}
use mathlib.Core.Path.{◌≡◌, refl, ap, sym, ◌∙◌}
use Prim.Native.Nat.{ℕ, ◌+◌, ◌/◌, ◌≤◌, ◌<◌}
use native.Mathlib.Omega.{arith}
use borrow.Author.Tests.{eq-eqb, le-ltb, lt-ltb, ne_eqb}
use lib.Dec.{leb, ltb}
use Rattle.code.proofs.Meaning.{in_row_one}
use Rattle.code.proofs.OneAnswer.{clash, same}
use Rattle.code.specs.Letter.{letter_place}
use Rattle.code.specs.Outcome.{Outcome, answer, refused}
use Rattle.code.specs.Read.{is_command}
use Rattle.code.specs.Pair.{pair}
use Rattle.code.specs.Write.{control_bytes, of_seven_bits, preamble_bytes, row_bytes}
use Rattle.code.specs.declared.code.Code.{Code}
use Rattle.code.specs.declared.code.Code.TheVariants as code
use Rattle.code.specs.declared.control.Control.{Control}
use Rattle.code.specs.declared.control.Control.TheVariants as control
use Rattle.code.specs.declared.control.ControlCode.{ControlCode}
use Rattle.code.specs.declared.letter.Letter.{Letter}
use Rattle.code.specs.declared.pair.Pair.{Pair}
use Rattle.code.specs.declared.preamble.PreambleAddressCode.{PreambleAddressCode}
use Rattle.queue.proofs.Numbered.{control_may, control_tested, letter_may, nul_may, unknown_may}
use Rattle.queue.specs.Entry.{number_outcome, verdict_outcome}
use Rattle.queue.specs.declared.queueable.QueueableError.{QueueableError}
use Rattle.queue.specs.Number.{bytes_number, channel_number, control_number, field_number, number_in, number_of, numbered, numbered_control, numbered_unknown, plain, whose_number, with_number}
use Rattle.queue.specs.Queueable.{unless_dressed}

-- a control, by the tests of its kind
pub as_tested : (whose : ℕ) (c : Control) (o : Outcome (Option ℕ)) → o ≡ with_number (Some (whose + control_number c)) (control_tested c) → o ≡ numbered_control whose c
as_tested whose c o e = e ∙ ap (with_number (Some (whose + control_number c))) (sym (control_may (plain c)))

-- a preamble
row_by : (whose n : ℕ) (t : Bool) (b p : Pair) → answer b ≡ cond t (answer p) (refused 3) → n ≡ bytes_number b → answer (Some (whose + n)) ≡ with_number (Some (whose + number_in (cond t (answer p) (refused 3)))) (unless_dressed false (cond t (answer tt) (refused 3)))
row_by whose n true b p e number = ap (λ (k : ℕ). answer (Some (whose + k))) (number ∙ ap bytes_number (same e))
row_by whose n false b p e number = absurd (clash e)

-- in a row of 0 to 14 it is written
pub row_inside : (whose n : ℕ) (p : PreambleAddressCode) (b : Pair) → answer b ≡ row_bytes p → n ≡ bytes_number b → answer (Some (whose + n)) ≡ numbered_control whose (control.Preamble p)
unfolding control_bytes
row_inside whose n p b e number =
    as_tested whose (control.Preamble p) _ (row_by whose n (leb p.row 14) b (preamble_bytes p) e number)

refused_by_lem : (n : Option ℕ) (t : Bool) (p : Pair) → refused 3 ≡ cond t (answer p) (refused 3) → refused 3 ≡ with_number n (unless_dressed false (cond t (answer tt) (refused 3)))
refused_by_lem n true p e = absurd (clash (sym e))
refused_by_lem n false p e = refl

-- in any other it is refused by 3
pub row_outside : (whose : ℕ) (p : PreambleAddressCode) → refused 3 ≡ row_bytes p → refused 3 ≡ numbered_control whose (control.Preamble p)
row_outside whose p e =
    as_tested whose (control.Preamble p) _
    (refused_by_lem (Some (whose + control_number (control.Preamble p))) (leb p.row 14) (preamble_bytes p) e)

-- an `Unknown` of two bytes
pub dressed : (whose a b : ℕ) → a < 128 → b < 128 → (a / 16 ≡ 1 → ⊥) → refused 18 ≡ numbered_unknown whose a b
dressed whose a b la lb other =
    let no : is_command a ≡ false = sym (in_row_one a la) ∙ ne_eqb (a / 16) 1 other in
    as_tested whose (control.Unknown a b) _ (rw (lt-ltb a 0x80 la, lt-ltb b 0x80 lb, no) refl)

pub passes : (whose a b n : ℕ) → a < 128 → b < 128 → a / 16 ≡ 1 → n ≡ bytes_number (pair a b) → answer (Some (whose + 0x800 + n)) ≡ numbered_unknown whose a b
unfolding control_bytes
passes whose a b n la lb first e =
    let yes : is_command a ≡ true = sym (in_row_one a la) ∙ eq-eqb (a / 16) 1 first in
    let sum : whose + 0x800 + n ≡ whose + (0x800 + bytes_number (pair a b)) = omega (arith, e) in
    as_tested whose (control.Unknown a b) _ (rw (lt-ltb a 0x80 la, lt-ltb b 0x80 lb, yes) (ap (λ (k : ℕ). answer (Some k)) sum))

-- its field and channel
field_at_most : (f : Option Field) → field_number f ≤ 0x4000
field_at_most None = omega arith
field_at_most (Some f) = either f.0
  where
    either : (t : Bool) → field_number (Some (record { 0 = t })) ≤ 0x4000
    either true = omega arith
    either false = omega arith

-- channel one adds nothing
pub no_channel : (n : ℕ) → n ≡ n + 0
no_channel n = omega arith

-- field and channel are at most 5000 together
pub whose_at_most : (c : ControlCode) → whose_number c ≤ 0x5000
whose_at_most c = omega (arith, field_at_most c.field, channel_at_most c.channel.0)
  where
    channel_at_most : (t : Bool) → channel_number (record { 0 = t }) ≤ 0x1000
    channel_at_most true = omega arith
    channel_at_most false = omega arith

-- a command, by its control, whose number is its own
as_numbered : (r : Result ℕ QueueableError) (m : Result (Option ℕ) QueueableError) → MatchResult r (λ x. IsOkAnd m (λ y. y ≡ Some x)) (λ e. m ≡ Err e) → verdict_outcome m ≡ number_outcome r
as_numbered (Ok n) (Ok m) e = ap answer e
as_numbered (Ok n) (Err f) e = absurd e
as_numbered (Err f) m e = ap verdict_outcome e

pub command_numbered : (x : Code) (c : ControlCode) (w : ℕ) (r : Result ℕ QueueableError) (m : Result (Option ℕ) QueueableError) → x ≡ code.Control c → w ≡ whose_number c → number_outcome r ≡ numbered_control w c.control → MatchResult r (λ n. IsOkAnd m (λ y. y ≡ Some n)) (λ e. m ≡ Err e) → verdict_outcome m ≡ numbered x
command_numbered x c w r m is whose e mapped =
    as_numbered r m mapped
    ∙ e
    ∙ ap (λ (n : ℕ). numbered_control n c.control) whose
    ∙ ap (with_number (number_of (code.Control c))) (control_may (plain c.control) ∙ sym (control_may c))
    ∙ ap numbered (sym is)

-- and a single code
pub nul_passes : answer None ≡ numbered code.Nul
nul_passes = sym (ap (with_number None) nul_may)

pub letter_passes : (x : Code) (l : Letter) (n : ℕ) → x ≡ code.Letter l → n ≡ letter_place l → answer (Some (0x8020 + n)) ≡ numbered x
letter_passes x l n is e =
    ap (λ (k : ℕ). answer (Some (0x8020 + k))) e
    ∙ sym (ap (with_number (number_of (code.Letter l))) (letter_may l))
    ∙ ap numbered (sym is)

byte_by : (b : ℕ) (t : Bool) → ltb b 0x80 ≡ t → cond t (answer (Some (0x8080 + b))) (refused 2) ≡ numbered (code.Unknown b)
byte_by b true e =
    sym (ap (λ (t : Bool). with_number (Some (0x8080 + b)) (unless_dressed false (of_seven_bits t tt))) e)
    ∙ sym (ap (with_number (Some (0x8080 + b))) (unknown_may b))
byte_by b false e =
    sym (ap (λ (t : Bool). with_number (Some (0x8080 + b)) (unless_dressed false (of_seven_bits t tt))) e)
    ∙ sym (ap (with_number (Some (0x8080 + b))) (unknown_may b))

pub byte_passes : (x : Code) (b : ℕ) → x ≡ code.Unknown b → b < 128 → answer (Some (0x8080 + b)) ≡ numbered x
byte_passes x b is less = byte_by b true (lt-ltb b 0x80 less) ∙ ap numbered (sym is)

pub byte_refused : (x : Code) (b : ℕ) → x ≡ code.Unknown b → 128 ≤ b → refused 2 ≡ numbered x
byte_refused x b is more = byte_by b false (le-ltb b 0x80 more) ∙ ap numbered (sym is)
