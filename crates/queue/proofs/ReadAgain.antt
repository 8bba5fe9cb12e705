-- What was read may be queued: a code of a received pair is never refused 2, 3 or 18.
-- Assumes nothing.
use mathlib.Core.Bool.{Bool, true, false, ◌&&◌, not}
use mathlib.Core.Path.{◌≡◌, refl, ap, sym, subst, ◌∙◌}
use Prim.Native.Nat.{ℕ, ◌<◌}
use native.Mathlib.Omega.{arith}
use lib.Dec.{eqb, lit<}
use Rattle.code.proofs.Ranges.{command_range}
use Rattle.code.proofs.CommandCodes.{written_says_command}
use Rattle.code.proofs.Lengths.{text_has_one_byte}
use Rattle.code.proofs.OneAnswer.{same}
use Rattle.code.proofs.RoundTrip.{command_again_lem, single_again}
use Rattle.code.proofs.WrittenLemmas.{data_kept, domain_is_written, even_is_refused, odd_is_read, settled}
use Rattle.code.specs.Outcome.{Outcome, answer, refused}
use Rattle.code.specs.Parity.{is_odd, stripped, with_parity}
use Rattle.code.specs.Read.{codes_of_bytes, control_code_of, is_command, read_pair, single}
use Rattle.code.specs.Pair.{pair}
use Rattle.code.specs.Write.{is_command_code, write_code}
use Rattle.code.specs.declared.code.Code.{Code}
use Rattle.code.specs.declared.code.Code.TheVariants as code
use Rattle.code.specs.declared.pair.Pair.{Pair}
use Rattle.queue.proofs.Dressed.{dressed_exactly, others_as_written}
use Rattle.queue.specs.Queueable.{is_dressed, queueable}

written_may : (c : Code) (p : Pair) (n : ℕ) → write_code c ≡ answer (p, n) → is_dressed c ≡ false → queueable c ≡ answer tt
written_may c p n written e = others_as_written c e ∙ domain_is_written c ∙ ap settled written

-- a single code has one byte
single_may : (b : ℕ) → b < 128 → queueable (single b) ≡ answer tt
single_may b less =
    written_may (single b) (pair (with_parity b) 0x80) 1 (single_again b less)
    (dressed_exactly (single b) ∙ ap (λ (n : ℕ). eqb n 2 && not (is_command_code (single b))) (text_has_one_byte b))

-- a command was read from a first byte of 10 to 1F
command_may : (a b : ℕ) → is_command a ≡ true → b < 128 → queueable (code.Control (control_code_of a b)) ≡ answer tt
command_may a b e less =
    let range = command_range a e in
    let written = command_again_lem a b range.0 range.1 less in
    let kept : stripped (with_parity a) ≡ a = data_kept a ∙ omega arith in
    let is_a_command = sym (written_says_command _ _ _ written) ∙ ap is_command kept ∙ e in
    written_may (code.Control (control_code_of a b)) (pair (with_parity a) (with_parity b)) 2 written
    (dressed_exactly (code.Control (control_code_of a b)) ∙ ap not is_a_command)

abbrev BothMay : Code × Code → Type 0
BothMay r = (queueable r.0 ≡ answer tt) × (queueable r.1 ≡ answer tt)

codes_may : (t : Bool) (a b : ℕ) → is_command a ≡ t → a < 128 → b < 128 → BothMay (codes_of_bytes a b)
codes_may true a b e la lb = rw e (command_may a b e lb, single_may 0 (lit< tt))
codes_may false a b e la lb = rw e (single_may a la, single_may b lb)

read_by : (a b : ℕ) (r : Code × Code) (t : Bool) → (is_odd a && is_odd b) ≡ t → read_pair a b ≡ answer r → BothMay r
read_by a b r true odd e =
    subst BothMay (same (sym (odd_is_read a b odd) ∙ e))
    (codes_may (is_command (stripped a)) (stripped a) (stripped b) refl (omega arith) (omega arith))
read_by a b r false even e =
    let clash : ◌≡◌ {A = Outcome (Code × Code)} (refused 1) (answer r) = sym (even_is_refused a b even) ∙ e in
    let z : ◌≡◌ {A = ℕ} 0 1 = cc in
    absurd (omega arith)

pub what_was_read_may_be_queued : (a b : ℕ) (x y : Code) → read_pair a b ≡ answer (x, y) → (queueable x ≡ answer tt) × (queueable y ≡ answer tt)
what_was_read_may_be_queued a b x y e = read_by a b (x, y) (is_odd a && is_odd b) refl e
