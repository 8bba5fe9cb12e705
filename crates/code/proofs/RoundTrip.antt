-- Every pair of odd parity, read and written again, gives its own two bytes; and of the 65,536 pairs 16,384 pass.
-- Assumes nothing.
use Rattle.std.specs.Prelude.{Option}
use Rattle.code.specs.declared.channel.Field.{Field}
use mathlib.Core.Bool.{Bool, true, false, cond, ◌&&◌}
use mathlib.Core.Path.{◌≡◌, refl, ap, sym, ◌∙◌}
use Prim.Native.Nat.{ℕ, zero, suc, ◌≤◌, ◌<◌}
use native.Mathlib.Omega.{arith}
use borrow.Author.Tests.{leb-true}
use lib.Count.{ones, ones_in}
use lib.Dec.{leb}
use Rattle.code.proofs.Both.{both_true}
use Rattle.code.proofs.Agree.{agree, agree_grid}
use Rattle.code.proofs.OneAnswer.{clash}
use Rattle.code.proofs.Ranges.{command_range}
use Rattle.code.specs.Outcome.{Outcome, answer, is_answer, refused}
use Rattle.code.specs.Parity.{is_odd, stripped, with_parity}
use Rattle.code.specs.Read.{codes_of_bytes, control_code_of, is_command, is_odd_pair, meaning, read_pair, single}
use Rattle.code.specs.Pair.{pair}
use Rattle.code.specs.RoundTrip.{count_below, count_pairs, written_again}
use Rattle.code.specs.Write.{as_command, as_single, control_bytes, on_line, preamble_bytes, together, write_code, write_two}
use Rattle.code.specs.declared.channel.Channel.{Channel}
use Rattle.code.specs.declared.code.Code.{Code}
use Rattle.code.specs.declared.code.Code.TheVariants as code
use Rattle.code.specs.declared.control.Control.TheVariants as control
use Rattle.code.specs.declared.pair.Pair.{Pair}
use Rattle.code.specs.declared.preamble.PreambleAddressCode.{PreambleAddressCode}

-- a byte of odd parity is its own data with parity added
kept : ℕ → ℕ
kept b = cond (is_odd b) (with_parity (stripped b)) b

kept_is : (b : ℕ) → b < 256 → kept b ≡ b
unfolding kept ones ones_in
kept_is b less = agree kept (λ (x : ℕ). x) 256 refl b less

parity_back : (b : ℕ) → b < 256 → is_odd b ≡ true → with_parity (stripped b) ≡ b
unfolding kept
parity_back b less odd = sym (rw odd) ∙ kept_is b less

-- all single bytes, and all commands, by computation
pub single_again : (b : ℕ) → b < 128 → write_code (single b) ≡ as_single b
unfolding ones ones_in write_code
single_again b less = agree (λ (x : ℕ). write_code (single x)) as_single 128 refl b less

pub command_again_lem : (a b : ℕ) → 16 ≤ a → a < 32 → b < 128 → write_code (code.Control (control_code_of a b)) ≡ answer (pair (with_parity a) (with_parity b), 2)
unfolding ones ones_in write_code on_line control_bytes meaning control_code_of
command_again_lem a b from below less =
    agree_grid (λ (x y : ℕ). write_code (code.Control (control_code_of x y))) (λ (x y : ℕ). answer (pair (with_parity x) (with_parity y), 2)) 16 16 128 refl
    a
    b
    from
    below
    less

-- two stripped bytes
abbrev write_both : Code × Code → Outcome Pair
write_both codes = write_two codes.0 codes.1

again : (t : Bool) (a b : ℕ) → a < 128 → b < 128 → is_command a ≡ t → write_both (cond t (code.Control (control_code_of a b), code.Nul) (single a, single b)) ≡ answer (pair (with_parity a) (with_parity b))
unfolding write_code
again true a b la lb e =
    let h = command_range a e in
    ap (λ (o : Outcome (Pair × ℕ)). together o (write_code code.Nul)) (command_again_lem a b h.0 h.1 lb)
again false a b la lb e = rw (single_again a la, single_again b lb)

stripped_again : (a b : ℕ) → a < 128 → b < 128 → write_two (codes_of_bytes a b).0 (codes_of_bytes a b).1 ≡ answer (pair (with_parity a) (with_parity b))
stripped_again a b la lb = again (is_command a) a b la lb refl

-- what was read is written again
pub read_then_write : (a b : ℕ) → a < 256 → b < 256 → is_odd_pair (pair a b) ≡ true → written_again (read_pair a b) ≡ answer (pair a b)
unfolding read_pair
read_then_write a b la lb odd =
    let h = both_true (is_odd a) (is_odd b) odd in
    rw odd
    (stripped_again (stripped a) (stripped b) (omega arith) (omega arith)
    ∙ ap answer (rw (parity_back a la h.0, parity_back b lb h.1)))

-- a command that was read can be written, so that its row, if it has one, is one of the fifteen
bytes_of_answer : (f : Option Field) (ch : Channel) (o : Outcome Pair) (x : Pair × ℕ) → as_command f ch o ≡ answer x → (p : Pair) × (o ≡ answer p)
bytes_of_answer f ch (answer p) x e = (p, refl)
bytes_of_answer f ch (refused n) x e = absurd (clash (sym e))

row_of_answer : (row : ℕ) (p q : Pair) (t : Bool) → leb row 14 ≡ t → cond t (answer p) (refused 3) ≡ answer q → row < 15
row_of_answer row p q true e is = omega (arith, leb-true row 14 e)
row_of_answer row p q false e is = absurd (clash (sym is))

pub row_that_was_read : (a b : ℕ) (p : PreambleAddressCode) → is_command (stripped a) ≡ true → (control_code_of (stripped a) (stripped b)).control ≡ control.Preamble p → p.row < 15
unfolding write_code control_bytes
row_that_was_read a b p is read =
    let range = command_range (stripped a) is in
    let c = control_code_of (stripped a) (stripped b) in
    let bytes = bytes_of_answer c.field c.channel (control_bytes c.control) _ (command_again_lem (stripped a) (stripped b) range.0 range.1 (omega arith)) in
    row_of_answer p.row (preamble_bytes p) bytes.0 (leb p.row 14) refl (sym (ap control_bytes read) ∙ bytes.1)

-- how many pass; byte by byte, since a count over pairs takes too many steps
odd_pairs : count_pairs (λ (a b : ℕ). is_odd a && is_odd b) 256 256 ≡ 16384
unfolding ones ones_in
odd_pairs = refl

-- of two tests that agree the counts are the same
count_same : (f g : ℕ → Bool) (n : ℕ) → ((k : ℕ) → f k ≡ g k) → count_below f n ≡ count_below g n
count_same f g zero same = refl
count_same f g (suc n) same = rw (same n, count_same f g n same) refl

pairs_same : (f g : ℕ → ℕ → Bool) (n m : ℕ) → ((a b : ℕ) → f a b ≡ g a b) → count_pairs f n m ≡ count_pairs g n m
pairs_same f g zero m same = refl
pairs_same f g (suc n) m same = rw (count_same (f n) (g n) m (same n), pairs_same f g n m same) refl

-- so many pairs are read
read_by : (t : Bool) (codes : Code × Code) → is_answer (cond t (answer codes) (refused 1)) ≡ t
read_by true codes = refl
read_by false codes = refl

read_where_odd : (a b : ℕ) → is_answer (read_pair a b) ≡ is_odd_pair (pair a b)
unfolding read_pair
read_where_odd a b = read_by (is_odd_pair (pair a b)) (codes_of_bytes (stripped a) (stripped b))

pub pairs_that_are_read : count_pairs (λ (a b : ℕ). is_answer (read_pair a b)) 256 256 ≡ 16384
pairs_that_are_read = pairs_same (λ (a b : ℕ). is_answer (read_pair a b)) (λ (a b : ℕ). is_odd a && is_odd b) 256 256 read_where_odd ∙ odd_pairs
