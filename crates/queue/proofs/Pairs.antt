-- What a pop sends: both bytes of odd parity, and a command pair exactly where the stripped first byte is 10 to 1F.
-- Of a code's pair only the code layer's laws are used.
-- Assumes nothing.
use mathlib.Core.Bool.{Bool, true, false, cond, not}
use mathlib.Core.List.{List, [], ◌∷◌}
use mathlib.Core.Path.{◌≡◌, refl, ap, sym, ◌∙◌}
use Prim.Native.Nat.{ℕ}
use native.Mathlib.Omega.{arith}
use lib.Count.{ones, ones_in}
use lib.Dec.{eqb, lit<}
use Rattle.code.proofs.Lengths.{text_has_one_byte}
use Rattle.code.proofs.WrittenLemmas.{SentByte, SentPair, domain_is_written, nul_sent, read_as_command, read_as_text, settled, written_is_sent}
use Rattle.code.specs.Code.{byte_len, needs_backspace}
use Rattle.code.specs.Outcome.{Outcome, answer, is_answer, refused}
use Rattle.code.specs.Parity.{stripped}
use Rattle.code.specs.Read.{is_command, read_pair}
use Rattle.code.specs.Write.{write_code}
use Rattle.code.specs.declared.code.Code.{Code}
use Rattle.code.specs.declared.pair.Pair.{Pair}
use Rattle.code.proofs.Both.{both_left, both_right}
use Rattle.queue.proofs.Dressed.{queueable_is_in_domain}
use Rattle.queue.proofs.Ways.{Way, held_code, nothing_inside, last_code, two_codes, before_command, space_first, command_goes, way_of}
use Rattle.queue.proofs.WellFormed.{held_queueable, may_queueable}
use Rattle.queue.specs.Good.{Fit}
use Rattle.queue.specs.Queue.{Pop, Queued, may_wait, pair_of, pop, pair_written}
use Rattle.queue.specs.Queueable.{is_queueable}
use Rattle.queue.specs.Ring.{all_may_wait}
use Rattle.queue.specs.Made.{reads_command}

written : (c : Code) (o : Outcome (Pair × ℕ)) → write_code c ≡ o → is_answer (settled o) ≡ true → SentPair (pair_written o)
written c (answer x) e inside = (written_is_sent c x.0 x.1 e).0
written c (refused n) e inside = let z : ◌≡◌ {A = ℕ} 0 1 = cc in absurd (omega arith)

-- the pair of a code that may be queued
code_is_sent : (c : Code) → is_queueable c ≡ true → SentPair (pair_of c)
unfolding pair_of
code_is_sent c e =
    written c (write_code c) refl (ap is_answer (sym (domain_is_written c)) ∙ queueable_is_in_domain c e)

-- so that it goes out as it is written, and never as the 80 80 of a code that cannot be
as_written : (c : Code) (o : Outcome (Pair × ℕ)) → write_code c ≡ o → is_answer (settled o) ≡ true → write_code c ≡ answer (pair_written o, byte_len c)
as_written c (answer x) e inside = e ∙ ap {B = Outcome (Pair × ℕ)} (λ (n : ℕ). answer (x.0, n)) (written_is_sent c x.0 x.1 e).1
as_written c (refused n) e inside = let z : ◌≡◌ {A = ℕ} 0 1 = cc in absurd (omega arith)

pub code_goes_out_as_written : (c : Code) → is_queueable c ≡ true → write_code c ≡ answer (pair_of c, byte_len c)
unfolding pair_of
code_goes_out_as_written c e =
    as_written c (write_code c) refl (ap is_answer (sym (domain_is_written c)) ∙ queueable_is_in_domain c e)

space_sent : SentByte 0x20
unfolding ones ones_in
space_sent = record { odd = refl; small = lit< tt }

space_or_nul : (t : Bool) → SentByte (cond t 0x20 0x80)
space_or_nul true = space_sent
space_or_nul false = nul_sent

waiting_sent : (c : Code) (l : List Code) → all_may_wait (c ∷ l) ≡ true → SentPair (pair_of c)
waiting_sent c l all = code_is_sent c (may_queueable c (both_left (may_wait c) (all_may_wait l) all))

pair_sent : {v : Queued} {p : Pop} → Way v p → Fit v → SentPair p.pair
pair_sent (held_code c l) f = code_is_sent c (held_queueable c f.held)
pair_sent nothing_inside f = record { first = nul_sent; second = nul_sent }
pair_sent (last_code x e) f = record { first = (waiting_sent x [] f.codes).first; second = nul_sent }
pair_sent (two_codes x y l e next) f =
    let after_first = both_right (may_wait x) (all_may_wait (y ∷ l)) f.codes in
    record { first = (waiting_sent x (y ∷ l) f.codes).first; second = (waiting_sent y l after_first).first }
pair_sent (before_command x y l e next) f =
    record { first = (waiting_sent x (y ∷ l) f.codes).first; second = space_or_nul (needs_backspace y) }
pair_sent (space_first x l e wants) f = record { first = space_sent; second = nul_sent }
pair_sent (command_goes x l e wants) f = waiting_sent x l f.codes

-- every popped pair has odd parity in both bytes
pub popped_is_sent : (v : Queued) → Fit v → SentPair (pop v).pair
popped_is_sent v f = pair_sent (way_of v) f

read_by : (p : Pair) (t : Bool) → SentPair p → is_command (stripped p.0) ≡ t → reads_command (read_pair p.0 p.1) ≡ t
read_by p true s e = ap reads_command (read_as_command p.0 p.1 s.first.odd s.second.odd e)
read_by p false s e =
    ap reads_command (read_as_text p.0 p.1 s.first.odd s.second.odd e)
    ∙ ap (λ (n : ℕ). not (eqb n 1)) (text_has_one_byte (stripped p.0))

-- a popped pair is a command pair exactly where its stripped first byte is 10 to 1F
pub popped_command : (v : Queued) → Fit v → reads_command (read_pair (pop v).pair.0 (pop v).pair.1) ≡ is_command (stripped (pop v).pair.0)
popped_command v f = read_by (pop v).pair (is_command (stripped (pop v).pair.0)) (popped_is_sent v f) refl
