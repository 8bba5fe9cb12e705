-- The law of T-04: a pair that the queue gives is a command pair exactly where it was made of a two-byte code, which then
-- went out alone and as it is written. Half a command that goes first is the one exception, and a case shows it.
-- Assumes nothing.
use mathlib.Core.Bool.{Bool, true, false, not, ◌||◌, true≢false}
use mathlib.Core.List.{List, [], ◌∷◌, ◌++◌}
use Rattle.std.specs.Prelude.{Option, None, Some}
use mathlib.Core.Path.{◌≡◌, refl, ap, sym, subst, ◌∙◌}
use Prim.Native.Nat.{ℕ}
use borrow.Author.Tests.{not-false}
use lib.Count.{ones, ones_in}
use lib.Dec.{eqb}
use Rattle.code.proofs.Both.{both_left}
use Rattle.code.proofs.CommandCodes.{written_says_command}
use Rattle.code.proofs.WrittenLemmas.{domain_is_written, settled, written_is_sent}
use Rattle.code.specs.Channel.{channel_one}
use Rattle.code.specs.Outcome.{Outcome, answer, is_answer, refused}
use Rattle.code.specs.Read.{control_code_of, is_command_pair, meaning, read_pair}
use Rattle.code.specs.Pair.{pair}
use Rattle.code.specs.Write.{in_domain, is_command_code, is_command_control, write_code}
use Rattle.code.specs.declared.code.Code.{Code}
use Rattle.code.specs.declared.code.Code.TheVariants as code
use Rattle.code.specs.declared.color.Color.TheVariants.{White}
use Rattle.code.specs.declared.control.Control.TheVariants as control
use Rattle.code.specs.declared.pair.Pair.{Pair}
use Rattle.code.specs.declared.preamble.PreambleType.TheVariants as style
use Rattle.queue.proofs.Order.{pop_takes_from_the_front}
use Rattle.queue.proofs.Pairs.{popped_command}
use Rattle.queue.proofs.Dressed.{dressed_exactly, queueable_is_in_domain, queueable_is_not_dressed}
use Rattle.queue.proofs.Sends.{made_of}
use Rattle.queue.proofs.WellFormed.{held_queueable, may_queueable}
use Rattle.queue.specs.Calls.{acceptance, list_replies, popping, pushing, to_pop}
use Rattle.queue.specs.Good.{Fit}
use Rattle.queue.specs.Queue.{Queued, admit, empty, inside, is_single, may_wait, pair_of, pop, queued, pair_written}
use Rattle.queue.specs.Queueable.{is_queueable, queueable}
use Rattle.queue.specs.Ring.{all_may_wait}
use Rattle.queue.specs.Made.{IsByte, MadeOf, one_command, last_single, nothing_to_send, single_before, space_before, two_singles, has_two_byte_code, is_half_command, makes_command, reads_command}
use Rattle.code.specs.KnownCodes.{letter_a}

-- a code that may be queued goes out with a first byte of 10 to 1F exactly where it is one that is sent as a command
says : (c : Code) (o : Outcome (Pair × ℕ)) → write_code c ≡ o → is_answer (settled o) ≡ true → is_command_pair (pair_written o) ≡ is_command_code c
says c (answer x) e can = written_says_command c x.0 x.1 e
says c (refused n) e can = absurd (true≢false (sym can))

pub code_says : (c : Code) → is_queueable c ≡ true → is_command_pair (pair_of c) ≡ is_command_code c
unfolding pair_of
code_says c e = says c (write_code c) refl (ap is_answer (sym (domain_is_written c)) ∙ queueable_is_in_domain c e)

-- which it is where it has two bytes, or is half a command
sent_as_command : (c : Code) → is_queueable c ≡ true → is_command_code c ≡ (not (is_single c) || is_half_command c)
sent_as_command code.Nul e = refl
sent_as_command (code.Control c) e =
    not-false (is_command_control c.control)
    (sym (dressed_exactly (code.Control c)) ∙ queueable_is_not_dressed (code.Control c) e)
sent_as_command (code.Letter l) e = refl
sent_as_command (code.Unknown b) e = refl

-- the first code of a list, if there is one, may be queued
abbrev FirstQueueable : List Code → Type 0
FirstQueueable [] = Unit
FirstQueueable (x ∷ l) = is_queueable x ≡ true

fit_queueable : (l : List Code) (h : Option Code) → Fit (queued l h) → FirstQueueable (inside (queued l h))
fit_queueable l (Some c) f = held_queueable c f.held
fit_queueable [] None f = tt
fit_queueable (x ∷ l) None f = may_queueable x (both_left (may_wait x) (all_may_wait l) f.codes)

front_queueable : (taken left : List Code) → FirstQueueable (taken ++ left) → FirstQueueable taken
front_queueable [] left first = tt
front_queueable (x ∷ taken) left first = first

taken_queueable : (v : Queued) → Fit v → FirstQueueable (pop v).took
taken_queueable v f =
    front_queueable (pop v).took (inside (pop v).next)
    (subst FirstQueueable (pop_takes_from_the_front v) (fit_queueable v.waiting v.held f))

-- a code with none of two bytes after it tells whether the pair is a command
first_tells : (t u h : Bool) → u ≡ false → (t || h) ≡ ((t || u) || h)
first_tells true u h e = refl
first_tells false u h e = sym (ap (λ (x : Bool). x || h) e)

first_makes : (x : Code) (rest : List Code) → is_queueable x ≡ true → has_two_byte_code rest ≡ false → is_command_code x ≡ makes_command (x ∷ rest)
first_makes x rest may alone = sent_as_command x may ∙ first_tells (not (is_single x)) (has_two_byte_code rest) (is_half_command x) alone

byte_is_single : (x : Code) (a : ℕ) → IsByte x a → has_two_byte_code (x ∷ []) ≡ false
byte_is_single x a written =
    ap (λ (n : ℕ). not (eqb n 1) || false) (sym (written_is_sent x (pair a 0x80) 1 written).1)

by_made : {p : Pair} {l : List Code} {left : Queued} → MadeOf p l left → FirstQueueable l → is_command_pair p ≡ makes_command l
by_made nothing_to_send first = refl
by_made (space_before c rest needs) first = refl
by_made (last_single x a written) first = written_says_command x (pair a 0x80) 1 written ∙ first_makes x [] first refl
by_made (single_before x c a rest written two) first = written_says_command x (pair a 0x80) 1 written ∙ first_makes x [] first refl
by_made (two_singles x y a b rest written next) first =
    written_says_command x (pair a 0x80) 1 written ∙ first_makes x (y ∷ []) first (byte_is_single y b next)
by_made (one_command c p rest written) first = written_says_command c p 2 written ∙ first_makes c [] first refl

pub popped_is_a_command : (v : Queued) → Fit v → is_command_pair (pop v).pair ≡ makes_command (pop v).took
popped_is_a_command v f = by_made (made_of v f) (taken_queueable v f)

-- and it is read as a command there, and nowhere else
pub popped_is_read : (v : Queued) → Fit v → reads_command (read_pair (pop v).pair.0 (pop v).pair.1) ≡ makes_command (pop v).took
popped_is_read v f = popped_command v f ∙ popped_is_a_command v f

-- the exception: `Unknown` 14 before A goes out as 94 C1, which a receiver reads as a preamble, row 13 in white, underlined
abbrev row_13_underlined : Code
row_13_underlined = code.Control (record {
  field = None;
  channel = channel_one;
  control = control.Preamble (record { row = 13; underline = true; ty = style.Color White });
})

pub half_a_command_makes_a_command :
    (list_replies (pushing (code.Unknown 0x14) ∷ pushing letter_a ∷ popping ∷ []) empty ≡ acceptance ∷ acceptance ∷ to_pop (answer (pair 0x94 0xC1)) ∷ [])
    × (read_pair 0x94 0xC1 ≡ answer (row_13_underlined, code.Nul))
unfolding ones ones_in write_code in_domain queueable admit pair_of pop read_pair meaning control_code_of
half_a_command_makes_a_command = (refl, refl)
