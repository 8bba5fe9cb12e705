-- What may be queued can be written, and is no text dressed as a command. What that is, that a push of it is refused 18,
-- that no well-formed queue has it inside, and cases of 18.
-- Assumes nothing.
use mathlib.Core.Bool.{Bool, true, false, ◌&&◌, not, true≢false}
use mathlib.Core.List.{List, [], ◌∷◌, ◌++◌}
use Rattle.std.specs.Prelude.{Option, None, Some}
use mathlib.Core.Path.{◌≡◌, refl, ap, sym, ◌∙◌}
use Prim.Native.Nat.{ℕ}
use lib.Count.{ones, ones_in}
use lib.Dec.{eqb}
use lib.ListN.{replicate}
use Rattle.code.proofs.Both.{both_left, both_right}
use Rattle.code.specs.Channel.{channel_one, channel_two}
use Rattle.code.specs.Code.{byte_len}
use Rattle.code.specs.Outcome.{Outcome, answer, is_answer, refused}
use Rattle.code.specs.Pair.{pair}
use Rattle.code.specs.Write.{control_bytes, in_domain, is_command_code, is_command_control, on_line, write_code}
use Rattle.code.specs.declared.channel.Channel.{Channel}
use Rattle.code.specs.declared.code.Code.{Code}
use Rattle.code.specs.declared.code.Code.TheVariants as code
use Rattle.code.specs.declared.control.Control.{Control}
use Rattle.code.specs.declared.control.Control.TheVariants as control
use Rattle.queue.proofs.WellFormed.{formed, held_queueable, may_queueable}
use Rattle.queue.specs.Calls.{acceptance, list_replies, popping, pushing, Reply, to_pop, to_push}
use Rattle.queue.specs.Queue.{admit, empty, held_codes, inside, is_nul, may_wait, pair_of, pop}
use Rattle.queue.specs.Queueable.{is_dressed, is_dressed_control, is_queueable, none_dressed, queueable, unless_dressed}
use Rattle.queue.specs.Ring.{all_may_wait, held_fits, held_in, push_ring, view, waiting_in, well_formed}
use Rattle.queue.specs.declared.ring.Queue.{Queue}
use Rattle.code.specs.KnownCodes.{letter_a}

written_by : (dressed : Bool) (o : Outcome Unit) → is_answer (unless_dressed dressed o) ≡ true → is_answer o ≡ true
written_by dressed (answer u) e = refl
written_by dressed (refused n) e = e

pub queueable_is_in_domain : (c : Code) → is_queueable c ≡ true → is_answer (in_domain c) ≡ true
unfolding queueable
queueable_is_in_domain c e = written_by (is_dressed c) (in_domain c) e

undressed_by : (dressed : Bool) (o : Outcome Unit) → is_answer (unless_dressed dressed o) ≡ true → dressed ≡ false
undressed_by true (answer u) e = sym e
undressed_by false (answer u) e = refl
undressed_by dressed (refused n) e = absurd (true≢false (sym e))

pub queueable_is_not_dressed : (c : Code) → is_queueable c ≡ true → is_dressed c ≡ false
unfolding queueable
queueable_is_not_dressed c e = undressed_by (is_dressed c) (in_domain c) e

-- what cannot be written is refused so; of the rest 18 is given to such text, and every other code may be queued
pub refused_as_written : (c : Code) (n : ℕ) → in_domain c ≡ refused n → queueable c ≡ refused n
unfolding queueable
refused_as_written c n e = rw e refl

pub dressed_is_refused : (c : Code) → is_dressed c ≡ true → in_domain c ≡ answer tt → queueable c ≡ refused 18
unfolding queueable
dressed_is_refused c dressed can = rw (can, dressed) refl

undressed : (o : Outcome Unit) → unless_dressed false o ≡ o
undressed (answer tt) = refl
undressed (refused n) = refl

pub others_as_written : (c : Code) → is_dressed c ≡ false → queueable c ≡ in_domain c
unfolding queueable
others_as_written c e = ap (λ (t : Bool). unless_dressed t (in_domain c)) e ∙ undressed (in_domain c)

-- such text is a two-byte code that is not sent as a command, and nothing else is
dressed_or_command : (c : Control) → is_dressed_control c ≡ not (is_command_control c)
dressed_or_command (control.MidRow m) = refl
dressed_or_command (control.Symbol s) = refl
dressed_or_command (control.Command k) = refl
dressed_or_command (control.Tab t) = refl
dressed_or_command (control.Preamble p) = refl
dressed_or_command (control.Unknown a b) = refl

pub dressed_exactly : (c : Code) → is_dressed c ≡ (eqb (byte_len c) 2 && not (is_command_code c))
dressed_exactly code.Nul = refl
dressed_exactly (code.Control c) = dressed_or_command c.control
dressed_exactly (code.Letter l) = refl
dressed_exactly (code.Unknown b) = refl

-- a push of it, into whatever well-formed queue, full or not, is refused 18
not_nul : (c : Code) → is_dressed c ≡ true → is_nul c ≡ false
not_nul code.Nul e = sym e
not_nul (code.Control c) e = refl
not_nul (code.Letter l) e = refl
not_nul (code.Unknown b) e = refl

pub push_of_text : (q : Queue) (c : Code) → well_formed q ≡ true → is_dressed c ≡ true → in_domain c ≡ answer tt → push_ring q c ≡ (refused 18, q)
unfolding push_ring admit
push_of_text q c formed dressed can = rw (formed, not_nul c dressed, dressed_is_refused c dressed can) refl

-- and no well-formed queue has it inside
one_undressed : (c : Code) (cs : List Code) → is_queueable c ≡ true → none_dressed cs ≡ true → none_dressed (c ∷ cs) ≡ true
one_undressed c cs may rest = rw (queueable_is_not_dressed c may) rest

waiting_undressed : (l : List Code) → all_may_wait l ≡ true → none_dressed l ≡ true
waiting_undressed [] all = refl
waiting_undressed (c ∷ cs) all =
    one_undressed c cs (may_queueable c (both_left (may_wait c) (all_may_wait cs) all))
    (waiting_undressed cs (both_right (may_wait c) (all_may_wait cs) all))

inside_undressed : (h : Option Code) (l : List Code) → held_fits h ≡ true → all_may_wait l ≡ true → none_dressed (held_codes h ++ l) ≡ true
inside_undressed None l fits all = waiting_undressed l all
inside_undressed (Some c) l fits all =
    one_undressed c l (held_queueable c fits) (waiting_undressed l all)

pub no_text_inside : (q : Queue) → well_formed q ≡ true → none_dressed (inside (view q)) ≡ true
no_text_inside q e = let f = formed q e in inside_undressed (held_in q.held) (waiting_in q) f.held f.codes

-- cases of 18, computed on the list
-- the two-byte `Unknown` of a channel
abbrev unknown : Channel → ℕ → ℕ → Code
unknown ch a b = code.Control (record { field = None; channel = ch; control = control.Unknown a b })

-- 41 42 would go out as the letters A and B: it is refused 18, and nothing goes out
pub text_is_refused : list_replies (pushing (unknown channel_one 0x41 0x42) ∷ popping ∷ []) empty ≡ to_push (refused 18) ∷ to_pop (answer (pair 0x80 0x80)) ∷ []
unfolding ones ones_in write_code in_domain queueable admit pair_of pop
text_is_refused = refl

-- on either channel 0F and 20 are refused, and 10 and 1F accepted
abbrev alone : Channel → ℕ → List Reply
alone ch a = list_replies (pushing (unknown ch a 0x41) ∷ popping ∷ []) empty

abbrev refused_18 : List Reply
refused_18 = to_push (refused 18) ∷ to_pop (answer (pair 0x80 0x80)) ∷ []

pub first_bytes_refused : (alone channel_one 0x0F ≡ refused_18) × (alone channel_one 0x20 ≡ refused_18) × (alone channel_two 0x0F ≡ refused_18) × (alone channel_two 0x20 ≡ refused_18)
unfolding in_domain queueable admit pop
first_bytes_refused = (refl, refl, refl, refl)

abbrev goes_out : ℕ → List Reply
goes_out a = acceptance ∷ to_pop (answer (pair a 0xC1)) ∷ []

pub first_bytes_accepted : (alone channel_one 0x10 ≡ goes_out 0x10) × (alone channel_one 0x1F ≡ goes_out 0x1F) × (alone channel_two 0x10 ≡ goes_out 0x98) × (alone channel_two 0x1F ≡ goes_out 0x1F)
unfolding ones ones_in write_code in_domain queueable admit pair_of pop on_line control_bytes
first_bytes_accepted = (refl, refl, refl, refl)

-- 2 comes before 18, and 18 before 7
pub between_2_and_7 :
    (list_replies (pushing (unknown channel_one 0x41 0x80) ∷ []) empty ≡ to_push (refused 2) ∷ [])
    × (list_replies (replicate 64 (pushing letter_a) ++ (pushing (unknown channel_one 0x41 0x42) ∷ pushing letter_a ∷ [])) empty ≡ replicate 64 acceptance ++ (to_push (refused 18) ∷ to_push (refused 7) ∷ []))
unfolding in_domain queueable admit
between_2_and_7 = (refl, refl)
