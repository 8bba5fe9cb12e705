-- Where there is no extended data, this mode reads what the receiver reads: each pair's answer, and the state after it.
-- Assumes nothing.
use Prim.Native.Nat.{ℕ, ◌<◌, suc, zero}
use borrow.Author.Tests.{not-true}
use lib.ListN.{replicate}
use mathlib.Core.Bool.{Bool, ◌&&◌, false, not, true, true≢false}
use mathlib.Core.List.{List, [], ◌∷◌, map}
use Rattle.std.specs.Prelude.{None}
use mathlib.Core.Path.{◌≡◌, refl, ap, sym, ◌∙◌}
use native.Mathlib.Omega.{arith}
use Rattle.code.proofs.Agree.{agree}
use Rattle.code.proofs.Both.{both_true}
use Rattle.code.specs.Outcome.{Outcome, answer}
use Rattle.code.specs.Range.{within}
use Rattle.code.specs.Read.{is_command_pair, is_odd_pair}
use Rattle.code.specs.declared.control.ControlCode.{ControlCode}
use Rattle.code.specs.declared.pair.Pair.{Pair}
use Rattle.extended.proofs.Ways.{even_read, heard_by, read_by_part}
use Rattle.extended.specs.Extended.{Read, Reader, Report, by_part, other, read, reported, with_captions, with_running}
use Rattle.extended.specs.Part.{part_of}
use Rattle.extended.specs.Reading.{after, answers, first, is_packet_code, no_packet_code, second}
use Rattle.extended.specs.declared.part.Part.TheVariants as part
use Rattle.extended.specs.declared.part.Part.{Part}
use Rattle.extended.specs.declared.state.Running.TheVariants as running
use Rattle.extended.specs.declared.state.Running.{Running}
use Rattle.receiver.proofs.Copies as copies
use Rattle.receiver.proofs.Copies.{in_turn}
use Rattle.receiver.proofs.Step.{IsCommand, even_is_refused_1}
use Rattle.receiver.specs.Heard.{event_of}
use Rattle.receiver.specs.Reading as reading
use Rattle.receiver.specs.Receiver.{Stepped, is_last}

-- a pair is read as the receiver reads it
abbrev pub AsTheReceiver : Reader → Pair → Type 0
AsTheReceiver s p = read s p ≡ (reported (heard_by s p).0, with_captions s (heard_by s p).1)

-- a command, or text where captions run
abbrev is_caption : Part → Bool
is_caption part.Command = true
is_caption (part.Start c) = false
is_caption (part.Continuation c) = false
is_caption part.End = false
is_caption part.Other = true

caption_parts : (a : ℕ) → a < 128 → not (within 0x01 0x0F a) ≡ is_caption (part_of a)
unfolding part_of
caption_parts a less = agree (λ (b : ℕ). not (within 0x01 0x0F b)) (λ (b : ℕ). is_caption (part_of b)) 128 refl a less

caption_part : (s : Reader) (h : Stepped) (x : Part) (a b : ℕ) → s.running ≡ running.Captions → is_caption x ≡ true → by_part s h x a b ≡ (reported h.0, with_captions s h.1)
caption_part s h part.Command a b runs e = ap (λ (r : Running). (reported h.0, with_running (with_captions s h.1) r)) (sym runs)
caption_part s h (part.Start c) a b runs e = absurd (true≢false (sym e))
caption_part s h (part.Continuation c) a b runs e = absurd (true≢false (sym e))
caption_part s h part.End a b runs e = absurd (true≢false (sym e))
caption_part s h part.Other a b runs e = ap (λ (r : Running). other s h r a b) runs

by_parity : (s : Reader) (p : Pair) (t : Bool) → is_odd_pair p ≡ t → s.running ≡ running.Captions → is_packet_code p ≡ false → AsTheReceiver s p
by_parity s p false even runs plain =
    even_read s p even ∙ ap (λ (h : Stepped). (reported h.0, with_captions s h.1)) (sym (even_is_refused_1 s.captions p even))
by_parity s p true odd runs plain =
    read_by_part s p (part_of (first p)) (record { odd = odd; part = refl })
    ∙ caption_part s (heard_by s p) (part_of (first p)) (first p) (second p) runs (sym (caption_parts (first p) (omega arith)) ∙ ap not (sym (ap (λ (t : Bool). t && within 0x01 0x0F (first p)) odd) ∙ plain))

-- where captions run, a pair that is no start, continuation or end is read as the receiver reads it
pub read_as_the_receiver : (s : Reader) (p : Pair) → s.running ≡ running.Captions → is_packet_code p ≡ false → AsTheReceiver s p
read_as_the_receiver s p = by_parity s p (is_odd_pair p) refl

-- and so is a stream of such pairs, answer by answer; captions run on
pub captions_alone : (s : Reader) (ps : List Pair) → s.running ≡ running.Captions → no_packet_code ps ≡ true → (answers s ps ≡ map reported (reading.answers s.captions ps)) × (after s ps ≡ with_captions s (reading.after s.captions ps))
captions_alone s [] runs plain = (refl, refl)
captions_alone s (p ∷ ps) runs plain =
    let both = both_true (not (is_packet_code p)) (no_packet_code ps) plain in
    let here = read_as_the_receiver s p runs (not-true (is_packet_code p) both.0) in
    let next = with_captions s (heard_by s p).1 in
    let rest = captions_alone next ps runs both.1 in (
      ap (λ (r : Read). r.0 ∷ answers r.1 ps) here ∙ ap {B = List (Outcome Report)} (λ os. reported (heard_by s p).0 ∷ os) rest.0,
      ap (λ (r : Read). after r.1 ps) here ∙ rest.1,
    )

-- from any state a command is read as the receiver reads it, and captions run after it
pub command_as_the_receiver : (s : Reader) (p : Pair) → is_odd_pair p ≡ true → is_command_pair p ≡ true → read s p ≡ (reported (heard_by s p).0, with_running (with_captions s (heard_by s p).1) running.Captions)
unfolding part_of
command_as_the_receiver s p odd command = read_by_part s p part.Command (record { odd = odd; part = rw command refl })

-- so copies of one command in a row are read as the receiver reads them, from any state
copies_as_the_receiver : (s : Reader) (p : Pair) (n : ℕ) → is_odd_pair p ≡ true → is_command_pair p ≡ true → answers s (replicate n p) ≡ map reported (reading.answers s.captions (replicate n p))
copies_as_the_receiver s p zero odd command = refl
copies_as_the_receiver s p (suc n) odd command =
    let next = with_running (with_captions s (heard_by s p).1) running.Captions in
    ap (λ (r : Read). r.0 ∷ answers r.1 (replicate n p)) (command_as_the_receiver s p odd command)
    ∙ ap {B = List (Outcome Report)} (λ os. reported (heard_by s p).0 ∷ os) (copies_as_the_receiver next p n odd command)

-- The receiver's laws on repeats: the odd copies act, or the even ones where the command is the last pair.
module _ (s : Reader) (p : Pair) (c : ControlCode) (command : IsCommand p c) (odd : is_odd_pair p ≡ true) (first_byte_lem : is_command_pair p ≡ true) (n : ℕ) where
  pub odd_copies_act : is_last p s.captions.last_data ≡ false → answers s (replicate n p) ≡ map reported (in_turn n (answer (event_of c)) (answer None))
  odd_copies_act another =
      copies_as_the_receiver s p n odd first_byte_lem ∙ ap (map reported) (copies.odd_copies_act p c command n s.captions another)

  pub even_copies_act : is_last p s.captions.last_data ≡ true → answers s (replicate n p) ≡ map reported (in_turn n (answer None) (answer (event_of c)))
  even_copies_act same =
      copies_as_the_receiver s p n odd first_byte_lem ∙ ap (map reported) (copies.even_copies_act p c command n s.captions same)
