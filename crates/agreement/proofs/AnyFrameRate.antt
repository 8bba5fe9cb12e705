-- The agreement at any frame rate. Padding, wherever it stands, changes nothing that pairs give when they are read once with
-- no test for repeats; so what holds of the padded pairs (`Agreement.odd_pairs_agree`) holds of the queue's. And a case:
-- padding after two copies of a command, one of which is corrupted.
-- Assumes nothing.
use Rattle.std.specs.Prelude.{Some, Option}
use mathlib.Core.Bool.{Bool, true, false, cond}
use mathlib.Core.List.{List, [], ◌∷◌}
use mathlib.Core.Path.{◌≡◌, refl, ap, sym, subst, ◌∙◌}
use lib.Count.{ones, ones_in}
use lib.ListN.{replicate}
use Rattle.code.specs.Characters.{standard}
use Rattle.code.specs.Outcome.{Outcome, answer, refused}
use Rattle.code.specs.Read.{control_code_of, meaning, read_pair, single}
use Rattle.code.specs.Pair.{pair}
use Rattle.code.specs.Write.{control_bytes, in_domain, on_line, write_code}
use Rattle.code.specs.declared.code.Code.{Code}
use Rattle.code.specs.declared.code.Code.TheVariants as code
use Rattle.code.specs.declared.control.Command.TheVariants.{CarriageReturn}
use Rattle.code.specs.declared.pair.Pair.{Pair}
use Rattle.event.specs.declared.event.Cea608.{Cea608}
use Rattle.queue.specs.Number.{code_of}
use Rattle.queue.specs.Queue.{admit, pair_of, pop}
use Rattle.queue.specs.Queueable.{queueable}
use Rattle.queue.specs.Ring.{pop_ring, push_ring}
use Rattle.queue.specs.Ring as ring
use Rattle.receiver.specs.Reading.{after_once, answers, events, once, read_once}
use Rattle.receiver.specs.Receiver.{after_reading, field_after, forgotten, fresh, heard_codes, heard_text, state, step, Stepped, text_for}
use Rattle.receiver.specs.declared.state.Cea608State.{Cea608State}
use Rattle.receiver.specs.declared.state.LastChannel.{LastChannel}
use Rattle.sender.proofs.Refines.{fresh_good}
use Rattle.sender.specs.Calls.{Call, pushing, draining}
use Rattle.sender.specs.Drain.{drain_sender}
use Rattle.sender.specs.Sender.{fresh_sender, push_sender, send_sender, well_formed}
use Rattle.sender.specs.Sending.{send}
use Rattle.agreement.proofs.Padding.{padding_once}
use Rattle.agreement.proofs.Agreement.{odd_pairs_agree}
use Rattle.agreement.proofs.DecodedOnce.{Same, events_after}
use Rattle.agreement.proofs.Doubled.{queue_pairs_are_odd}
use Rattle.agreement.proofs.Limits.{command, hi_event, return_event}
use Rattle.agreement.proofs.OneByOne.{one_by_one_is_a_line, same_is_equal}
use Rattle.agreement.specs.Agreement.{Agreement, Line, queue_pairs}
use Rattle.agreement.specs.AnyFrameRate.{AnyFrameRateLaw, words}
use Rattle.agreement.specs.Doubled.{doubled}
use Rattle.agreement.specs.OneByOne.{AllOdd, IsOdd}
use Rattle.agreement.specs.OneByOne as one
use Rattle.receiver.specs.Heard.{event_of, text_event}
use Rattle.code.specs.Code.{char_of}
use Rattle.agreement.specs.Pairs.{carriage_return, hi, is_padding, padding}

-- read once, a pair gives the same from states of one channel and field, and leaves such states
abbrev pub SameSteps : Stepped → Stepped → Type 0
SameSteps x y = (x.0 ≡ y.0) × Same x.1 y.1

module _ (s t : Cea608State) (p : Pair) (same : Same s t) where
  same_text : (x y : Code) → SameSteps (heard_text s p x y) (heard_text t p x y)
  same_text x y = (
    ap (λ (ch : LastChannel). answer (text_for ch x y)) same.channel,
    record { channel = same.channel; field = same.field },
  )

  same_codes : (x y : Code) → SameSteps (heard_codes (forgotten s) p x y) (heard_codes (forgotten t) p x y)
  same_codes (code.Control c) y = (refl, record { channel = refl; field = ap (field_after c.field) same.field })
  same_codes code.Nul y = same_text code.Nul y
  same_codes (code.Letter l) y = same_text (code.Letter l) y
  same_codes (code.Unknown b) y = same_text (code.Unknown b) y

  same_reading : (o : Outcome (Code × Code)) → SameSteps (after_reading (forgotten s) p o) (after_reading (forgotten t) p o)
  same_reading (answer codes) = same_codes codes.0 codes.1
  same_reading (refused n) = (refl, record { channel = same.channel; field = same.field })

  pub same_once : SameSteps (once s p) (once t p)
  unfolding step
  same_once = same_reading (read_pair p.0 p.1)

-- read once, two streams give the same events, and the same channel and field at the end
abbrev pub ReadOnceAlike : Cea608State → List Pair → Cea608State → List Pair → Type 0
ReadOnceAlike s ps t qs = (events (read_once s ps) ≡ events (read_once t qs)) × Same (after_once s ps) (after_once t qs)

-- so do pairs and their words
module _ (p : Pair) (ps : List Pair) (go : (s t : Cea608State) → Same s t → ReadOnceAlike s ps t (words ps)) where
  padding_first : (s t : Cea608State) → Same s t → ReadOnceAlike s (padding ∷ ps) t (words ps)
  padding_first s t same =
      rw (padding_once s)
      (go (state (Some padding) s.last_channel s.last_received_field) t (record { channel = same.channel; field = same.field }))

  word_first : (s t : Cea608State) → Same s t → ReadOnceAlike s (p ∷ ps) t (p ∷ words ps)
  word_first s t same =
      let now = same_once s t p same in
      let later = go (once s p).1 (once t p).1 now.1 in (
        events_after (once s p).0 (read_once (once s p).1 ps) (read_once (once t p).1 (words ps)) later.0 ∙ ap (λ (o : Outcome (Option Cea608)). events (o ∷ read_once (once t p).1 (words ps))) now.0,
        later.1,
      )

  pair_first : (is : Bool) → is_padding p ≡ is → (s t : Cea608State) → Same s t → ReadOnceAlike s (p ∷ ps) t (cond is (words ps) (p ∷ words ps))
  pair_first true e s t same =
      subst (λ (q : Pair). ReadOnceAlike s (q ∷ ps) t (words ps)) (sym (same_is_equal p padding e)) (padding_first s t same)
  pair_first false e s t same = word_first s t same

words_read_alike : (ps : List Pair) (s t : Cea608State) → Same s t → ReadOnceAlike s ps t (words ps)
words_read_alike [] s t same = (refl, same)
words_read_alike (p ∷ ps) s t same =
    pair_first p ps (λ (x y : Cea608State) (alike : Same x y). words_read_alike ps x y alike) (is_padding p) refl s t same

-- and so do pairs of the same words, from any state
pub same_words_read_alike : (s : Cea608State) (ps qs : List Pair) → words ps ≡ words qs → ReadOnceAlike s ps s qs
same_words_read_alike s ps qs same =
    let first = words_read_alike ps s s (record { channel = refl; field = refl }) in
    let second = words_read_alike qs s s (record { channel = refl; field = refl }) in (
      first.0 ∙ ap (λ (l : List Pair). events (read_once s l)) same ∙ sym second.0,
      record {
        channel = first.1.channel ∙ ap (λ (l : List Pair). (after_once s l).last_channel) same ∙ sym second.1.channel;
        field = first.1.field ∙ ap (λ (l : List Pair). (after_once s l).last_received_field) same ∙ sym second.1.field;
      },
    )

-- pairs have odd parity exactly where their words have, since padding has
padding_is_odd : IsOdd padding
unfolding ones ones_in
padding_is_odd = refl

words_odd_by : (p : Pair) (ps : List Pair) (is : Bool) → IsOdd p → AllOdd ps → AllOdd (cond is ps (p ∷ ps))
words_odd_by p ps true odd all = all
words_odd_by p ps false odd all = (odd, all)

words_are_odd : (ps : List Pair) → AllOdd ps → AllOdd (words ps)
words_are_odd [] all = tt
words_are_odd (p ∷ ps) all = words_odd_by p (words ps) (is_padding p) all.0 (words_are_odd ps all.1)

odd_by : (p : Pair) (ps : List Pair) (is : Bool) → is_padding p ≡ is → (AllOdd (words ps) → AllOdd ps) → AllOdd (cond is (words ps) (p ∷ words ps)) → AllOdd (p ∷ ps)
odd_by p ps true e go all = (subst IsOdd (sym (same_is_equal p padding e)) padding_is_odd, go all)
odd_by p ps false e go all = (all.0, go all.1)

odd_by_words : (ps : List Pair) → AllOdd (words ps) → AllOdd ps
odd_by_words [] all = tt
odd_by_words (p ∷ ps) all = odd_by p ps (is_padding p) refl (odd_by_words ps) all

pub at_any_frame_rate : AnyFrameRateLaw
at_any_frame_rate calls padded arrived same line =
    let qs = queue_pairs calls fresh_sender in
    let odd = odd_by_words padded (subst AllOdd (sym same) (words_are_odd qs (queue_pairs_are_odd calls fresh_sender fresh_good))) in
    let agrees = odd_pairs_agree padded arrived odd line in
    let alike = same_words_read_alike fresh padded qs same in
    record {
      same_events = agrees.same_events ∙ alike.0;
      same_channel = agrees.same_channel ∙ alike.1.channel;
      same_field = agrees.same_field ∙ alike.1.field;
      refuses_the_corrupted = agrees.refuses_the_corrupted;
      refuses_by_1 = agrees.refuses_by_1;
    }

-- a carriage return and text are queued, and padding is put in between: it goes after the two copies of the command
abbrev caption : List Call
caption =
    pushing (command CarriageReturn) ∷ pushing (single 0x48) ∷ pushing (single 0x69)
    ∷ draining (replicate 6 0) 0 3 ∷ []

abbrev padded_caption : List Pair
padded_caption = carriage_return ∷ padding ∷ hi ∷ []

the_same_words : words padded_caption ≡ words (queue_pairs caption fresh_sender)
unfolding ones ones_in write_code in_domain queueable admit pair_of code_of pop push_ring pop_ring ring.well_formed well_formed push_sender send send_sender drain_sender on_line control_bytes meaning
the_same_words = refl

pub padding_after_both_copies : doubled padded_caption ≡ carriage_return ∷ carriage_return ∷ padding ∷ hi ∷ []
padding_after_both_copies = refl

-- the second copy is corrupted, so that the receiver still awaits a repeat at the padding: the line may do so, and the
-- window scrolls once
abbrev one_copy_corrupted : List Pair
one_copy_corrupted = carriage_return ∷ pair 0x94 0x2D ∷ padding ∷ hi ∷ []

pub one_copy_corrupted_is_allowed : Line (doubled padded_caption) one_copy_corrupted
unfolding ones ones_in
one_copy_corrupted_is_allowed =
    one_by_one_is_a_line (doubled padded_caption) one_copy_corrupted (refl, (refl, (refl, (refl, tt))))
    (one.arrives (one.is_corrupted refl refl refl (one.arrives (one.arrives one.ends))))

pub one_copy_corrupted_is_decoded : events (answers fresh one_copy_corrupted) ≡ return_event ∷ hi_event ∷ []
unfolding read_pair ones ones_in standard step event_of text_event char_of meaning control_code_of
one_copy_corrupted_is_decoded = refl

pub one_copy_corrupted_agrees : Agreement (queue_pairs caption fresh_sender) (doubled padded_caption) one_copy_corrupted
one_copy_corrupted_agrees =
    at_any_frame_rate caption padded_caption one_copy_corrupted the_same_words one_copy_corrupted_is_allowed
