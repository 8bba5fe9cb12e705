-- What is shown depends on the accepted codes alone. Read once, the queue's pairs show what their codes show, each sent
-- alone, pair by pair (`QueuedCommands` has how each is made): two single codes in one pair show what they show in two, and
-- padding shows nothing. What arrives gives the events of the queue's pairs, by the agreement. And two cases, computed: H and
-- i in one pair and in two; and that half a command is an exception.
-- Assumes nothing.
use mathlib.Core.Bool.{Bool, true, false, cond, ◌||◌, not, true≢false}
use mathlib.Core.List.{List, [], ◌∷◌, ◌++◌, append_assoc, append-nil}
use Rattle.std.specs.Prelude.{Option, None, Some}
use Rattle.std.proofs.lemmas.Option.{none-some}
use mathlib.Core.Path.{◌≡◌, refl, ap, ap₂, sym, subst, ◌∙◌}
use Prim.Native.Nat.{ℕ, ◌+◌}
use native.Mathlib.Omega.{arith}
use borrow.Author.Tests.{eqb-true, not-true}
use lib.Count.{ones, ones_in}
use lib.Dec.{eqb}
use lib.ListN.{length}
use Rattle.code.proofs.Both.{both_left, both_right}
use Rattle.code.proofs.CommandCodes.{written_says_command}
use Rattle.code.proofs.WrittenLemmas.{nul_sent, written_is_sent}
use Rattle.code.specs.Channel.{channel_one}
use Rattle.code.specs.Characters.{standard}
use Rattle.code.specs.Code.{char_of, needs_backspace}
use Rattle.code.specs.Outcome.{Outcome, answer, refused}
use Rattle.code.specs.Pair.{pair}
use Rattle.code.specs.Parity.{is_odd, stripped}
use Rattle.code.specs.Read.{control_code_of, is_command, meaning, read_pair, single}
use Rattle.code.specs.Write.{control_bytes, in_domain, is_command_code, on_line, write_code}
use Rattle.code.specs.declared.channel.Channel.{Channel}
use Rattle.code.specs.declared.code.Code.{Code}
use Rattle.code.specs.declared.code.Code.TheVariants as code
use Rattle.code.specs.declared.color.Color.TheVariants.{White}
use Rattle.code.specs.declared.control.Command.TheVariants.{RollUp2}
use Rattle.code.specs.declared.pair.Pair.{Pair}
use Rattle.code.specs.declared.preamble.PreambleAddressCode.{PreambleAddressCode}
use Rattle.code.specs.declared.preamble.PreambleType.TheVariants as style
use Rattle.event.specs.Mode.{mode_of}
use Rattle.event.specs.declared.event.Cea608.{Cea608}
use Rattle.event.specs.declared.event.Cea608.TheVariants as event
use Rattle.queue.specs.Made.{AfterHeld, IsByte, MadeOf, one_command, last_single, nothing_to_send, single_before, space_before, two_singles, has_backspace, is_half_command}
use Rattle.queue.specs.Number.{code_of}
use Rattle.queue.specs.Queue.{Queued, admit, count, held_codes, inside, pair_of, pair_written, pop}
use Rattle.queue.specs.Queueable.{queueable}
use Rattle.queue.specs.Ring.{pop_ring, push_ring}
use Rattle.queue.specs.Ring as ring
use Rattle.receiver.proofs.Step.{text_once}
use Rattle.receiver.specs.Heard.{event_of, text_event, text_of}
use Rattle.receiver.specs.Reading.{after_once, answers, events, once, read_once}
use Rattle.receiver.specs.Receiver.{fresh, heard_text, step, text_for}
use Rattle.receiver.specs.declared.state.Cea608State.{Cea608State}
use Rattle.receiver.specs.declared.state.LastChannel.{LastChannel}
use Rattle.receiver.specs.declared.state.LastChannel.TheVariants as channel
use Rattle.sender.proofs.FirstInFirstOut.{calls_stay_good}
use Rattle.sender.proofs.Refines.{fresh_good, said_idle}
use Rattle.sender.specs.Calls.{Call, pushing, sending, sender_after}
use Rattle.sender.specs.Sender.{fresh_sender, idle_sender, push_sender, send_sender, view, well_formed}
use Rattle.sender.specs.Sending.{none_owed, send}
use Rattle.agreement.proofs.Agreement.{agreement}
use Rattle.agreement.proofs.AnyFrameRate.{at_any_frame_rate, same_once}
use Rattle.agreement.proofs.DecodedOnce.{Same}
use Rattle.agreement.proofs.Limits.{command, half_a_command, mode_event}
use Rattle.agreement.proofs.Padding.{after_padding, padding_once}
use Rattle.agreement.proofs.QueuedCommands.{queued_commands}
use Rattle.agreement.specs.Agreement.{Agreement, All, EndsIdle, queue_pairs, sent_by}
use Rattle.agreement.specs.Pairs.{hi, padding, roll_up2, space_alone}
use Rattle.agreement.specs.QueuedCommands.{HeldNext, Packed, WellPacked, accepted_in, codes_in, packed, pairs_in}
use Rattle.agreement.specs.Shown.{as_sent, padded_anew, Shows, ShownLaw, TwoRunsLaw, WholeRun, each_alone, no_half_command, by_character, shown}
use Rattle.code.specs.KnownCodes.{letter_h, letter_i}

-- what an answer shows stands before what the answers after it show
abbrev shown_by : Outcome (Option Cea608) → List Cea608
shown_by o = shown (events (o ∷ []))

shown_first : (o : Outcome (Option Cea608)) (os : List (Outcome (Option Cea608))) → shown (events (o ∷ os)) ≡ shown_by o ++ shown (events os)
shown_first (answer None) os = refl
shown_first (answer (Some e)) os = ap (λ (l : List Cea608). l ++ shown (events os)) (sym (append-nil (by_character e)))
shown_first (refused n) os = refl

-- two streams that show the same, read once from states of one channel and field, and end in such states
abbrev pub Alike : List Pair → List Pair → Type 0
Alike ps qs =
    (s t : Cea608State) → Same s t → (shown (events (read_once s ps)) ≡ shown (events (read_once t qs))) × Same (after_once s ps) (after_once t qs)

same_first : (p : Pair) (ps qs : List Pair) → Alike ps qs → Alike (p ∷ ps) (p ∷ qs)
same_first p ps qs go s t same =
    let now = same_once s t p same in
    let later = go (once s p).1 (once t p).1 now.1 in (
      shown_first (once s p).0 (read_once (once s p).1 ps) ∙ ap₂ (λ (o : Outcome (Option Cea608)) (l : List Cea608). shown_by o ++ l) now.0 later.0 ∙ sym (shown_first (once t p).0 (read_once (once t p).1 qs)),
      later.1,
    )

padding_first : (ps qs : List Pair) → Alike ps qs → Alike (padding ∷ ps) qs
padding_first ps qs go s t same =
    rw (padding_once s) (go (after_padding s) t (record { channel = same.channel; field = same.field }))

-- a text of two characters shows what its two show
apart : (ch : Channel) (c d : Option ℕ) → shown_by (answer (text_of ch c d)) ≡ shown_by (answer (text_of ch c None)) ++ shown_by (answer (text_of ch d None))
apart ch None None = refl
apart ch None (Some d) = refl
apart ch (Some c) None = refl
apart ch (Some c) (Some d) = refl

abbrev shown_alone : LastChannel → Code → List Cea608
shown_alone l x = shown_by (answer (text_for l x code.Nul))

text_apart : (l : LastChannel) (x y : Code) → shown_by (answer (text_for l x y)) ≡ shown_alone l x ++ shown_alone l y
unfolding text_event char_of
text_apart channel.Absent x y = refl
text_apart (channel.Known ch) x y = apart ch (char_of x) (char_of y)

-- so a pair of two single bytes shows what they show, each with 0x80 after it
record TextByte (a : ℕ) : Type 0 where
  odd : is_odd a ≡ true
  text : is_command (stripped a) ≡ false

two_texts : (a b : ℕ) (ps qs : List Pair) → TextByte a → TextByte b → Alike ps qs → Alike (pair a b ∷ ps) (pair a 0x80 ∷ pair b 0x80 ∷ qs)
two_texts a b ps qs first second go s t same =
    let x = single (stripped a) in
    let y = single (stripped b) in
    let l = t.last_channel in
    let s1 = (heard_text s (pair a b) x y).1 in
    let t1 = (heard_text t (pair a 0x80) x code.Nul).1 in
    let t2 = (heard_text t1 (pair b 0x80) y code.Nul).1 in
    let both = text_once s (pair a b) first.odd second.odd first.text in
    let one : once t (pair a 0x80) ≡ heard_text t (pair a 0x80) x code.Nul = text_once t (pair a 0x80) first.odd nul_sent.odd first.text in
    let two : once t1 (pair b 0x80) ≡ heard_text t1 (pair b 0x80) y code.Nul = text_once t1 (pair b 0x80) second.odd nul_sent.odd second.text in
    let later = go s1 t2 (record { channel = same.channel; field = same.field }) in
    rw (both, one, two) (
      shown_first (answer (text_for s.last_channel x y)) (read_once s1 ps)
          ∙ ap₂ (λ (o : LastChannel) (r : List Cea608). shown_by (answer (text_for o x y)) ++ r) same.channel later.0
          ∙ ap (λ (r : List Cea608). r ++ shown (events (read_once t2 qs))) (text_apart l x y)
          ∙ append_assoc (shown_alone l x) (shown_alone l y) (shown (events (read_once t2 qs)))
          ∙ ap (λ (r : List Cea608). shown_alone l x ++ r) (sym (shown_first (answer (text_for l y code.Nul)) (read_once t2 qs)))
          ∙ sym (shown_first (answer (text_for l x code.Nul)) (answer (text_for l y code.Nul) ∷ read_once t2 qs)),
      later.1,
    )

space_is_text : TextByte 0x20
unfolding ones ones_in
space_is_text = record { odd = refl; text = refl }

-- a single code that is not half a command is such a byte
no_command_by : (x : Code) (a : ℕ) → IsByte x a → is_half_command x ≡ false → is_command_code x ≡ false
no_command_by code.Nul a written whole = refl
no_command_by (code.Control c) a written whole = absurd (omega (arith, (written_is_sent (code.Control c) (pair a 0x80) 1 written).1))
no_command_by (code.Letter l) a written whole = refl
no_command_by (code.Unknown b) a written whole = whole

byte_is_text : (x : Code) (a : ℕ) → IsByte x a → is_half_command x ≡ false → TextByte a
byte_is_text x a written whole = record {
  odd = (written_is_sent x (pair a 0x80) 1 written).0.first.odd;
  text = written_says_command x (pair a 0x80) 1 written ∙ no_command_by x a written whole;
}

-- what is still to be shown: of a held code the space is out
abbrev to_come : Option Code → List Code → List Pair
to_come None codes = each_alone codes
to_come (Some c) [] = []
to_come (Some c) (x ∷ codes) = pair_of x ∷ each_alone codes

-- a held code is the next
abbrev HeldFirst : Option Code → List Code → Type 0
HeldFirst None codes = Unit
HeldFirst (Some c) codes = (rest : List Code) × (codes ≡ c ∷ rest)

written_as : (x : Code) (p : Pair) (n : ℕ) → write_code x ≡ answer (p, n) → pair_of x ≡ p
unfolding pair_of
written_as x p n e = ap pair_written e

-- a code whose space is out, or that needs none
bare : (x : Code) (codes : List Code) → needs_backspace x ≡ false → each_alone (x ∷ codes) ≡ pair_of x ∷ each_alone codes
bare x codes e = rw e refl

neither : (t u : Bool) → (t || u) ≡ false → (t ≡ false) × (u ≡ false)
neither true u e = absurd (true≢false e)
neither false u e = (refl, e)

first_bare : (before : Option Code) (x : Code) (taken codes : List Code) → AfterHeld before (x ∷ taken) → to_come before (x ∷ codes) ≡ pair_of x ∷ each_alone codes
first_bare None x taken codes after = bare x codes (neither (needs_backspace x) (has_backspace taken) after).0
first_bare (Some c) x taken codes after = refl

first_as : (before : Option Code) (x : Code) (p : Pair) (n : ℕ) (taken codes : List Code) → write_code x ≡ answer (p, n) → AfterHeld before (x ∷ taken) → to_come before (x ∷ codes) ≡ p ∷ each_alone codes
first_as before x p n taken codes written after =
    first_bare before x taken codes after ∙ ap (λ (q : Pair). q ∷ each_alone codes) (written_as x p n written)

second_bare : (before : Option Code) (x y : Code) → AfterHeld before (x ∷ y ∷ []) → needs_backspace y ≡ false
second_bare None x y after =
    (neither (needs_backspace y) false (neither (needs_backspace x) (needs_backspace y || false) after).1).0
second_bare (Some c) x y after = absurd (omega (arith, ap length after))

whole_by : (x : Code) (codes : List Code) → no_half_command (x ∷ codes) ≡ true → is_half_command x ≡ false
whole_by x codes whole = not-true (is_half_command x) (both_left (not (is_half_command x)) (no_half_command codes) whole)

whole_after : (x : Code) (codes : List Code) → no_half_command (x ∷ codes) ≡ true → no_half_command codes ≡ true
whole_after x codes whole = both_right (not (is_half_command x)) (no_half_command codes) whole

module _ (ps : List Pair) (codes : List Code) where
  -- the space before a command that is now held
  space_out : (c : Code) → needs_backspace c ≡ true → HeldFirst (Some c) codes → each_alone codes ≡ space_alone ∷ to_come (Some c) codes
  space_out c needs (rest, is) = rw is (rw needs refl)

  none_out : (c : Code) → needs_backspace c ≡ false → HeldFirst (Some c) codes → each_alone codes ≡ to_come (Some c) codes
  none_out c needs (rest, is) = rw is (rw needs refl)

  single_shown : (c : Code) (a : ℕ) (t : Bool) → needs_backspace c ≡ t → TextByte a → HeldFirst (Some c) codes → Alike ps (to_come (Some c) codes) → Alike (pair a (cond t 0x20 0x80) ∷ ps) (pair a 0x80 ∷ each_alone codes)
  single_shown c a true needs text next go =
      subst (λ (l : List Pair). Alike (pair a 0x20 ∷ ps) (pair a 0x80 ∷ l)) (sym (space_out c needs next))
      (two_texts a 0x20 ps (to_come (Some c) codes) text space_is_text go)
  single_shown c a false needs text next go =
      subst (λ (l : List Pair). Alike (pair a 0x80 ∷ ps) (pair a 0x80 ∷ l)) (sym (none_out c needs next))
      (same_first (pair a 0x80) ps (to_come (Some c) codes) go)

  -- a pair shows what its codes show, and the space before the command that is then held
  by_made : (before : Option Code) {p : Pair} {taken : List Code} {left : Queued} → MadeOf p taken left → AfterHeld before taken → no_half_command (taken ++ codes) ≡ true → HeldFirst left.held codes → Alike ps (to_come left.held codes) → Alike (p ∷ ps) (to_come before (taken ++ codes))
  by_made None nothing_to_send after whole next go = padding_first ps (each_alone codes) go
  by_made (Some d) nothing_to_send after whole next go = absurd (omega (arith, ap length after))
  by_made None (space_before c rest needs) after whole next go =
      subst (Alike (space_alone ∷ ps)) (sym (space_out c needs next)) (same_first space_alone ps (to_come (Some c) codes) go)
  by_made (Some d) (space_before c rest needs) after whole next go = absurd (omega (arith, ap length after))
  by_made before (last_single x a written) after whole next go =
      subst (Alike (pair a 0x80 ∷ ps)) (sym (first_as before x (pair a 0x80) 1 [] codes written after))
      (same_first (pair a 0x80) ps (each_alone codes) go)
  by_made before (single_before x c a rest written two) after whole next go =
      subst (Alike (pair a (cond (needs_backspace c) 0x20 0x80) ∷ ps)) (sym (first_as before x (pair a 0x80) 1 [] codes written after))
      (single_shown c a (needs_backspace c) refl (byte_is_text x a written (whole_by x codes whole)) next go)
  by_made before (two_singles x y a b rest written other) after whole next go =
      subst (Alike (pair a b ∷ ps))
      (sym
      (first_as before x (pair a 0x80) 1 (y ∷ []) (y ∷ codes) written after
      ∙ ap (λ (l : List Pair). pair a 0x80 ∷ l) (first_as None y (pair b 0x80) 1 [] codes other (rw (second_bare before x y after) refl))))
      (two_texts a b ps (each_alone codes) (byte_is_text x a written (whole_by x (y ∷ codes) whole))
      (byte_is_text y b other (whole_by y codes (whole_after x (y ∷ codes) whole)))
      go)
  by_made before (one_command c p rest written) after whole next go =
      subst (Alike (p ∷ ps)) (sym (first_as before c p 2 [] codes written after)) (same_first p ps (each_alone codes) go)

-- so do all of them, where nothing is held at the end
held_next : (h : Option Code) (ms : List Packed) → HeldNext h ms None → HeldFirst h (codes_in ms)
held_next None ms held = tt
held_next (Some c) [] held = absurd (none-some c (sym held))
held_next (Some c) (m ∷ ms) held = (codes_in ms, ap (λ (l : List Code). l ++ codes_in ms) held.0)

whole_later : (taken codes : List Code) → no_half_command (taken ++ codes) ≡ true → no_half_command codes ≡ true
whole_later [] codes whole = whole
whole_later (x ∷ taken) codes whole = whole_later taken codes (whole_after x (taken ++ codes) whole)

nothing_to_come : (before : Option Code) → before ≡ None → Alike [] (to_come before [])
nothing_to_come None e s t same = (refl, same)
nothing_to_come (Some c) e s t same = (refl, same)

packed_show_their_codes : (before : Option Code) (ms : List Packed) → All WellPacked ms → HeldNext before ms None → no_half_command (codes_in ms) ≡ true → Alike (pairs_in ms) (to_come before (codes_in ms))
packed_show_their_codes before [] all held whole = nothing_to_come before held
packed_show_their_codes before (m ∷ ms) all held whole =
    by_made (pairs_in ms) (codes_in ms) before all.0.is_made_of held.0 whole (held_next m.left.held ms held.1)
    (packed_show_their_codes m.left.held ms all.1 held.1 (whole_later m.codes (codes_in ms) whole))

-- once idle, nothing is inside
nothing_held : (h : Option Code) (n : ℕ) → n + length (held_codes h) ≡ 0 → h ≡ None
nothing_held None n e = refl
nothing_held (Some c) n e = absurd (omega (arith, e))

nothing_waits : (l : List Code) (n : ℕ) → length l + n ≡ 0 → l ≡ []
nothing_waits [] n e = refl
nothing_waits (x ∷ l) n e = absurd (omega (arith, e))

nothing_inside : (q : Queued) → count q ≡ 0 → inside q ≡ []
nothing_inside q e =
    ap₂ (λ (h : Option Code) (l : List Code). held_codes h ++ l) (nothing_held q.held (length q.waiting) e) (nothing_waits q.waiting (length (held_codes q.held)) e)

none_left : (calls : List Call) → EndsIdle calls → count (view (sender_after calls fresh_sender)).queue ≡ 0
none_left calls idle =
    let end = view (sender_after calls fresh_sender) in
    let is_idle_lem = said_idle (sender_after calls fresh_sender) (calls_stay_good calls fresh_sender fresh_good) idle in
    eqb-true (count end.queue) 0 (both_left (eqb (count end.queue) 0) (none_owed end.repeats) is_idle_lem)

-- so the queue's pairs show what the accepted codes show, each sent alone
pub queue_shows_its_codes : (calls : List Call) → WholeRun calls → Alike (queue_pairs calls fresh_sender) (each_alone (accepted_in calls))
queue_shows_its_codes calls run =
    let law = queued_commands calls run.has_no_reset in
    let ms = packed calls fresh_sender in
    let end = (view (sender_after calls fresh_sender)).queue in
    let left = none_left calls run.ends_idle in
    let codes : codes_in ms ≡ accepted_in calls =
    sym (append-nil (codes_in ms)) ∙ ap (λ (l : List Code). codes_in ms ++ l) (sym (nothing_inside end left)) ∙ law.all_codes in
    let held = subst (HeldNext None ms) (nothing_held end.held (length end.waiting) left) law.held_is_next in
    let whole = ap no_half_command codes ∙ run.has_no_half_command in
    subst (λ (l : List Pair). Alike l (each_alone (accepted_in calls))) law.all_pairs
    (subst (λ (l : List Code). Alike (pairs_in ms) (each_alone l)) codes (packed_show_their_codes None ms law.well_packed held whole))

-- and what arrives gives the events of the queue's pairs
shows_by : (calls : List Call) (sent arrived : List Pair) → WholeRun calls → Agreement (queue_pairs calls fresh_sender) sent arrived → Shows arrived (accepted_in calls)
shows_by calls sent arrived run agrees =
    let alike = queue_shows_its_codes calls run fresh fresh (record { channel = refl; field = refl }) in
    record {
      same_characters = ap shown agrees.same_events ∙ alike.0;
      same_channel = agrees.same_channel ∙ alike.1.channel;
      same_field = agrees.same_field ∙ alike.1.field;
    }

pub shown_law : ShownLaw
shown_law calls sent arrived run as_sent line =
    shows_by calls _ arrived run (agreement calls arrived run.has_no_reset run.ends_idle line)
shown_law calls sent arrived run (padded_anew padded same) line =
    shows_by calls _ arrived run (at_any_frame_rate calls padded arrived same line)

pub two_runs_show_the_same : TwoRunsLaw
two_runs_show_the_same calls calls' sent sent' arrived arrived' run run' same out out' line line' =
    let one = shown_law calls sent arrived run out line in
    let other = subst (Shows arrived') (sym same) (shown_law calls' sent' arrived' run' out' line') in
    record {
      same_characters = one.same_characters ∙ sym other.same_characters;
      same_channel = one.same_channel ∙ sym other.same_channel;
      same_field = one.same_field ∙ sym other.same_field;
    }

-- H and i, each sent once it is pushed, and both pushed first: the pairs differ, and so do the events
abbrev one_at_a_time : List Call
one_at_a_time =
    pushing (command RollUp2) ∷ sending ∷ sending ∷ pushing letter_h ∷ sending ∷ pushing letter_i ∷ sending ∷ []

abbrev all_at_once : List Call
all_at_once = pushing (command RollUp2) ∷ pushing letter_h ∷ pushing letter_i ∷ sending ∷ sending ∷ sending ∷ []

pub hi_in_two_pairs : sent_by one_at_a_time fresh_sender ≡ roll_up2 ∷ roll_up2 ∷ pair 0xC8 0x80 ∷ pair 0xE9 0x80 ∷ []
unfolding ones ones_in write_code in_domain queueable admit pair_of code_of pop push_ring pop_ring ring.well_formed well_formed push_sender send send_sender on_line control_bytes meaning
hi_in_two_pairs = refl

pub hi_in_one_pair : sent_by all_at_once fresh_sender ≡ roll_up2 ∷ roll_up2 ∷ hi ∷ []
unfolding ones ones_in write_code in_domain queueable admit pair_of code_of pop push_ring pop_ring ring.well_formed well_formed push_sender send send_sender on_line control_bytes meaning
hi_in_one_pair = refl

-- both are whole runs that let in the same codes
pub both_let_in_hi : WholeRun one_at_a_time × WholeRun all_at_once × (accepted_in one_at_a_time ≡ accepted_in all_at_once)
unfolding ones ones_in write_code in_domain queueable admit pair_of code_of pop push_ring pop_ring ring.well_formed well_formed push_sender send send_sender idle_sender on_line control_bytes meaning
both_let_in_hi = (
  record { has_no_reset = refl; ends_idle = refl; has_no_half_command = refl },
  record { has_no_reset = refl; ends_idle = refl; has_no_half_command = refl },
  refl,
)

-- and both show the new mode, H and i
abbrev one_letter : ℕ → Cea608
one_letter c = event.Text (record { needs_backspace = false; char1 = Some c; char2 = None; channel = channel_one })

pub what_hi_shows :
    (shown (events (answers fresh (roll_up2 ∷ roll_up2 ∷ pair 0xC8 0x80 ∷ pair 0xE9 0x80 ∷ []))) ≡ mode_event ∷ one_letter 0x48 ∷ one_letter 0x69 ∷ [])
    × (shown (events (answers fresh (roll_up2 ∷ roll_up2 ∷ hi ∷ []))) ≡ mode_event ∷ one_letter 0x48 ∷ one_letter 0x69 ∷ [])
unfolding read_pair ones ones_in standard step event_of text_event mode_of char_of meaning control_code_of
what_hi_shows = (refl, refl)

abbrev row_13_underlined : PreambleAddressCode
row_13_underlined = record { row = 13; underline = true; ty = style.Color White }

-- half a command is an exception: `Unknown` 14, sent once it is pushed, shows nothing, and A after it is text; both pushed
-- first go out as one command, a preamble
abbrev half_sent_first : List Call
half_sent_first =
    pushing (code.Unknown 0x14) ∷ sending ∷ sending ∷ pushing (single 0x41) ∷ sending ∷ []

pub half_a_command_apart : (sent_by half_sent_first fresh_sender ≡ pair 0x94 0x80 ∷ pair 0x94 0x80 ∷ pair 0xC1 0x80 ∷ []) × (accepted_in half_sent_first ≡ accepted_in half_a_command) × (no_half_command (accepted_in half_a_command) ≡ false)
unfolding ones ones_in write_code in_domain queueable admit pair_of code_of pop push_ring pop_ring ring.well_formed well_formed push_sender send send_sender
half_a_command_apart = (refl, refl, refl)

pub half_a_command_shows_another :
    (shown (events (answers fresh (pair 0x94 0x80 ∷ pair 0x94 0x80 ∷ pair 0xC1 0x80 ∷ []))) ≡ one_letter 0x41 ∷ [])
    × (shown (events (answers fresh (pair 0x94 0xC1 ∷ pair 0x94 0xC1 ∷ []))) ≡ event.Preamble channel_one row_13_underlined ∷ [])
unfolding read_pair ones ones_in standard step event_of text_event char_of meaning control_code_of
half_a_command_shows_another = (refl, refl)
