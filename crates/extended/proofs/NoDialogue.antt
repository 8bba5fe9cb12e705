-- An event comes of a command, or of text where captions run, and is the receiver's own. From a start on, or a continuation that
-- is not refused, no pair gives an event until a command is received, also after an end, after 14 and after 15.
-- Assumes nothing.
use Prim.Native.Nat.{ℕ, ◌<◌}
use borrow.Author.Tests.{not-true}
use mathlib.Core.Bool.{Bool, ◌&&◌, false, not, true, true≢false}
use mathlib.Core.List.{List, [], ◌∷◌}
use mathlib.Core.Logic.{◌⊎◌, inl, inr}
use Rattle.std.specs.Prelude.{Option, None, Some}
use mathlib.Core.Path.{◌≡◌, refl, ap, ap₂, sym, ◌∙◌}
use native.Mathlib.Omega.{arith}
use Rattle.code.proofs.Agree.{agree}
use Rattle.code.proofs.Both.{both_true}
use Rattle.code.proofs.OneAnswer.{clash}
use Rattle.code.specs.Outcome.{Outcome, answer, refused}
use Rattle.code.specs.Read.{is_command, is_command_pair}
use Rattle.code.specs.declared.pair.Pair.{Pair}
use Rattle.event.specs.declared.event.Cea608.{Cea608}
use Rattle.extended.proofs.Refusals.{refused_exactly_so}
use Rattle.extended.proofs.Ways as way
use Rattle.extended.proofs.Ways.{Way, heard_by, read_by_part, way_of}
use Rattle.extended.specs.Extended.{Read, Reader, event, is_type, nothing, opened, read, reported}
use Rattle.extended.specs.Part.{part_of}
use Rattle.extended.specs.Reading.{Is, after, answers, captions_run, first, given_event, is_command_received, is_event, is_refused, none_is_command, none_is_event, second}
use Rattle.extended.specs.Refusals.{no_such_packet}
use Rattle.extended.specs.declared.class.Class.{Class}
use Rattle.extended.specs.declared.part.Part.TheVariants as part
use Rattle.extended.specs.declared.part.Part.{Part}

-- a command's part is a command's first byte
abbrev is_command_part : Part → Bool
is_command_part part.Command = true
is_command_part (part.Start c) = false
is_command_part (part.Continuation c) = false
is_command_part part.End = false
is_command_part part.Other = false

command_parts : (a : ℕ) → a < 128 → is_command a ≡ is_command_part (part_of a)
unfolding part_of
command_parts a less = agree is_command (λ (b : ℕ). is_command_part (part_of b)) 128 refl a less

is_received : (p : Pair) → Is part.Command p → is_command_received p ≡ true
is_received p is =
    let command : is_command_pair p ≡ true = command_parts (first p) (omega arith) ∙ ap is_command_part is.part in
    ap₂ (λ (t u : Bool). t && u) is.odd command

-- an event is of a caption: of a command, or of text where captions run
abbrev pub IsCaption : Reader → Pair → Type 0
IsCaption s p = Is part.Command p ⊎ (Is part.Other p × (captions_run s.running ≡ true))

no_event : (e : Cea608) → ◌≡◌ {A = Option Cea608} None (Some e) → ⊥
no_event e same_event = let z : ◌≡◌ {A = ℕ} 0 1 = cc in absurd (omega arith)

heard_event : (o : Outcome (Option Cea608)) (e : Cea608) → reported o ≡ answer (event e) → o ≡ answer (Some e)
heard_event (answer None) e x = absurd (no_event e (ap given_event x))
heard_event (answer (Some y)) e x = ap answer (ap given_event x)
heard_event (refused n) e x = absurd (clash (sym x))

module _ (s : Reader) (p : Pair) (e : Cea608) where
  event_way : (r : Read) → Way s p r → r.0 ≡ answer (event e) → IsCaption s p × ((heard_by s p).0 ≡ answer (Some e))
  event_way _ (way.corrupted even) x = absurd (clash (sym x))
  event_way _ (way.acts is) x = (inl is, heard_event (heard_by s p).0 e x)
  event_way _ (way.is_text_lem is runs) x = (inr (is, ap captions_run runs), heard_event (heard_by s p).0 e x)
  event_way _ (way.starts c is) x = absurd (no_event e (ap given_event x))
  event_way _ (way.continues c is there) x = absurd (no_event e (ap given_event x))
  event_way _ (way.no_such_packet c is there) x = absurd (clash (sym x))
  event_way _ (way.ends_in_captions is runs) x = absurd (clash (sym x))
  event_way _ (way.ends_without_packet c is runs there) x = absurd (clash (sym x))
  event_way _ (way.finishes c k is runs there right) x = absurd (no_event e (ap given_event x))
  event_way _ (way.has_wrong_sum c k is runs there wrong) x = absurd (clash (sym x))
  event_way _ (way.is_passed_over c is runs there) x = absurd (no_event e (ap given_event x))
  event_way _ (way.fills c k is runs there room) x = absurd (no_event e (ap given_event x))
  event_way _ (way.is_too_long c k is runs there full) x = absurd (clash (sym x))

  pub an_event_is_of_a_caption : (read s p).0 ≡ answer (event e) → IsCaption s p × ((heard_by s p).0 ≡ answer (Some e))
  an_event_is_of_a_caption = event_way (read s p) (way_of s p)

-- no event, and captions do not run
abbrev pub Quiet : Read → Type 0
Quiet r = (is_event r.0 ≡ false) × (captions_run r.1.running ≡ false)

by_way : (s : Reader) (p : Pair) → captions_run s.running ≡ false → is_command_received p ≡ false → (r : Read) → Way s p r → Quiet r
by_way s p off other _ (way.corrupted even) = (refl, off)
by_way s p off other _ (way.acts is) = absurd (true≢false (sym (is_received p is) ∙ other))
by_way s p off other _ (way.is_text_lem is runs) = absurd (true≢false (sym (ap captions_run runs) ∙ off))
by_way s p off other _ (way.starts c is) = (refl, refl)
by_way s p off other _ (way.continues c is there) = (refl, refl)
by_way s p off other _ (way.no_such_packet c is there) = (refl, off)
by_way s p off other _ (way.ends_in_captions is runs) = (refl, off)
by_way s p off other _ (way.ends_without_packet c is runs there) = (refl, off)
by_way s p off other _ (way.finishes c k is runs there right) = (refl, off)
by_way s p off other _ (way.has_wrong_sum c k is runs there wrong) = (refl, off)
by_way s p off other _ (way.is_passed_over c is runs there) = (refl, off)
by_way s p off other _ (way.fills c k is runs there room) = (refl, off)
by_way s p off other _ (way.is_too_long c k is runs there full) = (refl, off)

pub quiet_pair : (s : Reader) (p : Pair) → captions_run s.running ≡ false → is_command_received p ≡ false → Quiet (read s p)
quiet_pair s p off other = by_way s p off other (read s p) (way_of s p)

pub no_dialogue : (s : Reader) (ps : List Pair) → captions_run s.running ≡ false → none_is_command ps ≡ true → (none_is_event (answers s ps) ≡ true) × (captions_run (after s ps).running ≡ false)
no_dialogue s [] off others = (refl, off)
no_dialogue s (p ∷ ps) off others =
    let both = both_true (not (is_command_received p)) (none_is_command ps) others in
    let here = quiet_pair s p off (not-true (is_command_received p) both.0) in
    let rest = no_dialogue (read s p).1 ps here.1 both.1 in
    (ap₂ (λ (x y : Bool). not x && y) here.0 rest.0, rest.1)

-- a start, and a continuation that is not refused, give no event themselves, and stop the captions
quiet_from : (s : Reader) (p : Pair) (ps : List Pair) → Quiet (read s p) → none_is_command ps ≡ true → none_is_event (answers s (p ∷ ps)) ≡ true
quiet_from s p ps quiet others =
    ap₂ (λ (x y : Bool). not x && y) quiet.0 (no_dialogue (read s p).1 ps quiet.1 others).0

pub no_dialogue_from_a_start : (s : Reader) (c : Class) (p : Pair) (ps : List Pair) → Is (part.Start c) p → none_is_command ps ≡ true → none_is_event (answers s (p ∷ ps)) ≡ true
no_dialogue_from_a_start s c p ps is =
    let begun = read_by_part s p (part.Start c) is in
    quiet_from s p ps (ap (λ (r : Read). is_event r.0) begun, ap (λ (r : Read). captions_run r.1.running) begun)

goes_on_quietly : (s : Reader) (p : Pair) (c : Class) (t : Bool) → is_type (second p) (s.packets c) ≡ t → Is (part.Continuation c) p → is_refused (read s p).0 ≡ false → Quiet (read s p)
goes_on_quietly s p c true there is taken =
    let here : read s p ≡ (answer nothing, opened s (heard_by s p).1 c) = read_by_part s p (part.Continuation c) is ∙ rw there refl in
    (ap (λ (r : Read). is_event r.0) here, ap (λ (r : Read). captions_run r.1.running) here)
goes_on_quietly s p c false other is taken =
    absurd (true≢false (sym (ap (λ (r : Read). is_refused r.0) (refused_exactly_so s p 13 s (no_such_packet c is other))) ∙ taken))

pub no_dialogue_from_a_continuation : (s : Reader) (c : Class) (p : Pair) (ps : List Pair) → Is (part.Continuation c) p → is_refused (read s p).0 ≡ false → none_is_command ps ≡ true → none_is_event (answers s (p ∷ ps)) ≡ true
no_dialogue_from_a_continuation s c p ps is taken =
    quiet_from s p ps (goes_on_quietly s p c (is_type (second p) (s.packets c)) refl is taken)
