-- The frame-rate law: padding at a place changes no answer to another pair, nor the channel or the field at the end,
-- exactly where it is harmless. Each direction is a law of its own, of a state of any contents; between the two, from a state
-- that is not settled, case (d) is left open.
-- Assumes nothing.
use Rattle.code.specs.declared.channel.Field.{Field}
use mathlib.Core.Bool.{Bool, true, false, cond, not, ◌&&◌, ◌||◌, true≢false}
use mathlib.Core.List.{List, [], ◌∷◌}
use mathlib.Core.Logic.{◌⊎◌, inl, inr, ⊎_elim}
use Rattle.std.specs.Prelude.{Option, None, Some}
use Rattle.std.proofs.lemmas.Option.{same_Some}
use mathlib.Core.Path.{◌≡◌, refl, ap, subst, sym, ◌∙◌}
use Prim.Native.Nat.{ℕ}
use native.Mathlib.Omega.{arith}
use lib.Dec.{eqb}
use borrow.Author.Tests.{eqb-true}
use Rattle.code.proofs.Both.{both_true}
use Rattle.code.proofs.OneAnswer.{same}
use Rattle.code.proofs.WrittenLemmas.{command_by_first_byte, odd_is_read, read_as_command}
use Rattle.code.specs.Outcome.{Outcome, answer, refused}
use Rattle.code.specs.Parity.{is_odd, stripped}
use Rattle.code.specs.Pair.{same_pair}
use Rattle.code.specs.Read.{is_command, is_command_pair, is_odd_pair, read_pair}
use Rattle.code.specs.declared.code.Code.{Code}
use Rattle.code.specs.declared.code.Code.TheVariants as code
use Rattle.code.specs.declared.control.ControlCode.{ControlCode}
use Rattle.code.specs.declared.pair.Pair.{Pair}
use Rattle.event.specs.declared.event.Cea608.{Cea608}
use Rattle.agreement.proofs.Padding.{after_padding, padding_step}
use Rattle.agreement.specs.FrameRate.{FrameRateLaw, MayRepad, ReadAlike, SetBy, Settled, Unchanged, awaits, command_in, harmless, is_none, is_silent, next_read, repeat_is_not_next}
use Rattle.agreement.specs.Pairs.{padding}
use Rattle.agreement.proofs.OneByOne.{same_is_equal}
use Rattle.agreement.proofs.Settled.{reached_is_settled}
use Rattle.receiver.proofs.Copies.{last_is_last}
use Rattle.receiver.proofs.Step.{IsCommand, command_acts, command_once, even_is_refused_1, repeat_is_skipped}
use Rattle.receiver.specs.Heard.{event_of}
use Rattle.receiver.specs.Reading.{after, answers}
use Rattle.receiver.specs.Receiver.{after_reading, field_after, fresh, heard_codes, is_last, state, step, Stepped}
use Rattle.receiver.specs.declared.state.Cea608State.{Cea608State}
use Rattle.receiver.specs.declared.state.LastChannel.{LastChannel}
use Rattle.receiver.specs.declared.state.LastChannel.TheVariants as channel

not_both : (t u : Bool) → (t ≡ true → ⊥) → t && u ≡ false
not_both true u h = absurd (h refl)
not_both false u h = refl

-- where no repeat is awaited, a command is never the last pair
pub quiet_is_no_repeat : (p : Pair) (c : ControlCode) (y : Code) (l : Option Pair) → read_pair p.0 p.1 ≡ answer (code.Control c, y) → awaits l ≡ false → is_last p l ≡ false
quiet_is_no_repeat p c y None e quiet = refl
quiet_is_no_repeat p c y (Some q) e quiet =
    not_both (eqb q.0 p.0) (eqb q.1 p.1)
    (λ (t : eqb q.0 p.0 ≡ true).
    true≢false
    (sym (command_by_first_byte p.0 p.1 c y e)
    ∙ sym (ap (λ (b : ℕ). is_command (stripped b)) (eqb-true q.0 p.0 t))
    ∙ quiet))

-- a pair that is not the awaited repeat: another than the last pair, or none is awaited
abbrev Other : Pair → Option Pair → Type 0
Other p l = (is_last p l ≡ false) ⊎ (awaits l ≡ false)

-- such a pair is read alike from any two states of one channel and field, whatever their last pairs
module _ (p : Pair) (l m : Option Pair) (ch : LastChannel) (f : Option Field) where
  no_repeat_lem : (c : ControlCode) (y : Code) (k : Option Pair) → read_pair p.0 p.1 ≡ answer (code.Control c, y) → Other p k → is_last p k ≡ false
  no_repeat_lem c y k e = ⊎_elim (λ other. other) (λ quiet. quiet_is_no_repeat p c y k e quiet)

  codes_alike : (x y : Code) → read_pair p.0 p.1 ≡ answer (x, y) → Other p l → Other p m → heard_codes (state l ch f) p x y ≡ heard_codes (state m ch f) p x y
  codes_alike (code.Control c) y e one two = rw (no_repeat_lem c y l e one, no_repeat_lem c y m e two)
  codes_alike code.Nul y e one two = refl
  codes_alike (code.Letter k) y e one two = refl
  codes_alike (code.Unknown b) y e one two = refl

  others_alike : is_odd_pair p ≡ true → Other p l → Other p m → step (state l ch f) p ≡ step (state m ch f) p
  unfolding step
  others_alike odd one two =
      let e = odd_is_read p.0 p.1 odd in
      ap (after_reading (state l ch f) p) e
      ∙ codes_alike _ _ e one two
      ∙ sym (ap (after_reading (state m ch f) p) e)

-- a pair with the same answer from two states, which read the rest alike afterwards
module _ (s t : Cea608State) (p : Pair) (ps : List Pair) where
  abbrev channel_from : Stepped → LastChannel
  channel_from x = (after x.1 ps).last_channel

  abbrev field_from : Stepped → Option Field
  field_from x = (after x.1 ps).last_received_field

  equal_from_here : step s p ≡ step t p → ReadAlike s t (p ∷ ps)
  equal_from_here e = record {
    same_answers = ap (λ (x : Stepped). x.0 ∷ answers x.1 ps) e;
    same_channel = ap channel_from e;
    same_field = ap field_from e;
  }

  alike_from_here : (s' t' : Cea608State) (o : Outcome (Option Cea608)) → step s p ≡ (o, s') → step t p ≡ (o, t') → ReadAlike s' t' ps → ReadAlike s t (p ∷ ps)
  alike_from_here s' t' o one two a = record {
    same_answers = rw (one, two) (ap (λ (os : List (Outcome (Option Cea608))). o ∷ os) a.same_answers);
    same_channel = ap channel_from one ∙ a.same_channel ∙ sym (ap channel_from two);
    same_field = ap field_from one ∙ a.same_field ∙ sym (ap field_from two);
  }

  refused_alike : is_odd_pair p ≡ false → ReadAlike s t ps → ReadAlike s t (p ∷ ps)
  refused_alike even a = alike_from_here s t (refused 1) (even_is_refused_1 s p even) (even_is_refused_1 t p even) a

-- the cases (a), (b) and (c)
by_cases : (w r : Bool) → (not w || false || not r) ≡ true → (r ≡ false) ⊎ (w ≡ false)
by_cases true true e = absurd (true≢false (sym e))
by_cases true false e = inl refl
by_cases false r e = inr refl

module _ (s : Cea608State) where
  no_repeat_alike : (rest : List Pair) → repeat_is_not_next s.last_data (next_read rest) ≡ true → ReadAlike s (after_padding s) rest
  no_repeat_alike [] h = record { same_answers = refl; same_channel = refl; same_field = refl }
  no_repeat_alike (p ∷ ps) h = first (is_odd_pair p) refl h (no_repeat_alike ps)
    where
      first : (t : Bool) → is_odd_pair p ≡ t → repeat_is_not_next s.last_data (cond t (Some p) (next_read ps)) ≡ true → (repeat_is_not_next s.last_data (next_read ps) ≡ true → ReadAlike s (after_padding s) ps) → ReadAlike s (after_padding s) (p ∷ ps)
      first true odd is go =
          equal_from_here s (after_padding s) p ps
          (others_alike p s.last_data (Some padding) s.last_channel s.last_received_field odd
          (by_cases (awaits s.last_data) (is_last p s.last_data) is) (inr refl))
      first false even is go = refused_alike s (after_padding s) p ps even (go is)

-- a command pair that is not refused
read_so : (p : Pair) → is_odd_pair p ≡ true → is_command_pair p ≡ true → IsCommand p (command_in p)
read_so p odd is =
    let b = both_true (is_odd p.0) (is_odd p.1) odd in
    (code.Nul, read_as_command p.0 p.1 b.0 b.1 is)

-- the case (d): a command that has no event, whose channel and field are set already, and two states of which each has it
-- for the last pair or awaits no repeat
module _ (p : Pair) (odd : is_odd_pair p ≡ true) (is : is_command_pair p ≡ true) (ch : LastChannel) (f : Option Field) where
  abbrev Near : Option Pair → Type 0
  Near l = (l ≡ Some p) ⊎ (awaits l ≡ false)

  -- it leaves such a state, whether it acts or is skipped
  record Silently (l : Option Pair) : Type 0 where
    left : Option Pair
    near : Near left
    steps : step (state l ch f) p ≡ (answer None, state left ch f)

  module _ (silent : event_of (command_in p) ≡ None) (ch_set : channel.Known (command_in p).channel ≡ ch) (f_set : field_after (command_in p).field f ≡ f) where
    silently : (l : Option Pair) → Near l → Silently l
    silently l (inl e) = record {
      left = None;
      near = inr refl;
      steps = repeat_is_skipped (state l ch f) p (command_in p) (read_so p odd is) (ap (is_last p) e ∙ last_is_last p);
    }
    silently l (inr quiet) = record {
      left = Some p;
      near = inl refl;
      steps =
          command_acts (state l ch f) p (command_in p) (read_so p odd is) (quiet_is_no_repeat p (command_in p) (read_so p odd is).0 l (read_so p odd is).1 quiet)
          ∙ rw (silent, ch_set, f_set);
    }

    near_other : (q : Pair) (l : Option Pair) → same_pair p q ≡ false → Near l → Other q l
    near_other q l e (inl was) = inl (ap (is_last q) was ∙ e)
    near_other q l e (inr quiet) = inr quiet

    silent_alike : (rest : List Pair) (l m : Option Pair) → Near l → Near m → ReadAlike (state l ch f) (state m ch f) rest
    silent_alike [] l m nl nm = record { same_answers = refl; same_channel = refl; same_field = refl }
    silent_alike (q ∷ qs) l m nl nm =
        first (is_odd_pair q) (same_pair p q) refl refl (silent_alike qs)
      where
        first : (o e : Bool) → is_odd_pair q ≡ o → same_pair p q ≡ e → ((l m : Option Pair) → Near l → Near m → ReadAlike (state l ch f) (state m ch f) qs) → ReadAlike (state l ch f) (state m ch f) (q ∷ qs)
        first false e even k go = refused_alike (state l ch f) (state m ch f) q qs even (go l m nl nm)
        first true false fine k go =
            equal_from_here (state l ch f) (state m ch f) q qs
            (others_alike q l m ch f fine (near_other q l k nl) (near_other q m k nm))
        first true true fine k go =
            let one = silently l nl in
            let two = silently m nm in
            rw (← same_is_equal p q k)
            (alike_from_here (state l ch f) (state m ch f) p qs (state one.left ch f) (state two.left ch f) (answer None)
            one.steps two.steps (go one.left two.left one.near two.near))

-- where none of (a), (b) and (c) holds, the awaited repeat is next
record RepeatNext (l : Option Pair) (next : Option Pair) : Type 0 where
  awaited : Pair
  is_last_lem : l ≡ Some awaited
  is_next : next ≡ Some awaited
  command : is_command_pair awaited ≡ true

none_next : (w : Bool) → (not w || true || false) ≡ false → ⊥
none_next true e = true≢false e
none_next false e = true≢false e

both_so : (w r : Bool) → (not w || false || not r) ≡ false → (w ≡ true) × (r ≡ true)
both_so true true e = (refl, refl)
both_so true false e = absurd (true≢false e)
both_so false r e = absurd (true≢false e)

repeat_next : (l : Option Pair) (next : Option Pair) → repeat_is_not_next l next ≡ false → RepeatNext l next
repeat_next None next e = absurd (true≢false e)
repeat_next (Some p) None e = absurd (none_next (is_command_pair p) e)
repeat_next (Some p) (Some q) e =
    let so = both_so (is_command_pair p) (same_pair p q) e in
    record { awaited = p; is_last_lem = refl; is_next = ap {B = Option Pair} Some (sym (same_is_equal p q so.1)); command = so.0 }

next_is_odd : (rest : List Pair) (p : Pair) → next_read rest ≡ Some p → is_odd_pair p ≡ true
next_is_odd [] p e = absurd (let z : ◌≡◌ {A = ℕ} 0 1 = cc in omega arith)
next_is_odd (q ∷ qs) p e = first (is_odd_pair q) refl e (next_is_odd qs p)
  where
    first : (t : Bool) → is_odd_pair q ≡ t → cond t (Some q) (next_read qs) ≡ Some p → (next_read qs ≡ Some p → is_odd_pair p ≡ true) → is_odd_pair p ≡ true
    first true odd is go = ap is_odd_pair (sym (same_Some q p is)) ∙ odd
    first false even is go = go is

no_event : (o : Option Cea608) → is_none o ≡ true → o ≡ None
no_event None e = refl
no_event (Some x) e = absurd (true≢false (sym e))

-- one direction, from a state of any contents
module _ (s : Cea608State) (rest : List Pair) where
  silent_repeat : (p : Pair) → s.last_data ≡ Some p → is_odd_pair p ≡ true → is_command_pair p ≡ true → SetBy (Some p) s → is_silent (Some p) ≡ true → ReadAlike s (after_padding s) rest
  silent_repeat p was odd is set silent =
      let acted = command_once s p (command_in p) (read_so p odd is) in
      silent_alike p odd is s.last_channel s.last_received_field (no_event (event_of (command_in p)) silent)
      (sym (ap (λ (x : Stepped). x.1.last_channel) acted) ∙ set.0)
      (sym (ap (λ (x : Stepped). x.1.last_received_field) acted) ∙ set.1)
      rest s.last_data (Some padding) (inl was) (inr refl)

  repadded_alike : (t : Bool) → repeat_is_not_next s.last_data (next_read rest) ≡ t → (t || is_silent s.last_data) ≡ true → (t ≡ false → Settled s) → ReadAlike s (after_padding s) rest
  repadded_alike true e fine settled = no_repeat_alike s rest e
  repadded_alike false e fine settled =
      let r = repeat_next s.last_data (next_read rest) e in
      silent_repeat r.awaited r.is_last_lem (next_is_odd rest r.awaited r.is_next) r.command
      (subst (λ (l : Option Pair). SetBy l s) r.is_last_lem (settled refl))
      (subst (λ (l : Option Pair). is_silent l ≡ true) r.is_last_lem fine)

  pub may_repad_changes_nothing : MayRepad s rest → Unchanged s rest
  may_repad_changes_nothing may =
      rw (padding_step s)
      (repadded_alike (repeat_is_not_next s.last_data (next_read rest)) refl may.does_no_harm may.is_settled)

-- The other direction: padding before an awaited repeat makes it act, so the answer to it stays the same only where the
-- command has no event.
heads_equal : {A : Type 0} {x y : A} {xs ys : List A} → (x ∷ xs) ≡ (y ∷ ys) → x ≡ y
heads_equal e = cc

tails_equal : {A : Type 0} {x y : A} {xs ys : List A} → (x ∷ xs) ≡ (y ∷ ys) → xs ≡ ys
tails_equal e = cc

module _ (s : Cea608State) (p : Pair) (was : s.last_data ≡ Some p) (is : is_command_pair p ≡ true) where
  silent_if_unnoticed : is_odd_pair p ≡ true → (step s p).0 ≡ (step (after_padding s) p).0 → event_of (command_in p) ≡ None
  silent_if_unnoticed odd e =
      let k = read_so p odd is in
      let skipped = repeat_is_skipped s p (command_in p) k (ap (is_last p) was ∙ last_is_last p) in
      let acted = command_acts (after_padding s) p (command_in p) k (quiet_is_no_repeat p (command_in p) k.0 (Some padding) k.1 refl) in
      sym
      (same
      (sym (ap (λ (x : Stepped). x.0) skipped) ∙ e ∙ ap (λ (x : Stepped). x.0) acted))

  silent_if_unchanged : (rest : List Pair) → next_read rest ≡ Some p → answers s rest ≡ answers (after_padding s) rest → event_of (command_in p) ≡ None
  silent_if_unchanged [] next e = absurd (let z : ◌≡◌ {A = ℕ} 0 1 = cc in omega arith)
  silent_if_unchanged (q ∷ qs) next e = first (is_odd_pair q) refl next (silent_if_unchanged qs)
    where
      first : (t : Bool) → is_odd_pair q ≡ t → cond t (Some q) (next_read qs) ≡ Some p → (next_read qs ≡ Some p → answers s qs ≡ answers (after_padding s) qs → event_of (command_in p) ≡ None) → event_of (command_in p) ≡ None
      first false even is_next go =
          go is_next (tails_equal (rw (even_is_refused_1 s q even, even_is_refused_1 (after_padding s) q even) at e))
      first true odd is_next go =
          let q_is_p = same_Some q p is_next in
          silent_if_unnoticed (subst (λ (x : Pair). is_odd_pair x ≡ true) q_is_p odd)
          (subst (λ (x : Pair). (step s x).0 ≡ (step (after_padding s) x).0) q_is_p (heads_equal e))

module _ (s : Cea608State) (rest : List Pair) where
  silent_or_not_next : (t : Bool) → repeat_is_not_next s.last_data (next_read rest) ≡ t → answers s rest ≡ answers (after_padding s) rest → (t || is_silent s.last_data) ≡ true
  silent_or_not_next true e unchanged = refl
  silent_or_not_next false e unchanged =
      let r = repeat_next s.last_data (next_read rest) e in
      ap is_silent r.is_last_lem
      ∙ ap is_none (silent_if_unchanged s r.awaited r.is_last_lem r.command rest r.is_next unchanged)

  pub unchanged_is_harmless : Unchanged s rest → harmless s rest ≡ true
  unchanged_is_harmless u =
      silent_or_not_next (repeat_is_not_next s.last_data (next_read rest)) refl
      (u.same_answers ∙ ap (λ (x : Stepped). answers x.1 rest) (padding_step s))

-- from a fresh receiver on, harmless is enough
pub reached_may_repad : (before rest : List Pair) → harmless (after fresh before) rest ≡ true → MayRepad (after fresh before) rest
reached_may_repad before rest fine = record { does_no_harm = fine; is_settled = λ next. reached_is_settled before }

pub frame_rate_law : FrameRateLaw
frame_rate_law before rest = (
  λ fine. may_repad_changes_nothing (after fresh before) rest (reached_may_repad before rest fine),
  unchanged_is_harmless (after fresh before) rest,
)
