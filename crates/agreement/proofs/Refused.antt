-- The receiver refuses what the line corrupted, and nothing else; and it refuses by number 1 alone.
-- Assumes nothing.
use mathlib.Core.Bool.{Bool, true, false, not}
use mathlib.Core.List.{List, [], ◌∷◌, map}
use Rattle.std.specs.Prelude.{Option}
use mathlib.Core.Path.{◌≡◌, refl, ap, ap₂, sym, ◌∙◌}
use Prim.Native.Nat.{ℕ}
use Rattle.code.specs.Outcome.{Outcome, answer, refused}
use Rattle.code.specs.Pair.{same_pair}
use Rattle.code.specs.Read.{is_odd_pair}
use Rattle.code.specs.declared.pair.Pair.{Pair}
use Rattle.event.specs.declared.event.Cea608.{Cea608}
use Rattle.receiver.proofs.Step.{even_is_refused_1, odd_is_not_refused}
use Rattle.receiver.specs.Reading.{answers}
use Rattle.receiver.specs.Receiver.{Stepped, step}
use Rattle.receiver.specs.declared.state.Cea608State.{Cea608State}
use Rattle.agreement.proofs.OneByOne.{corrupted_is_another}
use Rattle.code.proofs.SamePair.{same_itself}
use Rattle.agreement.specs.Agreement.{All, ByNumber1, Carried, is_refusal, corrupted_places}
use Rattle.agreement.specs.Agreement as line
use Rattle.agreement.specs.OneByOne.{AllOdd}

not_refused_lem : (o : Outcome (Option Cea608)) → ((n : ℕ) → o ≡ refused n → ⊥) → is_refusal o ≡ false
not_refused_lem (answer e) h = refl
not_refused_lem (refused n) h = absurd (h n refl)

-- a pair that arrives as it was sent is not refused
arrived : (s : Cea608State) (p : Pair) → is_odd_pair p ≡ true → is_refusal (step s p).0 ≡ not (same_pair p p)
arrived s p odd =
    not_refused_lem (step s p).0 (λ (n : ℕ) (e : (step s p).0 ≡ refused n). odd_is_not_refused s p n odd e)
    ∙ sym (ap not (same_itself p))

-- and one that fails parity is not the one that was sent, and is refused
even_is_a_refusal : (s : Cea608State) (p q : Pair) → is_odd_pair p ≡ true → is_odd_pair q ≡ false → is_refusal (step s q).0 ≡ not (same_pair p q)
even_is_a_refusal s p q odd even = rw (even_is_refused_1 s q even, corrupted_is_another p q odd even) refl

pub the_corrupted_are_refused : (ps qs : List Pair) (s : Cea608State) → AllOdd ps → Carried ps qs → map is_refusal (answers s qs) ≡ corrupted_places ps qs
the_corrupted_are_refused ps qs s all line.ends = refl
the_corrupted_are_refused ps qs s all (line.arrives {p = p} {ps = ps'} {qs = qs'} rest) =
    ap₂ ◌∷◌ (arrived s p all.0) (the_corrupted_are_refused ps' qs' (step s p).1 all.1 rest)
the_corrupted_are_refused ps qs s all (line.is_corrupted {p = p} {q = q} {ps = ps'} {qs = qs'} command even rest) =
    ap₂ ◌∷◌ (even_is_a_refusal s p q all.0 even) (the_corrupted_are_refused ps' qs' (step s q).1 all.1 rest)

-- of any pairs from any state: every refusal has number 1
by_1 : (s : Cea608State) (p : Pair) (t : Bool) (o : Outcome (Option Cea608)) (os : List (Outcome (Option Cea608))) → is_odd_pair p ≡ t → (step s p).0 ≡ o → All ByNumber1 os → All ByNumber1 (o ∷ os)
by_1 s p t (answer e) os parity told all = (tt, all)
by_1 s p true (refused n) os parity told all = absurd (odd_is_not_refused s p n parity told)
by_1 s p false (refused n) os parity told all = (same_number (sym told ∙ ap (λ (r : Stepped). r.0) (even_is_refused_1 s p parity)), all)
  where
    same_number : ◌≡◌ {A = Outcome (Option Cea608)} (refused n) (refused 1) → n ≡ 1
    same_number e = cc

pub refusals_are_by_1 : (ps : List Pair) (s : Cea608State) → All ByNumber1 (answers s ps)
refusals_are_by_1 [] s = tt
refusals_are_by_1 (p ∷ ps) s = by_1 s p (is_odd_pair p) (step s p).0 (answers (step s p).1 ps) refl refl (refusals_are_by_1 ps (step s p).1)
