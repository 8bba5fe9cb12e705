-- A packet's bytes, three at a time: their markers, their triplets, and three of them written anew.
-- Assumes nothing.
use Rattle.std.proofs.Common.{◌≡◌, ℕ, zero, suc, ◌+◌, ◌-◌, ◌/◌, ◌<◌, ◌%◌, ◌&&◌, Bool, true, false, cond, eqb, leb, List, [], ◌∷◌, ◌++◌, slice_get, take, drop, length, get_or, arith, ap, refl, subst, ◌∙◌}
use Rattle.std.proofs.Math.Seq.{take-length}
use borrow.Rule.Slice.PartMut.{put_mid, Post-is}
use Rattle.code.specs.Outcome.{Outcome, answer, refused}
use Rattle.std.proofs.lemmas.Iterator.{YieldsList}
use Rattle.std.proofs.lemmas.Iterator.Splits.{YieldsList-from_shown_while}
use Rattle.std.specs.List.{list_all}
use Rattle.std.specs.Option.{option_map}
use Rattle.std.specs.Slice.Iter.{chunks_exact_rest, chunks_exact_size, chunks_exact_steps}
use Rattle.triplet.specs.Triplet.{has_marker, triplet_of}
use Rattle.triplet.specs.Packet.{markers_right, read_packet, triplets_of, whole}
use Rattle.triplet.specs.Writer.{put_triplet, with_triplet}
use Rattle.triplet.specs.declared.triplet.Triplet.{Triplet}

-- a packet's bytes by threes, as `chunks_exact` gives them
abbrev pub threes : List ℕ → List (List ℕ)
threes [] = []
threes (a ∷ []) = []
threes (a ∷ b ∷ []) = []
threes (a ∷ b ∷ c ∷ xs) = (a ∷ b ∷ c ∷ []) ∷ threes xs

few_have_none : (xs : List ℕ) → length xs < 3 → length (threes xs) ≡ 0
few_have_none [] few = refl
few_have_none (a ∷ []) few = refl
few_have_none (a ∷ b ∷ []) few = refl
few_have_none (a ∷ b ∷ c ∷ xs) few = absurd (omega arith)

three_and_rest : (xs bytes rest : List ℕ) → xs ≡ bytes ++ rest → length bytes ≡ 3 → threes xs ≡ bytes ∷ threes rest
three_and_rest xs [] rest e three = absurd (omega arith)
three_and_rest xs (a ∷ []) rest e three = absurd (omega arith)
three_and_rest xs (a ∷ b ∷ []) rest e three = absurd (omega arith)
three_and_rest xs (a ∷ b ∷ c ∷ []) rest e three = rw e refl
three_and_rest xs (a ∷ b ∷ c ∷ d ∷ bytes) rest e three = absurd (omega arith)

pub chunks_are_threes : {s : _} (xs : List ℕ) → chunks_exact_rest s ≡ xs → chunks_exact_size s ≡ 3 → YieldsList (chunks_exact_steps {A = ℕ}) (λ y. y.now) s (threes xs)
chunks_are_threes {s} xs e three =
    subst (λ l. YieldsList (chunks_exact_steps {A = ℕ}) (λ y. y.now) s (threes l)) e
    (YieldsList-from_shown_while chunks_exact_steps (λ y. y.now) (λ u. threes (chunks_exact_rest u)) (λ u. chunks_exact_size u ≡ 3)
    (λ u t size h. few_have_none (chunks_exact_rest u) (omega arith))
    (λ u x t size h. (h.0 ∙ size, three_and_rest (chunks_exact_rest u) x.now (chunks_exact_rest t) h.1.0 (h.1.1 ∙ size)))
    s three)

pub each_has_marker : (xs : List ℕ) → list_all (λ bytes. has_marker (get_or bytes 0 0)) (threes xs) ≡ markers_right xs
each_has_marker [] = refl
each_has_marker (a ∷ []) = refl
each_has_marker (a ∷ b ∷ []) = refl
each_has_marker (a ∷ b ∷ c ∷ xs) = ap (λ (b : Bool). has_marker a && b) (each_has_marker xs)

pub how_many_triplets : (xs : List ℕ) → length (triplets_of xs) ≡ length xs / 3
how_many_triplets [] = refl
how_many_triplets (a ∷ []) = refl
how_many_triplets (a ∷ b ∷ []) = refl
how_many_triplets (a ∷ b ∷ c ∷ xs) = omega (arith, how_many_triplets xs)

-- the triplet at a place is what the three bytes there are
abbrev pub of_three : List ℕ → Triplet
of_three bytes = triplet_of (get_or bytes 0 0) (get_or bytes 1 0) (get_or bytes 2 0)

pub triplet_there : (xs : List ℕ) (place : ℕ) → slice_get (triplets_of xs) place ≡ option_map of_three (slice_get (threes xs) place)
triplet_there [] place = refl
triplet_there (a ∷ []) place = refl
triplet_there (a ∷ b ∷ []) place = refl
triplet_there (a ∷ b ∷ c ∷ xs) zero = refl
triplet_there (a ∷ b ∷ c ∷ xs) (suc place) = triplet_there xs place

-- what a write to three bytes makes of a packet
pub three_written : (xs bytes : List ℕ) (i : ℕ) → put_mid i (i + 3 - i) xs bytes ≡ take i xs ++ (bytes ++ drop (i + 3) xs)
three_written xs bytes i = ap (λ (l : List ℕ). take i xs ++ (bytes ++ l)) (Post-is i (i + 3) xs (omega arith))

-- of a verdict on bytes: what they give, or the refusal
abbrev pub of_verdict : {A : Type 0} → (ℕ → A) → A → Outcome Unit → A
of_verdict refuse given (answer right) = given
of_verdict refuse given (refused n) = refuse n

by_tests : {A : Type 0} (refuse : ℕ → A) (given : A) (a b : Bool) → cond a (cond b given (refuse 16)) (refuse 17) ≡ of_verdict refuse given (cond a (cond b (answer tt) (refused 16)) (refused 17))
by_tests refuse given true true = refl
by_tests refuse given true false = refl
by_tests refuse given false b = refl

-- a packet is read, and written, by the verdict that the judge gives
pub read_is_judged : (xs : List ℕ) → read_packet xs ≡ of_verdict refused (answer (triplets_of xs)) (whole (length xs) (take (length xs) xs) refused (answer tt))
read_is_judged xs =
    rw (take-length xs) (by_tests refused (answer (triplets_of xs)) (eqb (length xs % 3) 0) (markers_right xs))

pub put_is_judged : (xs : List ℕ) (used : ℕ) (t : Triplet) → put_triplet xs used t ≡ of_verdict (λ n. (refused n, xs)) (cond (leb (used + 3) (length xs)) (answer (used + 3), with_triplet xs used t) (refused 31, xs)) (whole used (take used xs) refused (answer tt))
put_is_judged xs used t =
    by_tests (λ n. (refused n, xs)) (cond (leb (used + 3) (length xs)) (answer (used + 3), with_triplet xs used t) (refused 31, xs)) (eqb (used % 3) 0) (markers_right (take used xs))
