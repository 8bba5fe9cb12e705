-- The memory of a state: contents keep what they have, and what is added comes after it; one class's packet does not touch
-- another's.
-- Assumes nothing.
use Prim.Native.Nat.{ℕ, ◌+◌, ◌<◌, ◌≤◌, min, suc}
use borrow.Author.Tests.{eq-eqb}
use lib.ListN.{get_or, length, length-append, length-set, length-take, set, take}
use lib.Seq.{get_or-set_other, get_or-set_same, take-suc-set}
use mathlib.Core.Bool.{Bool, cond, false, true, true≢false}
use mathlib.Core.List.{List, [], ◌++◌, ◌∷◌, append_assoc, append-nil}
use mathlib.Core.Path.{◌≡◌, refl, ap, sym, subst, ◌∙◌}
use native.Mathlib.Omega.{arith}
use Rattle.extended.proofs.Classes.{number_from_one, place_below, same_class_lem}
use Rattle.extended.specs.Class.{class_number}
use Rattle.extended.specs.Extended.{same_class}
use Rattle.extended.specs.Packet.{most_contents}
use Rattle.extended.specs.State.{added, added_all, beyond, contents_of, cut, cut_packet, packet_at, place}
use Rattle.extended.specs.declared.class.Class.{Class}
use Rattle.extended.specs.declared.packet.Contents.{Contents}
use Rattle.extended.specs.declared.packet.Unfinished.{Unfinished}

-- contents that are these bytes, with memory for 32
pub record Kept (k : Contents) (bs : List ℕ) : Type 0 where
  pub memory : length k.bytes ≡ most_contents
  pub counted : k.length ≡ length bs
  pub same : contents_of k ≡ bs

one_kept : (k : Contents) (bs : List ℕ) (b : ℕ) → Kept k bs → length bs < most_contents → Kept (added k b) (bs ++ (b ∷ []))
one_kept k bs b kept less =
    let n : ℕ = k.length in
    let before : min most_contents n ≡ n = omega (arith, kept.counted, less) in
    let now : min most_contents (n + 1) ≡ suc n = omega (arith, kept.counted, less) in
    record {
      memory = length-set k.bytes n b ∙ kept.memory;
      counted = omega (arith, kept.counted, length-append bs (b ∷ []));
      same =
          ap (λ (m : ℕ). take m (set k.bytes n b)) now
          ∙ take-suc-set k.bytes n b (omega (arith, kept.counted, kept.memory, less))
          ∙ ap (λ (xs : List ℕ). xs ++ (b ∷ [])) (ap (λ (m : ℕ). take m k.bytes) (sym before) ∙ kept.same);
    }

pub more_kept : (k : Contents) (bs xs : List ℕ) → Kept k bs → length (bs ++ xs) ≤ most_contents → Kept (added_all k xs) (bs ++ xs)
more_kept k bs [] kept fits = subst (Kept k) (sym (append-nil bs)) kept
more_kept k bs (x ∷ xs) kept fits =
    let longer : length (bs ++ (x ∷ xs)) ≡ length bs + length (x ∷ xs) = length-append bs (x ∷ xs) in
    subst (Kept (added_all (added k x) xs)) (append_assoc bs (x ∷ []) xs)
    (more_kept (added k x) (bs ++ (x ∷ [])) xs (one_kept k bs x kept (omega (arith, longer, fits))) (subst (λ (ys : List ℕ). length ys ≤ most_contents) (sym (append_assoc bs (x ∷ []) xs)) fits))

-- what is cut is kept: its length is at most 32
pub cut_is_kept : (k : Contents) → length k.bytes ≡ most_contents → k.length ≤ most_contents → Kept k (contents_of k)
cut_is_kept k memory short = record {
  memory = memory;
  counted = omega (arith, memory, short, length-take (min most_contents k.length) k.bytes);
  same = refl;
}

pub cut_short : (packets : List Unfinished) (c : Class) → (packet_at packets c).contents.length ≤ most_contents
unfolding packet_at
cut_short packets c = omega arith

pub cut_again : (k : Contents) → contents_of (cut k) ≡ contents_of k
cut_again k = let twice : min most_contents (min most_contents k.length) ≡ min most_contents k.length = omega arith in ap (λ (n : ℕ). take n k.bytes) twice

-- classes that differ have places that differ
places_differ : (c d : Class) → same_class c d ≡ false → place d ≡ place c → ⊥
places_differ c d apart same =
    let numbers : class_number c ≡ class_number d = omega (arith, same, number_from_one c, number_from_one d) in
    true≢false (sym (eq-eqb (class_number c) (class_number d) numbers) ∙ apart)

-- the packet of a class, once that of a class is set
pub packet_set : (packets : List Unfinished) (c d : Class) (u : Unfinished) → length packets ≡ 7 → packet_at (set packets (place c) u) d ≡ cond (same_class c d) (cut_packet u) (packet_at packets d)
unfolding packet_at
packet_set packets c d u seven = by_class (same_class c d) refl
  where
    by_class : (t : Bool) → same_class c d ≡ t → packet_at (set packets (place c) u) d ≡ cond t (cut_packet u) (packet_at packets d)
    by_class true own =
        let here : place d ≡ place c = ap place (sym (same_class_lem c d own)) in
        ap cut_packet (ap (λ (n : ℕ). get_or (set packets (place c) u) n beyond) here ∙ get_or-set_same packets (place c) u beyond (omega (arith, seven, place_below c)))
    by_class false apart = ap cut_packet (get_or-set_other packets (place c) (place d) u beyond (places_differ c d apart))
