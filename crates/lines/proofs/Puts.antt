-- Bytes put into memory one after the other: a chain of puts is one put of all their bytes, and where there are places for
-- them they stand from the first place on, with what was before and after them as it was.
-- Assumes nothing.
use mathlib.Core.Bool.{Bool, true, false, cond}
use mathlib.Core.List.{List, [], ◌∷◌, ◌++◌, append_assoc}
use mathlib.Core.Path.{◌≡◌, refl, ap, ap₂, subst, sym, ◌∙◌}
use Prim.Native.Nat.{ℕ, suc, ◌+◌, ◌-◌, ◌≤◌, ◌<◌, min}
use native.Mathlib.Omega.{arith}
use borrow.Author.Tests.{le-leb, leb-false, leb-true, lt-leb}
use lib.Dec.{leb}
use lib.ListN.{drop, drop_of_length-le, length, length-set, set, take, take-append-drop}
use lib.Seq.{drop-drop, length-take-le, sets, sets-eq}
use Rattle.lines.specs.Line.{over}
use Rattle.lines.specs.Put.{Placed, Puts, placed, put_all, put_one}
use Rattle.lines.specs.declared.put.Writer.{Writer}

infixr 5 ◌then◌
pub put_parts : (s : Placed) (xs ys : List ℕ) → put_all s (xs ++ ys) ≡ put_all (put_all s xs) ys
put_parts s [] ys = refl
put_parts s (x ∷ xs) ys = put_parts (put_one s x) xs ys

pub ◌then◌ : {w m next : Writer} {xs ys : List ℕ} → Puts w xs m → Puts m ys next → Puts w (xs ++ ys) next
◌then◌ {w} {m} {next} {xs} {ys} first rest = record {
  same_memory = rest.same_memory ∙ first.same_memory;
  put = rest.put ∙ ap (λ (s : Placed). put_all s ys) first.put ∙ sym (put_parts (placed w) xs ys);
}

-- the same where the bytes were found to be these
pub same_bytes : {w next : Writer} {xs ys : List ℕ} → xs ≡ ys → Puts w xs next → Puts w ys next
same_bytes {w} {next} e puts = subst (λ (bs : List ℕ). Puts w bs next) e puts

-- the memory stays as long as it was
pub puts_length : (bs : List ℕ) (s : Placed) → length (put_all s bs).1 ≡ length s.1
puts_length [] s = refl
puts_length (b ∷ bs) s = puts_length bs (put_one s b) ∙ by_place (leb (length s.1) s.0)
  where
    by_place : (t : Bool) → length (cond {A = Placed} t s (s.0 + 1, set s.1 s.0 b)).1 ≡ length s.1
    by_place true = refl
    by_place false = length-set s.1 s.0 b

-- a byte for which there is a place
pub put_as : (at : ℕ) (out : List ℕ) (b : ℕ) → at < length out → put_one (at, out) b ≡ (at + 1, set out at b)
put_as at out b less = rw (lt-leb (length out) at less) refl

-- bytes for which there are places
put_as_sets : (bs : List ℕ) (at : ℕ) (out : List ℕ) → at + length bs ≤ length out → put_all (at, out) bs ≡ (at + length bs, sets out at bs)
put_as_sets [] at out fits =
    let here : at ≡ at + 0 = omega arith in
    ap {B = Placed} (λ (k : ℕ). (k, out)) here
put_as_sets (b ∷ bs) at out fits =
    let one : at + 1 ≡ suc at = omega arith in
    let past : suc at + length bs ≡ at + suc (length bs) = omega arith in
    ap (λ (s : Placed). put_all s bs) (put_as at out b (omega (arith, fits)))
    ∙ ap (λ (k : ℕ). put_all (k, set out at b) bs) one
    ∙ put_as_sets bs (suc at) (set out at b) (omega (arith, fits, length-set out at b))
    ∙ ap {B = Placed} (λ (k : ℕ). (k, sets (set out at b) (suc at) bs)) past

pub all_places : (bs : List ℕ) (at : ℕ) (out : List ℕ) → at + length bs ≤ length out → put_all (at, out) bs ≡ (at + length bs, take at out ++ over bs (drop at out))
all_places bs at out fits =
    put_as_sets bs at out fits
    ∙ ap {B = Placed} (λ (o : List ℕ). (at + length bs, o))
    (sets-eq bs out at fits
    ∙ append_assoc (take at out) bs (drop (at + length bs) out)
    ∙ ap (λ (d : List ℕ). take at out ++ (bs ++ d)) (sym (drop-drop (length bs) at out)))

-- the room that is left after bytes, of which there are at most k
pub left : {w next : Writer} {bs : List ℕ} (k m : ℕ) → Puts w bs next → length bs ≤ k → w.at + (k + m) ≤ length w.out.now → next.at + m ≤ length next.out.now
left {w} {next} {bs} k m puts few room =
    omega (arith, few, room, ap (λ (x : Placed). x.0) (puts.put ∙ all_places bs w.at w.out.now (omega (arith, few, room))), ap (λ (x : Placed). length x.1) puts.put ∙ puts_length bs (placed w))

-- bytes that were copied into their places
pub copied : (at k : ℕ) (out bs ys : List ℕ) → k ≡ length bs → ys ≡ bs → at + length bs ≤ length out → ◌≡◌ {A = Placed} (at + length bs, take at out ++ (ys ++ drop k (drop at out))) (put_all (at, out) bs)
copied at k out bs ys how_many same fits =
    ap₂ {C = Placed} (λ (xs : List ℕ) (n : ℕ). (at + length bs, take at out ++ (xs ++ drop n (drop at out)))) same how_many
    ∙ sym (all_places bs at out fits)

-- nothing is put where no place is left
pub none_left : (bs : List ℕ) (s : Placed) → length s.1 ≤ s.0 → put_all s bs ≡ s
none_left [] s full = refl
none_left (b ∷ bs) s full =
    let stays : put_one s b ≡ s = rw (le-leb (length s.1) s.0 full) refl in
    ap (λ (x : Placed). put_all x bs) stays ∙ none_left bs s full

-- so the bytes of a word that have a place are as good as all of it
pub as_far_as_room : (word : List ℕ) (count : ℕ) {w next : Writer} → w.at < length w.out.now → count ≡ min (length word) (length w.out.now - w.at) → Puts w (take count word) next → Puts w word next
as_far_as_room word count {w} {next} inside most puts =
    same_bytes (take-append-drop count word) (puts then record { same_memory = refl; put = sym (rest (leb (length word) count) refl) })
  where
    counted : length (take count word) ≡ count
    counted = length-take-le count word (omega (arith, most))

    put_is : next.at ≡ w.at + count
    put_is =
        ap (λ (x : Placed). x.0) (puts.put ∙ all_places (take count word) w.at w.out.now (omega (arith, counted, most, inside)))
        ∙ ap (λ (n : ℕ). w.at + n) counted

    as_long : length next.out.now ≡ length w.out.now
    as_long = ap (λ (x : Placed). length x.1) puts.put ∙ puts_length (take count word) (placed w)

    rest : (t : Bool) → leb (length word) count ≡ t → put_all (placed next) (drop count word) ≡ placed next
    rest true e = ap (put_all (placed next)) (drop_of_length-le word (leb-true (length word) count e))
    rest false e =
        none_left (drop count word) (placed next) (omega (arith, leb-false (length word) count e, most, put_is, as_long, inside))

-- where the memory was taken back from a writer
pub taken_back : (next : Writer) {memory : List ℕ} {s : Placed} → memory ≡ next.out.now → placed next ≡ s → ◌≡◌ {A = Placed} (next.at, memory) s
taken_back next e so = ap {B = Placed} (λ (o : List ℕ). (next.at, o)) e ∙ so
