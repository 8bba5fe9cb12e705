-- The ring's list: how long it is, that places wrap around, and what it is once a code is stored at its end or places at
-- its front are freed.
-- Assumes nothing.
use mathlib.Core.List.{List, [], ◌∷◌, ◌++◌}
use mathlib.Core.Path.{◌≡◌, refl, ap, ap₂, sym, ◌∙◌}
use Prim.Native.Nat.{ℕ, zero, suc, ◌+◌, ◌-◌, ◌%◌, ◌≤◌, ◌<◌}
use native.Mathlib.Nat.{not-suc-le-zero}
use native.Mathlib.Numerals.{add-one}
use native.Mathlib.Omega.{arith}
use lib.ListN.{drop, get_or, length, set}
use lib.Seq.{get_or-set_other, get_or-set_same}
use Rattle.code.specs.declared.code.Code.{Code}
use Rattle.code.specs.declared.code.Code.TheVariants as code
use Rattle.queue.specs.Number.{code_of}
use Rattle.queue.specs.Ring.{code_at_place, codes_from}

pub how_many_lem : (places : List ℕ) (at n : ℕ) → length (codes_from places at n) ≡ n
how_many_lem places at zero = refl
how_many_lem places at (suc n) = ap suc (how_many_lem places (at + 1) n)

-- the code at each place is the list's
pub code_at : (places : List ℕ) (at n i : ℕ) → i < n → code_at_place places (at + i) ≡ get_or (codes_from places at n) i code.Nul
code_at places at zero i less = absurd (not-suc-le-zero less)
code_at places at (suc n) zero less =
    let here : at + 0 ≡ at = omega arith in
    ap (code_at_place places) here
code_at places at (suc n) (suc i) less =
    let on : at + suc i ≡ at + 1 + i = omega arith in
    ap (code_at_place places) on ∙ code_at places (at + 1) n i (omega arith)

-- a place is the same place 64 further on
pub over_the_seam : (places : List ℕ) (at n : ℕ) → codes_from places (at % 64) n ≡ codes_from places at n
over_the_seam places at zero = refl
over_the_seam places at (suc n) =
    let here : at % 64 % 64 ≡ at % 64 = omega arith in
    let next : (at % 64 + 1) % 64 ≡ (at + 1) % 64 = omega arith in
    ap₂ (λ (k : ℕ) (l : List Code). code_of (get_or places k 0) ∷ l) here
    (sym (over_the_seam places (at % 64 + 1) n)
    ∙ ap (λ (k : ℕ). codes_from places k n) next
    ∙ over_the_seam places (at + 1) n)

-- k places freed at the front: the first k codes are gone
pub freed_in_front : (places : List ℕ) (at n k : ℕ) → k ≤ n → codes_from places (at + k) (n - k) ≡ drop k (codes_from places at n)
freed_in_front places at n zero h =
    let here : at + 0 ≡ at = omega arith in
    let all : n - 0 ≡ n = omega arith in
    ap₂ (codes_from places) here all
freed_in_front places at zero (suc k) h = absurd (not-suc-le-zero h)
freed_in_front places at (suc n) (suc k) h =
    let on : at + suc k ≡ at + 1 + k = omega arith in
    let left : suc n - suc k ≡ n - k = omega arith in
    ap₂ (codes_from places) on left ∙ freed_in_front places (at + 1) n k (omega arith)

-- one code more is the next one
one_more_lem : (places : List ℕ) (at n : ℕ) → codes_from places at (suc n) ≡ codes_from places at n ++ (code_at_place places (at + n) ∷ [])
one_more_lem places at zero =
    let here : at ≡ at + 0 = omega arith in
    ap (λ (k : ℕ). code_at_place places k ∷ []) here
one_more_lem places at (suc n) =
    let on : at + 1 + n ≡ at + suc n = omega arith in
    ap (λ (l : List Code). code_at_place places at ∷ l) (one_more_lem places (at + 1) n)
    ∙ ap (λ (k : ℕ). code_at_place places at ∷ (codes_from places (at + 1) n ++ (code_at_place places k ∷ []))) on

-- what is stored k places on, at least n and fewer than 64, does not touch the first n
untouched : (places : List ℕ) (at n k s : ℕ) → n ≤ k → k < 64 → codes_from (set places ((at + k) % 64) s) at n ≡ codes_from places at n
untouched places at zero k s far less = refl
untouched places at (suc n) k s far less =
    let apart : at % 64 ≡ (at + k) % 64 → ⊥ = λ e. omega arith in
    let on : at + k ≡ at + 1 + (k - 1) = omega arith in
    ap₂ (λ (x : ℕ) (l : List Code). code_of x ∷ l) (get_or-set_other places ((at + k) % 64) (at % 64) s 0 apart)
    (ap (λ (p : ℕ). codes_from (set places (p % 64) s) (at + 1) n) on
    ∙ untouched places (at + 1) n (k - 1) s (omega arith) (omega arith))

-- a number stored at the place after the last is the last
pub stored_behind : (places : List ℕ) (at n s : ℕ) → length places ≡ 64 → n < 64 → codes_from (set places ((at + n) % 64) s) at (n + 1) ≡ codes_from places at n ++ (code_of s ∷ [])
stored_behind places at n s size less =
    ap (codes_from (set places ((at + n) % 64) s) at) (add-one n)
    ∙ one_more_lem (set places ((at + n) % 64) s) at n
    ∙ ap₂ (λ (l : List Code) (x : ℕ). l ++ (code_of x ∷ [])) (untouched places at n n s (omega arith) less)
    (get_or-set_same places ((at + n) % 64) s 0 (omega arith))
