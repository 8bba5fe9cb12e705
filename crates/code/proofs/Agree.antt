-- Two functions that agree at each number of a range, or at each pair of a grid, by one computation: antt lists the
-- values of both and compares.
-- Assumes nothing.
use mathlib.Core.Path.{◌≡◌, ap, subst}
use mathlib.Core.List.{List, [], ◌∷◌}
use mathlib.Core.Logic.{⊎_elim}
use Prim.Native.Nat.{ℕ, zero, suc, ◌+◌, ◌-◌, ◌≤◌, ◌<◌}
use native.Mathlib.Nat.{not-suc-le-zero, le_of_suc-le-suc, eq-or-lt_of_le}
use native.Mathlib.Omega.{arith}

-- the values at n - 1, .. 0
abbrev pub values : {A : Type 0} → (ℕ → A) → ℕ → List A
values f zero = []
values f (suc n) = f n ∷ values f n

abbrev head_or : {A : Type 0} → A → List A → A
head_or d [] = d
head_or d (x ∷ xs) = x

abbrev rest : {A : Type 0} → List A → List A
rest [] = []
rest (x ∷ xs) = xs

pub agree : {A : Type 0} (f g : ℕ → A) (n : ℕ) → values f n ≡ values g n → (k : ℕ) → k < n → f k ≡ g k
agree f g zero e k h = absurd (not-suc-le-zero h)
agree f g (suc n) e k h =
    ⊎_elim (λ (same : k ≡ n). rw same (ap (head_or (f n)) e)) (λ (less : k < n). agree f g n (ap rest e) k less)
    (eq-or-lt_of_le (le_of_suc-le-suc h))

-- from a first number on
pub agree_from : {A : Type 0} (f g : ℕ → A) (low n : ℕ) → values (λ (k : ℕ). f (low + k)) n ≡ values (λ (k : ℕ). g (low + k)) n → (x : ℕ) → low ≤ x → x < low + n → f x ≡ g x
agree_from f g low n e x from below =
    let place : low + (x - low) ≡ x = omega arith in
    subst (λ (y : ℕ). f y ≡ g y) place
    (agree (λ (k : ℕ). f (low + k)) (λ (k : ℕ). g (low + k)) n e (x - low) (omega arith))

-- over a grid, the first number from low on, the second from 0
pub agree_grid : {A : Type 0} (f g : ℕ → ℕ → A) (low n m : ℕ) → values (λ (k : ℕ). values (f (low + k)) m) n ≡ values (λ (k : ℕ). values (g (low + k)) m) n → (x y : ℕ) → low ≤ x → x < low + n → y < m → f x y ≡ g x y
agree_grid f g low n m e x y from below less =
    agree (f x) (g x) m (agree_from (λ (k : ℕ). values (f k) m) (λ (k : ℕ). values (g k) m) low n e x from below) y less
