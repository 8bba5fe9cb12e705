-- A stream in blocks, over any state: `after` is the state after a block, `text` what is written of it, and `done` whether no
-- more is written. A block of no bytes is the end. The port's own words.
use Rattle.std.specs.Prelude.{ℕ, ◌≡◌, Bool, true, IfSome}
use Rattle.std.specs.Io.KnownBytes.{Appends}
use Rattle.std.specs.declared.option.Option.{Option}
use mathlib.Core.List.{List, [], ◌∷◌, ◌++◌, flatten}

abbrev pub after_blocks : {S : Type 0} → (S → List ℕ → S) → S → List (List ℕ) → S
after_blocks after s [] = s
after_blocks after s (b ∷ bs) = after_blocks after (after s b) bs

abbrev pub blocks_text : {S : Type 0} → (S → List ℕ → S) → (S → List ℕ → List ℕ) → S → List (List ℕ) → List ℕ
blocks_text after text s [] = []
blocks_text after text s (b ∷ bs) = text s b ++ blocks_text after text (after s b) bs

-- each has a byte
abbrev pub SomeBytes : List (List ℕ) → Type 0
SomeBytes [] = Unit
SomeBytes ([] ∷ bs) = ⊥
SomeBytes ((a ∷ b) ∷ bs) = SomeBytes bs

-- the blocks' text and that of the end are the listing of all bytes, wherever the stream was cut
abbrev pub IsAnyCutting : {S : Type 0} → (S → List ℕ → S) → (S → List ℕ → List ℕ) → S → (List ℕ → List ℕ) → Type 0
IsAnyCutting after text fresh listing =
    (blocks : List (List ℕ)) → SomeBytes blocks → blocks_text after text fresh blocks ++ text (after_blocks after fresh blocks) [] ≡ listing (flatten blocks)

-- after the end it is done
abbrev pub EndsDone : {S : Type 0} → (S → List ℕ → S) → (S → Bool) → Type 0
EndsDone {S} after done = (s : S) → done (after s []) ≡ true

-- where it is done, nothing more is written, and it stays done
abbrev pub StaysDone : {S : Type 0} → (S → List ℕ → S) → (S → List ℕ → List ℕ) → (S → Bool) → Type 0
StaysDone {S} after text done =
    (s : S) (block : List ℕ) → done s ≡ true → (text s block ≡ []) × (done (after s block) ≡ true)

-- the listing of all that a reader had was written, where its bytes and the writer's are known
abbrev pub ListsAll : (List ℕ → List ℕ) → Option (List ℕ) → Option (List ℕ) → Option (List ℕ) → Type 0
ListsAll listing unread written longer = IfSome unread (λ bytes. Appends written longer (listing bytes))
