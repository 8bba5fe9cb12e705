-- The memory of a line of text: bytes put into an empty line are those that wait, and what is written of them and what waits
-- then are together what waited.
-- Assumes nothing.
use mathlib.Core.Bool.{Bool, true, false, cond}
use mathlib.Core.List.{List, [], ◌∷◌, ◌++◌, append_assoc, append-nil}
use mathlib.Core.Path.{◌≡◌, refl, ap, ap₂, sym, subst, ◌∙◌}
use Prim.Native.Nat.{ℕ, zero, suc, ◌+◌, ◌-◌, ◌≤◌, ◌<◌}
use native.Mathlib.Omega.{arith}
use borrow.Author.Tests.{ltb-false, ltb-true}
use lib.Dec.{leb, ltb}
use lib.ListN.{get_or, length, length-set, set, take}
use lib.Seq.{get_or-set_other, get_or-set_same, take_all}
use Rattle.lines.proofs.Puts.{put_as}
use Rattle.lines.specs.Line.{bytes_from, empty_line, line_length, pending, says, unwritten, waiting, writes}
use Rattle.lines.specs.Put.{Placed, put_all}
use Rattle.lines.specs.declared.line.Line.{Line}

-- a line of as many places as every value of the type has, with all its bytes inside them
pub record Begun (l : Line) : Type 0 where
  pub places : length l.bytes ≡ line_length
  pub inside : l.len ≤ line_length

pub empty_begun : Begun empty_line
empty_begun = record { places = refl; inside = omega arith }

pub from_length : (bytes : List ℕ) (at n : ℕ) → length (bytes_from bytes at n) ≡ n
from_length bytes at zero = refl
from_length bytes at (suc n) = ap suc (from_length bytes (at + 1) n)

-- a byte set after those that wait is not among them
set_after : (bytes : List ℕ) (at n i b : ℕ) → at + n ≤ i → bytes_from (set bytes i b) at n ≡ bytes_from bytes at n
set_after bytes at zero i b past = refl
set_after bytes at (suc n) i b past =
    ap₂ ◌∷◌ (get_or-set_other bytes i at b 0 (λ (e : at ≡ i). omega (arith, e, past))) (set_after bytes (at + 1) n i b (omega (arith, past)))

-- and is the last of one more
from_one_more : (bytes : List ℕ) (at n : ℕ) → bytes_from bytes at (n + 1) ≡ bytes_from bytes at n ++ (get_or bytes (at + n) 0 ∷ [])
from_one_more bytes at zero =
    let here : at + 0 ≡ at = omega arith in
    ap (λ (k : ℕ). get_or bytes k 0 ∷ []) (sym here)
from_one_more bytes at (suc n) =
    let there : at + 1 + n ≡ at + suc n = omega arith in
    let more : suc n + 1 ≡ suc (n + 1) = omega arith in
    ap (bytes_from bytes at) more
    ∙ ap (λ (l : List ℕ). get_or bytes at 0 ∷ l)
    (from_one_more bytes (at + 1) n ∙ ap (λ (k : ℕ). bytes_from bytes (at + 1) n ++ (get_or bytes k 0 ∷ [])) there)

-- what waits in a line that is not cut off
pub waiting_is : (l : Line) → l.len ≤ line_length → waiting l ≡ l.len - l.at
waiting_is l inside = by_length (leb line_length l.len) refl
  where
    by_length : (t : Bool) → leb line_length l.len ≡ t → cond t line_length l.len - l.at ≡ l.len - l.at
    by_length true e = omega (arith, inside, borrow.Author.Tests.leb-true line_length l.len e)
    by_length false e = refl

-- a line with a byte more
abbrev further : Line → ℕ → Line
further l b = record { bytes = set l.bytes l.len b; at = l.at; len = l.len + 1 }

further_begun : (l : Line) (b : ℕ) → Begun l → l.len < line_length → Begun (further l b)
further_begun l b begun less = record { places = length-set l.bytes l.len b ∙ begun.places; inside = omega (arith, less) }

further_waits : (l : Line) (b : ℕ) → Begun l → l.len < line_length → l.at ≤ l.len → pending (further l b) ≡ pending l ++ (b ∷ [])
further_waits l b begun less ahead =
    let n = l.len - l.at in
    let there : l.at + n ≡ l.len = omega (arith, ahead) in
    let more : waiting (further l b) ≡ n + 1 = waiting_is (further l b) (omega (arith, less)) ∙ omega (arith, ahead) in
    ap (bytes_from (set l.bytes l.len b) l.at) more
    ∙ from_one_more (set l.bytes l.len b) l.at n
    ∙ ap₂ (λ (xs : List ℕ) (y : ℕ). xs ++ (y ∷ [])) (set_after l.bytes l.at n l.len b (omega (arith, there)))
    (ap (λ (k : ℕ). get_or (set l.bytes l.len b) k 0) there ∙ get_or-set_same l.bytes l.len b 0 (omega (arith, less, begun.places)))
    ∙ ap (λ (k : ℕ). bytes_from l.bytes l.at k ++ (b ∷ [])) (sym (waiting_is l (omega (arith, less))))

-- bytes put into a line with places for them wait after what waits
pub record Holds (l next : Line) (bs : List ℕ) : Type 0 where
  pub begun : Begun next
  pub waits : pending next ≡ pending l ++ bs
  pub len : next.len ≡ l.len + length bs
  pub at : next.at ≡ l.at

abbrev placed : Line → Placed → Line
placed l s = record { bytes = s.1; at = l.at; len = s.0 }

pub all_said : (bs : List ℕ) (l : Line) → Begun l → l.at ≤ l.len → l.len + length bs ≤ line_length → Holds l (says l bs) bs
all_said [] l begun ahead fits = record { begun = begun; waits = sym (append-nil (pending l)); len = omega arith; at = refl }
all_said (b ∷ bs) l begun ahead fits =
    let less : l.len < line_length = omega (arith, fits) in
    let one : says l (b ∷ bs) ≡ says (further l b) bs = ap (λ (s : Placed). placed l (put_all s bs)) (put_as l.len l.bytes b (omega (arith, less, begun.places))) in
    let later = all_said bs (further l b) (further_begun l b begun less) (omega (arith, ahead)) (omega (arith, fits)) in
    subst (λ (x : Line). Holds l x (b ∷ bs)) (sym one)
    (record {
      begun = later.begun;
      waits =
          later.waits
          ∙ ap (λ (xs : List ℕ). xs ++ bs) (further_waits l b begun less ahead)
          ∙ append_assoc (pending l) (b ∷ []) bs;
      len = omega (arith, later.len);
      at = later.at;
    })

-- what is written and what waits then
cut_at : (bytes : List ℕ) (at n room : ℕ) → room ≤ n → bytes_from bytes at n ≡ take room (bytes_from bytes at n) ++ bytes_from bytes (at + room) (n - room)
cut_at bytes at n zero less =
    let here : at ≡ at + 0 = omega arith in
    let all : n ≡ n - 0 = omega arith in
    ap₂ (bytes_from bytes) here all
cut_at bytes at zero (suc room) less = absurd (omega (arith, less))
cut_at bytes at (suc n) (suc room) less =
    let there : at + 1 + room ≡ at + suc room = omega arith in
    let left : n - room ≡ suc n - suc room = omega arith in
    ap (λ (l : List ℕ). get_or bytes at 0 ∷ l)
    (cut_at bytes (at + 1) n room (omega (arith, less)) ∙ ap₂ (λ (a k : ℕ). take room (bytes_from bytes (at + 1) n) ++ bytes_from bytes a k) there left)

pub written_and_waiting : (l : Line) (room : ℕ) → pending l ≡ writes l room ++ pending (unwritten l room)
written_and_waiting l room = by_room (ltb room (waiting l)) refl
  where
    by_room : (t : Bool) → ltb room (waiting l) ≡ t → pending l ≡ writes l room ++ pending (cond t (record { bytes = l.bytes; at = l.at + room; len = l.len }) empty_line)
    by_room true more =
        let less : room < waiting l = ltb-true room (waiting l) more in
        let left : waiting l - room ≡ waiting (record { bytes = l.bytes; at = l.at + room; len = l.len }) = omega arith in
        cut_at l.bytes l.at (waiting l) room (omega (arith, less))
        ∙ ap (λ (k : ℕ). writes l room ++ bytes_from l.bytes (l.at + room) k) left
    by_room false none =
        sym (append-nil (writes l room) ∙ take_all room (pending l) (omega (arith, ltb-false room (waiting l) none, from_length l.bytes l.at (waiting l))))
