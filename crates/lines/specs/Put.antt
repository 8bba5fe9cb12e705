-- Bytes put into a piece of memory from a place on, as long as there is a place for them: the port's own words.
use Rattle.std.specs.Prelude.{ℕ, ◌+◌, ◌-◌, cond, List, [], ◌∷◌, ◌≡◌, ◌≤◌, leb, length, set}
use Rattle.lines.specs.declared.put.Writer.{Writer}

-- a place, and the memory
abbrev pub Placed : Type 0
Placed = ℕ × List ℕ

-- a byte more, where there is a place for it
abbrev pub put_one : Placed → ℕ → Placed
put_one s b = cond (leb (length s.1) s.0) s (s.0 + 1, set s.1 s.0 b)

abbrev pub put_all : Placed → List ℕ → Placed
put_all s [] = s
put_all s (b ∷ bs) = put_all (put_one s b) bs

-- where a writer is, and the memory that was lent to it
abbrev pub placed : Writer → Placed
placed w = (w.at, w.out.now)

-- how many bytes it has room for
abbrev pub room_of : Writer → ℕ
room_of w = length w.out.now - w.at

-- there is a place for each of so many bytes
abbrev pub HasRoom : Writer → ℕ → Type 0
HasRoom w n = w.at + n ≤ length w.out.now

-- a writer after it has put these bytes; it still has the memory that was lent to it
pub record Puts (w : Writer) (bytes : List ℕ) (next : Writer) : Type 0 where
  pub same_memory : next.out.ghost_name ≡ w.out.ghost_name
  pub put : placed next ≡ put_all (placed w) bytes
