-- The two bytes of a field: the port's own words.
use Rattle.std.specs.Prelude.{ℕ, ◌+◌, Bool, ◌&&◌, eqb}
use Rattle.code.specs.declared.pair.Pair.{Pair}

abbrev pub pair : ℕ → ℕ → Pair
pair a b = record { 0 = a; 1 = b }

-- both bytes are the same
abbrev pub same_pair : Pair → Pair → Bool
same_pair p q = eqb p.0 q.0 && eqb p.1 q.1

-- n more in the second byte
abbrev pub plus : Pair → ℕ → Pair
plus p n = pair p.0 (p.1 + n)
