-- A packet of extended data: its contents, and the rule of its sum. From CTA-608 as 02 has it.
use Rattle.std.specs.Prelude.{ℕ, ◌%◌, ◌+◌, eqb, Bool, cond, List, [], ◌++◌, ◌∷◌}
use Rattle.extended.specs.Class.{end_byte, start_byte}
use Rattle.extended.specs.declared.class.Class.{Class}

-- a packet that was started: the second byte of its start, and its contents so far
pub record Packet : Type 0 where
  pub packet_type : ℕ
  pub contents : List ℕ

-- at most 32 content bytes
abbrev pub most_contents : ℕ
most_contents = 32

-- filler 00 is not among them
abbrev pub filler : ℕ
filler = 0x00

abbrev pub unless_filler : ℕ → List ℕ
unless_filler b = cond (eqb b filler) [] (b ∷ [])

-- the content bytes of a pair's two bytes
abbrev pub content_bytes : ℕ → ℕ → List ℕ
content_bytes a b = unless_filler a ++ unless_filler b

-- bytes added up
abbrev pub sum_of : List ℕ → ℕ
sum_of [] = 0
sum_of (b ∷ bs) = b + sum_of bs

-- start, type, contents, 0F and sum add to 0 modulo 128
abbrev pub is_right_sum : Class → ℕ → List ℕ → ℕ → Bool
is_right_sum c t contents sum = eqb ((start_byte c + t + sum_of contents + end_byte + sum) % 128) 0
