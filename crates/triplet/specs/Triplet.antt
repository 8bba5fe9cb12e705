-- A triplet, from ANSI/CTA-708 as 02 has it: "five bits of one, a valid bit, a two-bit type, two data bytes, most significant
-- bit first. Type 0 is field one, type 1 field two. Types 2 and 3, and triplets with the valid bit clear, pass through as
-- found." Both ways: what three bytes are, and the three bytes of a triplet.
use Rattle.std.specs.Prelude.{ℕ, ◌%◌, ◌*◌, ◌+◌, ◌/◌, Bool, cond, [], ◌∷◌, Result, Ok, Err, eqb, get_or}
use Rattle.code.specs.Channel.{field_one, field_two}
use Rattle.code.specs.Outcome.{Outcome, answer, refused}
use Rattle.code.specs.Pair.{pair}
use Rattle.triplet.specs.declared.triplet.Passing.{Passing}
use Rattle.triplet.specs.declared.triplet.Passing.TheVariants.{Clear0, Clear1, Clear2, Clear3, Type2, Type3}
use Rattle.triplet.specs.declared.triplet.Triplet.{Triplet}
use Rattle.triplet.specs.declared.triplet.Triplet.TheVariants.{OfField, PassesThrough}
use Rattle.triplet.specs.declared.triplet.TripletBytes.{TripletBytes}
use Rattle.triplet.specs.declared.triplet.WrongMarker.{WrongMarker}

-- the first byte, most significant bit first: five bits of one, the valid bit, two bits of type
abbrev pub marker_bits : ℕ → ℕ
marker_bits a = a / 8

abbrev pub valid_bit : ℕ → ℕ
valid_bit a = a / 4 % 2

abbrev pub type_bits : ℕ → ℕ
type_bits a = a % 4

abbrev pub five_ones : ℕ
five_ones = 31

abbrev pub has_marker : ℕ → Bool
has_marker a = eqb (marker_bits a) five_ones

abbrev pub first_byte : ℕ → ℕ → ℕ
first_byte v type = five_ones * 8 + v * 4 + type

-- with the valid bit clear, by the type
abbrev pub clear : ℕ → Passing
clear type = get_or (Clear0 ∷ Clear1 ∷ Clear2 ∷ Clear3 ∷ []) type Clear3

-- with the valid bit set, by the type
abbrev pub valid : ℕ → ℕ → ℕ → Triplet
valid type b c =
    get_or (OfField field_one (pair b c) ∷ OfField field_two (pair b c) ∷ PassesThrough Type2 b c ∷ PassesThrough Type3 b c ∷ []) type (PassesThrough Type3 b c)

-- what three bytes are
abbrev pub triplet_of : ℕ → ℕ → ℕ → Triplet
triplet_of a b c = cond (eqb (valid_bit a) 0) (PassesThrough (clear (type_bits a)) b c) (valid (type_bits a) b c)

-- 16: the marker bits are wrong
abbrev pub read_triplet : ℕ → ℕ → ℕ → Outcome Triplet
read_triplet a b c = cond (has_marker a) (answer (triplet_of a b c)) (refused 16)

-- the first byte of a triplet that passes through
abbrev pub passing_byte : Passing → ℕ
passing_byte Clear0 = first_byte 0 0
passing_byte Clear1 = first_byte 0 1
passing_byte Clear2 = first_byte 0 2
passing_byte Clear3 = first_byte 0 3
passing_byte Type2 = first_byte 1 2
passing_byte Type3 = first_byte 1 3

abbrev pub three_bytes : ℕ → ℕ → ℕ → TripletBytes
three_bytes a b c = record { 0 = a; 1 = b; 2 = c }

-- the three bytes of a triplet
abbrev pub bytes_of : Triplet → TripletBytes
bytes_of (OfField f p) = three_bytes (first_byte 1 (cond f.0 0 1)) p.0 p.1
bytes_of (PassesThrough k b c) = three_bytes (passing_byte k) b c

abbrev pub from_bytes_outcome : Result Triplet WrongMarker → Outcome Triplet
from_bytes_outcome (Ok t) = answer t
from_bytes_outcome (Err e) = refused 16
