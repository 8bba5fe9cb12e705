-- A packet of triplets, from 02: "Refusals: 16 marker bits wrong, 17 length no multiple of 3, either for the whole packet;
-- 17 first." What a packet's bytes are as triplets, and the bytes of triplets.
use Rattle.std.specs.Prelude.{ℕ, ◌%◌, Bool, ◌&&◌, cond, true, List, [], ◌∷◌, Option, Result, Ok, Err, eqb, length, slice_get}
use Rattle.code.specs.Outcome.{Outcome, answer, refused}
use Rattle.triplet.specs.Triplet.{bytes_of, has_marker, triplet_of}
use Rattle.triplet.specs.declared.packet.PacketError.{PacketError}
use Rattle.triplet.specs.declared.packet.PacketError.TheVariants.{NotWhole, WrongMarker}
use Rattle.triplet.specs.declared.triplet.Triplet.{Triplet}

-- the first byte of each whole triplet has the marker
abbrev pub markers_right : List ℕ → Bool
markers_right [] = true
markers_right (a ∷ []) = true
markers_right (a ∷ b ∷ []) = true
markers_right (a ∷ b ∷ c ∷ bytes) = has_marker a && markers_right bytes

-- bytes as triplets, as far as they are whole
abbrev pub triplets_of : List ℕ → List Triplet
triplets_of [] = []
triplets_of (a ∷ []) = []
triplets_of (a ∷ b ∷ []) = []
triplets_of (a ∷ b ∷ c ∷ bytes) = triplet_of a b c ∷ triplets_of bytes

-- and back
abbrev pub packet_of : List Triplet → List ℕ
packet_of [] = []
packet_of (t ∷ ts) = (bytes_of t).0 ∷ (bytes_of t).1 ∷ (bytes_of t).2 ∷ packet_of ts

-- 17, then 16, for so many bytes and those of them that are there; then what they give
abbrev pub whole : {A : Type 0} → ℕ → List ℕ → (ℕ → A) → A → A
whole n bytes refuse given = cond (eqb (n % 3) 0) (cond (markers_right bytes) given (refuse 16)) (refuse 17)

abbrev pub read_packet : List ℕ → Outcome (List Triplet)
read_packet bytes = whole (length bytes) bytes refused (answer (triplets_of bytes))

-- of a packet that is read, and of one that is refused
abbrev pub of_read : {A : Type 0} → (List Triplet → A) → Outcome (List Triplet) → Outcome A
of_read f (answer ts) = answer (f ts)
of_read f (refused n) = refused n

-- how many triplets
abbrev pub count_of : List ℕ → Outcome ℕ
count_of bytes = of_read length (read_packet bytes)

-- the one at a place, or none
abbrev pub at_place : List ℕ → ℕ → Outcome (Option Triplet)
at_place bytes place = of_read (λ (ts : List Triplet). slice_get ts place) (read_packet bytes)

-- the number of what is wrong with a packet
abbrev pub packet_refusal : PacketError → ℕ
packet_refusal NotWhole = 17
packet_refusal WrongMarker = 16

abbrev pub count_outcome : Result ℕ PacketError → Outcome ℕ
count_outcome (Ok n) = answer n
count_outcome (Err e) = refused (packet_refusal e)

abbrev pub at_outcome : Result (Option Triplet) PacketError → Outcome (Option Triplet)
at_outcome (Ok t) = answer t
at_outcome (Err e) = refused (packet_refusal e)

abbrev pub judged_outcome : Result Unit PacketError → Outcome Unit
judged_outcome (Ok right) = answer tt
judged_outcome (Err e) = refused (packet_refusal e)
