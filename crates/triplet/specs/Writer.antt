-- The writer, from 02: "The writer fills the part of a lent packet that follows the bytes already there. 31 no room left for
-- the triplet, which then writes nothing; 17 first, 31 last."
use Rattle.std.specs.Prelude.{ℕ, ◌+◌, cond, List, [], ◌++◌, ◌∷◌, Result, Ok, Err, leb, drop, length, take}
use Rattle.code.specs.Outcome.{Outcome, answer, refused}
use Rattle.triplet.specs.Packet.{packet_of, whole}
use Rattle.triplet.specs.declared.triplet.Triplet.{Triplet}
use Rattle.triplet.specs.declared.packet.PacketError.{PacketError}
use Rattle.triplet.specs.declared.packet.PacketError.TheVariants as packet_error
use Rattle.triplet.specs.declared.writer.PutError.{PutError}
use Rattle.triplet.specs.declared.writer.PutError.TheVariants as put_error

-- a packet with a triplet after its first `used` bytes: every other byte is as it was
abbrev pub with_triplet : List ℕ → ℕ → Triplet → List ℕ
with_triplet bytes used t = take used bytes ++ (packet_of (t ∷ []) ++ drop (used + 3) bytes)

-- how many bytes are there now, and the packet
abbrev pub put_triplet : List ℕ → ℕ → Triplet → Outcome ℕ × List ℕ
put_triplet bytes used t =
    whole used (take used bytes) (λ (n : ℕ). (refused n, bytes))
    (cond (leb (used + 3) (length bytes)) (answer (used + 3), with_triplet bytes used t) (refused 31, bytes))

-- the number of why no triplet is written
abbrev pub put_refusal : PutError → ℕ
put_refusal put_error.NotWhole = 17
put_refusal put_error.WrongMarker = 16
put_refusal put_error.NoRoom = 31

abbrev pub put_outcome : Result ℕ PutError → Outcome ℕ
put_outcome (Ok n) = answer n
put_outcome (Err e) = refused (put_refusal e)

-- what is wrong with the bytes that are there, as the writer refuses it
abbrev pub of_packet_error : PacketError → PutError
of_packet_error packet_error.NotWhole = put_error.NotWhole
of_packet_error packet_error.WrongMarker = put_error.WrongMarker
