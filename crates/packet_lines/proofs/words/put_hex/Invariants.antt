-- The digits of the bytes so far.
use Rattle.std.proofs.Common.{take}
use Rattle.lines.specs.Put.{Puts}
use Rattle.packet_lines.specs.Words.{hex_bytes}
use Rattle.packet_lines.proofs.words.put_hex.Given as goal

abbrev pub invariant-loop-byte : goal.invariant-loop-byte
invariant-loop-byte l = Puts l.initial.out (hex_bytes (take l.byte-index l.bytes)) l.out
