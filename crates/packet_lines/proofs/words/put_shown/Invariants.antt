-- The characters of the bytes so far.
use Rattle.std.proofs.Common.{take}
use Rattle.lines.specs.Put.{Puts}
use Rattle.packet_lines.specs.Words.{characters}
use Rattle.packet_lines.proofs.words.put_shown.Given as goal

abbrev pub invariant-loop-byte : goal.invariant-loop-byte
invariant-loop-byte l = Puts l.initial.out (characters (take l.byte-index l.bytes)) l.out
