-- What the reading comes to is the same from the place where it is as from the start.
use Rattle.packet_lines.proofs.Reading.{Midst}
use Rattle.packet_lines.proofs.listing.PacketListing.read.Given as goal

abbrev pub invariant-loop-byte : goal.invariant-loop-byte
invariant-loop-byte l = Midst l.input l.initial.listing l.initial.out l.byte-index l.taken l.listing l.out
