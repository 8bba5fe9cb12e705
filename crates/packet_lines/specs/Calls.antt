-- Calls in a row over an input, in the port's own words: each is offered any part of what is left, with an output of any size;
-- what is not taken is left.
use Rattle.std.specs.Prelude.{ℕ, drop, take, true, cond, List, [], ◌++◌, ◌⊎◌, ◌≡◌}
use Rattle.extended.specs.State.{reader_of}
use Rattle.lines.specs.Cutting.{half_bytes}
use Rattle.packet_lines.specs.Packets.{packets_from}
use Rattle.packet_lines.specs.Pieces.{end_packets, fresh_listing, read_outcome, read_packets}
use Rattle.packet_lines.specs.declared.listing.PacketListing.{PacketListing}
use Rattle.lines.specs.declared.listing.Progress.{Progress}

-- what a state has still to say, with the input that is left
abbrev pub says_yet : PacketListing → List ℕ → List ℕ
says_yet l input = cond l.ended [] (packets_from (reader_of l.state) l.pairs l.packets l.refused (half_bytes l.half ++ input))

-- what was written so far, the state, and what is left of the input
pub record Run : Type 0 where
  pub text : List ℕ
  pub listing : PacketListing
  pub left : List ℕ

abbrev pub began : List ℕ → Run
began bytes = record { text = []; listing = fresh_listing; left = bytes }

-- after a call that answered so and left this output: what it wrote is kept
abbrev pub called : PacketListing × Progress → List ℕ → Run → Run
called p output r = record {
  text = r.text ++ take p.1.written output;
  listing = p.0;
  left = drop p.1.taken r.left;
}

-- nothing is left of the input, or the limit of pairs has ended the listing by itself
abbrev pub Finished : Run → Type 0
Finished r = (r.left ≡ []) ⊎ (r.listing.ended ≡ true)

-- calls as `read` and `end` promise them, `end` where the run is finished
pub data Calls : Run → Run → Type 0 where
  none : {r : Run} → Calls r r
  reads : {r last : Run} (n : ℕ) (output : List ℕ) (p : PacketListing × Progress) (after : List ℕ) → read_outcome p after ≡ read_packets r.listing (take n r.left) output → Calls (called p after r) last → Calls r last
  ends : {r last : Run} (output : List ℕ) (p : PacketListing × Progress) (after : List ℕ) → Finished r → read_outcome p after ≡ end_packets r.listing output → Calls (called p after r) last → Calls r last
