-- A reading on its way, with part of the input taken and part of the output written: what it comes to, and what holds
-- further on in the same reading. The port's own words.
use Rattle.std.specs.Prelude.{ℕ, ◌+◌, ◌-◌, ◌≤◌, ◌<◌, false, List, ◌++◌, ◌≡◌, drop, get_or, length, take}
use Rattle.code.specs.Pair.{pair}
use Rattle.lines.specs.Line.{empty_line, line_length, over}
use Rattle.lines.specs.Listing.{most_pairs}
use Rattle.lines.specs.Pieces.{Piece, Read, between_pairs, counted, piece_of}
use Rattle.lines.specs.Put.{placed, put_all}
use Rattle.lines.specs.Words.{line_of}
use Rattle.lines.specs.declared.listing.Listing.{Listing}
use Rattle.lines.specs.declared.put.Writer.{Writer}
use Rattle.receiver.specs.Receiver.{Stepped, step}

abbrev pub once_read : ℕ → ℕ → List ℕ → Piece → Read
once_read taken written output p = (taken + p.taken, written + length p.text, p.next, take written output ++ over p.text (drop written output))

abbrev pub comes_to : List ℕ → ℕ → Listing → List ℕ → ℕ → Read
comes_to input taken l output written = once_read taken written output (piece_of l (drop taken input) (length output - written))

-- between two lines of text: nothing waits, the stream goes on, and the places are inside
abbrev pub Between : List ℕ → ℕ → Listing → List ℕ → ℕ → Type 0
Between input taken l output written = (l.line ≡ empty_line) × (l.ended ≡ false) × (taken ≤ length input) × (written ≤ length output)

-- further on in the same reading: so much is taken, and the listing is this
pub record Further (input : List ℕ) (taken : ℕ) (l : Listing) (w : Writer) (r : Listing × ℕ) (next : Writer) : Type 0 where
  pub same_memory : next.out.ghost_name ≡ w.out.ghost_name
  pub comes : comes_to input r.1 r.0 next.out.now next.at ≡ comes_to input taken l w.out.now w.at
  pub same_length : length next.out.now ≡ length w.out.now
  pub on : taken ≤ r.1
  pub between : Between input r.1 r.0 next.out.now next.at

-- a pair can be listed: it is whole, there is room for any line, and the limit is not reached
abbrev pub HasPair : List ℕ → ℕ → ℕ → List ℕ → ℕ → Type 0
HasPair input taken k output written = (taken + 2 ≤ length input) × (written + line_length ≤ length output) × (k < most_pairs)

-- what was listed is one pair that gave this
abbrev pub OnePair : Stepped → Listing → Writer → Listing → Writer → Type 0
OnePair heard l w now next = (now ≡ between_pairs heard.1 (l.pairs + 1) (counted heard.0 l.refused)) × (placed next ≡ put_all (placed w) (line_of l.pairs heard.0))

-- whole pairs further on in the same reading, from between two pairs on; one where there is only one
pub record Onward (input : List ℕ) (from : ℕ) (l : Listing) (w : Writer) (r : Listing × ℕ) (next : Writer) : Type 0 where
  pub further : Further input from (between_pairs l.receiver l.pairs l.refused) w r next
  pub one : from + 2 ≡ length input → OnePair (step l.receiver (pair (get_or input from 0) (get_or input (from + 1) 0))) l w r.0 next

-- a whole reading by a writer
pub record ReadsOn (input : List ℕ) (l : Listing) (w : Writer) (r : Listing × ℕ) (next : Writer) : Type 0 where
  pub same_memory : next.out.ghost_name ≡ w.out.ghost_name
  pub comes : ◌≡◌ {A = Read} (r.1, next.at, r.0, next.out.now) (comes_to input 0 l w.out.now w.at)
