-- A packet as a sender sends it: contents, and any number of times an interruption, a continuation and more contents. This is said
-- of the pairs, and of which pairs are refused. The port's own words.
use Rattle.std.specs.Prelude.{ℕ, ◌≤◌, length, Bool, ◌&&◌, cond, false, not, true, List, [], ◌++◌, ◌∷◌, ◌≡◌}
use Rattle.code.specs.Read.{is_odd_pair}
use Rattle.code.specs.declared.pair.Pair.{Pair}
use Rattle.extended.specs.Extended.{Reader, read, same_class}
use Rattle.extended.specs.Packet.{content_bytes, is_right_sum, most_contents}
use Rattle.extended.specs.Part.{part_of}
use Rattle.extended.specs.Reading.{Is, after, first, is_refused, second}
use Rattle.extended.specs.SentWhole.{is_other}
use Rattle.extended.specs.declared.class.Class.{Class}
use Rattle.extended.specs.declared.part.Part.TheVariants as part
use Rattle.extended.specs.declared.part.Part.{Part}

-- contents, with filler among them; a corrupted pair may stand there too, and has none
abbrev pub is_contents : Pair → Bool
is_contents p = cond (is_odd_pair p) (is_other (part_of (first p))) true

abbrev pub bytes_in : Pair → List ℕ
bytes_in p = cond (is_odd_pair p) (content_bytes (first p) (second p)) []

abbrev pub all_contents : List Pair → Bool
all_contents [] = true
all_contents (p ∷ ps) = is_contents p && all_contents ps

abbrev pub bytes_in_all : List Pair → List ℕ
bytes_in_all [] = []
bytes_in_all (p ∷ ps) = bytes_in p ++ bytes_in_all ps

-- a command, or another class's start or continuation, interrupts, unless it is refused
abbrev pub is_interruption : Class → Part → Bool
is_interruption c part.Command = true
is_interruption c (part.Start d) = not (same_class d c)
is_interruption c (part.Continuation d) = not (same_class d c)
is_interruption c part.End = false
is_interruption c part.Other = false

abbrev pub interrupts : Class → Reader → Pair → Bool
interrupts c s q = not (is_refused (read s q).0) && is_interruption c (part_of (first q))

-- after an interruption there may be anything but a start or a continuation of the class
abbrev pub is_own : Class → Part → Bool
is_own c part.Command = false
is_own c (part.Start d) = same_class d c
is_own c (part.Continuation d) = same_class d c
is_own c part.End = false
is_own c part.Other = false

abbrev pub is_foreign : Class → Pair → Bool
is_foreign c p = not (is_odd_pair p && is_own c (part_of (first p)))

abbrev pub all_foreign : Class → List Pair → Bool
all_foreign c [] = true
all_foreign c (p ∷ ps) = is_foreign c p && all_foreign c ps

-- what follows the start of a packet of this type up to its end, from s on, and the contents in it
pub data InParts (c : Class) (t : ℕ) : Reader → List Pair → List ℕ → Type 0 where
  last_part : {s : Reader} (ps : List Pair) → all_contents ps ≡ true → InParts c t s ps (bytes_in_all ps)
  part_then : {s : Reader} {rest : List Pair} {bs : List ℕ} (ps : List Pair) (q : Pair) (qs : List Pair) (p : Pair) → all_contents ps ≡ true → interrupts c (after s ps) q ≡ true → all_foreign c qs ≡ true → Is (part.Continuation c) p → second p ≡ t → InParts c t (read (after s (ps ++ (q ∷ qs))) p).1 rest bs → InParts c t s ((ps ++ (q ∷ qs)) ++ (p ∷ rest)) (bytes_in_all ps ++ bs)

pub record SentInParts (c : Class) (s : Reader) (p : Pair) (ps : List Pair) (q : Pair) (bs : List ℕ) : Type 0 where
  pub start : Is (part.Start c) p
  pub parts : InParts c (second p) (read s p).1 ps bs
  pub fits : length bs ≤ most_contents
  pub end : Is part.End q
  pub sum : is_right_sum c (second p) bs (second q) ≡ true
