-- A packet that is sent whole, and how it is reported, for the laws. Between its start and its end there may stand captions,
-- padding, refused pairs and packets of other classes. The port's own words.
use Rattle.std.specs.Prelude.{ℕ, ◌≤◌, length, Bool, ◌&&◌, cond, false, not, true, List, [], ◌++◌, ◌∷◌, ◌≡◌}
use Rattle.code.specs.Outcome.{answer}
use Rattle.code.specs.Read.{is_odd_pair}
use Rattle.code.specs.declared.pair.Pair.{Pair}
use Rattle.extended.specs.Extended.{Reader, packet, read, same_class}
use Rattle.extended.specs.Packet.{content_bytes, is_right_sum, most_contents}
use Rattle.extended.specs.Part.{part_of}
use Rattle.extended.specs.Reading.{Is, after, answers, first, second}
use Rattle.extended.specs.Reports.{times_reported}
use Rattle.extended.specs.declared.class.Class.{Class}
use Rattle.extended.specs.declared.part.Part.TheVariants as part
use Rattle.extended.specs.declared.part.Part.{Part}
use Rattle.extended.specs.declared.state.Running.TheVariants as running
use Rattle.extended.specs.declared.state.Running.{Running}

-- whether a class runs
abbrev pub runs : Class → Running → Bool
runs c running.Captions = false
runs c (running.Extended d) = same_class d c

abbrev pub is_other : Part → Bool
is_other part.Command = false
is_other (part.Start c) = false
is_other (part.Continuation c) = false
is_other part.End = false
is_other part.Other = true

abbrev pub is_end : Part → Bool
is_end part.Command = false
is_end (part.Start c) = false
is_end (part.Continuation c) = false
is_end part.End = true
is_end part.Other = false

abbrev pub is_start_of : Class → Part → Bool
is_start_of c part.Command = false
is_start_of c (part.Start d) = same_class d c
is_start_of c (part.Continuation d) = false
is_start_of c part.End = false
is_start_of c part.Other = false

-- what a pair brings to the packet of a class: its content bytes, where it is received as contents while the class runs
abbrev pub brings : Class → Reader → Pair → List ℕ
brings c s p =
    cond (is_odd_pair p && (is_other (part_of (first p)) && runs c s.running)) (content_bytes (first p) (second p)) []

abbrev pub brought : Class → Reader → List Pair → List ℕ
brought c s [] = []
brought c s (p ∷ ps) = brings c s p ++ brought c (read s p).1 ps

-- a start of the class, and an end while it runs
abbrev pub is_own_start : Class → Pair → Bool
is_own_start c p = is_odd_pair p && is_start_of c (part_of (first p))

abbrev pub is_own_end : Class → Reader → Pair → Bool
is_own_end c s p = is_odd_pair p && (is_end (part_of (first p)) && runs c s.running)

abbrev pub no_own_start : Class → List Pair → Bool
no_own_start c [] = true
no_own_start c (p ∷ ps) = not (is_own_start c p) && no_own_start c ps

-- none of these pairs is one or the other
abbrev pub goes_on : Class → Reader → List Pair → Bool
goes_on c s [] = true
goes_on c s (p ∷ ps) = not (is_own_start c p) && (not (is_own_end c s p) && goes_on c (read s p).1 ps)

-- A start, pairs among which there is neither another start of the class nor its end, and then, while the class runs, its end;
-- with what was brought in between, at most 32 bytes, the sum is right.
pub record SentWhole (c : Class) (s : Reader) (p : Pair) (ps : List Pair) (q : Pair) : Type 0 where
  pub start : Is (part.Start c) p
  pub between : goes_on c (read s p).1 ps ≡ true
  pub fits : length (brought c (read s p).1 ps) ≤ most_contents
  pub open_again : runs c (after (read s p).1 ps).running ≡ true
  pub end : Is part.End q
  pub sum : is_right_sum c (second p) (brought c (read s p).1 ps) (second q) ≡ true

-- No packet of the class is reported up to the end; the end reports it, with its type and these contents; and then none is, until
-- the class is started again.
pub record ReportedOnce (c : Class) (s : Reader) (p : Pair) (ps : List Pair) (q : Pair) (bs : List ℕ) : Type 0 where
  pub not_before : times_reported c (answers s (p ∷ ps)) ≡ 0
  pub at_the_end : (read (after s (p ∷ ps)) q).0 ≡ answer (packet c (second p) bs)
  pub not_after : (more : List Pair) → no_own_start c more ≡ true → times_reported c (answers (read (after s (p ∷ ps)) q).1 more) ≡ 0
