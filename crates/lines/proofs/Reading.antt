-- The reading of a piece, one turn at a time. What it comes to from a state, with some taken and written, is the same
-- before a turn and after it; where it stops, it is what the flush left.
-- Assumes nothing.
use mathlib.Core.Bool.{Bool, true, false, cond}
use mathlib.Core.List.{List, [], ◌∷◌, ◌++◌, append_assoc, append-nil}
use mathlib.Core.Path.{◌≡◌, refl, ap, ap₂, sym, ◌∙◌}
use Prim.Native.Nat.{ℕ, ◌+◌, ◌-◌, ◌≤◌, ◌<◌}
use native.Mathlib.Numerals.{add-one}
use native.Mathlib.Omega.{arith}
use lib.Dec.{ltb}
use lib.ListN.{drop, drop_of_length-le, get_or, length, length-append, length-drop, take}
use lib.Seq.{drop_at, drop-cons, drop-drop, length_front, length-take-le, take_at, take-nil}
use Rattle.lines.proofs.Puts.{all_places}
use Rattle.lines.proofs.Waiting.{empty_where_no_more, fits, left_where_more, nothing_waits}
use Rattle.lines.specs.Line.{Flushes, empty_line, has_more, over, unwritten, waiting, writes}
use Rattle.lines.specs.Midway.{Between, Further, ReadsOn, comes_to, once_read}
use Rattle.lines.specs.Pieces.{Piece, Read, absorbed, after_byte, flushed_only, piece_of, read_listing, stops, with_line}
use Rattle.lines.specs.Put.{Placed, placed}
use Rattle.lines.specs.declared.line.Line.{Line}
use Rattle.lines.specs.declared.listing.Listing.{Listing}
use Rattle.lines.specs.declared.put.Writer.{Writer}

pub begun : (input : List ℕ) (l : Listing) (output : List ℕ) → comes_to input 0 l output 0 ≡ read_listing l input output
unfolding read_listing
begun input l output =
    let whole : length output - 0 ≡ length output = omega arith in
    let p = piece_of l input (length output) in
    let taken : 0 + p.taken ≡ p.taken = omega arith in
    let written : 0 + length p.text ≡ length p.text = omega arith in
    ap (λ (room : ℕ). once_read 0 0 output (piece_of l input room)) whole
    ∙ ap₂ {C = Read} (λ (n m : ℕ). (n, m, p.next, over p.text output)) taken written

-- what a turn writes, and the listing and the output after it
abbrev unwritten_text : Listing → List ℕ → ℕ → List ℕ
unwritten_text l output written = writes l.line (length output - written)

abbrev left : Listing → List ℕ → ℕ → Listing
left l output written = with_line l (unwritten l.line (length output - written))

abbrev filled : Listing → List ℕ → ℕ → List ℕ
filled l output written = take written output ++ over (unwritten_text l output written) (drop written output)

-- text in two parts over an output
in_two_parts : (front rest w t : List ℕ) → front ++ over (w ++ t) rest ≡ (front ++ w) ++ over t (drop (length w) rest)
in_two_parts front rest w t =
    ap (λ (n : ℕ). front ++ ((w ++ t) ++ drop n rest)) (length-append w t)
    ∙ ap (λ (d : List ℕ). front ++ ((w ++ t) ++ d)) (sym (drop-drop (length t) (length w) rest))
    ∙ ap (λ (d : List ℕ). front ++ d) (append_assoc w t (drop (length t) (drop (length w) rest)))
    ∙ sym (append_assoc front w (t ++ drop (length t) (drop (length w) rest)))

-- a piece with text before its own
abbrev prefixed : List ℕ → Piece → Piece
prefixed w p = record { taken = p.taken; text = w ++ p.text; next = p.next }

-- where nothing waits, nothing is written: the end of the input leaves all as it is, and a byte is taken at once
idle_at_end : (l : Listing) (room : ℕ) → piece_of (with_line l empty_line) [] room ≡ record { taken = 0; text = []; next = with_line l empty_line }
idle_at_end l room =
    ap₂ {C = Piece} (λ (w : List ℕ) (x : Line). record { taken = 0; text = w; next = with_line l x }) (take-nil room) (empty_where_no_more empty_line room (nothing_waits room))

idle_byte : (l : Listing) (room : ℕ) → l.ended ≡ false → (a : ℕ) (rest : List ℕ) → piece_of (with_line l empty_line) (a ∷ rest) room ≡ after_byte [] (piece_of (absorbed (with_line l empty_line) a) rest room)
idle_byte l room on a rest =
    let same : room - 0 ≡ room = omega arith in
    let goes : cond l.ended true (ltb room (waiting empty_line)) ≡ false = ap₂ (λ (t b : Bool). cond t true b) on (nothing_waits room) in
    let next : List ℕ → Line → Piece = λ (w : List ℕ) (x : Line). after_byte w (piece_of (absorbed (with_line l x) a) rest (room - length w)) in
    ap (λ (t : Bool). cond t (flushed_only (with_line l empty_line) room) (next (writes empty_line room) (unwritten empty_line room))) goes
    ∙ ap₂ next (take-nil room) (empty_where_no_more empty_line room (nothing_waits room))
    ∙ ap (λ (n : ℕ). after_byte [] (piece_of (absorbed (with_line l empty_line) a) rest n)) same

-- what waits and has room is written first, and then it is as if nothing had waited
flush_first : (l : Listing) (room : ℕ) → l.ended ≡ false → ltb room (waiting l.line) ≡ false → (input : List ℕ) → piece_of l input room ≡ prefixed (writes l.line room) (piece_of (with_line l empty_line) input (room - length (writes l.line room)))
flush_first l room on none [] =
    let w = writes l.line room in
    ap₂ {C = Piece} (λ (t : List ℕ) (x : Line). record { taken = 0; text = t; next = with_line l x }) (sym (append-nil w)) (empty_where_no_more l.line room none)
    ∙ ap (prefixed w) (sym (idle_at_end l (room - length w)))
flush_first l room on none (a ∷ rest) =
    let w = writes l.line room in
    let goes : stops l room ≡ false = ap₂ (λ (t b : Bool). cond t true b) on none in
    let next : Line → Piece = λ (x : Line). after_byte w (piece_of (absorbed (with_line l x) a) rest (room - length w)) in
    ap (λ (t : Bool). cond t (flushed_only l room) (next (unwritten l.line room))) goes
    ∙ ap next (empty_where_no_more l.line room none)
    ∙ ap (prefixed w) (sym (idle_byte l (room - length w) on a rest))

-- a byte is taken, where nothing waits
pub byte_taken : (input : List ℕ) (taken : ℕ) (l : Listing) (output : List ℕ) (written : ℕ) → taken < length input → l.line ≡ empty_line → l.ended ≡ false → (m : Listing) → m ≡ absorbed l (get_or input taken 0) → comes_to input (taken + 1) m output written ≡ comes_to input taken l output written
byte_taken input taken l output written more empty on m next =
    let a = get_or input taken 0 in
    let room = length output - written in
    let idle : l ≡ with_line l empty_line = ap (with_line l) empty in
    let p = piece_of (absorbed (with_line l empty_line) a) (drop (taken + 1) input) room in
    let first : drop taken input ≡ a ∷ drop (taken + 1) input = rw (add-one, drop-cons input taken 0) in
    let one : taken + (p.taken + 1) ≡ taken + 1 + p.taken = omega arith in
    ap (λ (x : Listing). comes_to input (taken + 1) x output written) (next ∙ ap (λ (x : Listing). absorbed x a) idle)
    ∙ sym
    (ap₂ (λ (x : Listing) (i : List ℕ). once_read taken written output (piece_of x i room)) idle first
    ∙ ap (once_read taken written output) (idle_byte l room on a (drop (taken + 1) input))
    ∙ ap {B = Read} (λ (n : ℕ). (n, written + length p.text, p.next, take written output ++ over p.text (drop written output))) one)

module _ (l : Listing) (output : List ℕ) (written : ℕ) (inside : written ≤ length output) where
  short : length (unwritten_text l output written) ≤ length (drop written output)
  short = omega (arith, fits l.line (length output - written), length-drop written output)

  filled_length : length (filled l output written) ≡ length output
  filled_length =
      let w = unwritten_text l output written in
      let rest : length (over w (drop written output)) ≡ length (drop written output) = length_front (drop written output) w (length w) (sym (length-take-le (length w) (drop written output) short)) in
      length-append (take written output) (over w (drop written output))
      ∙ omega (arith, rest, length-take-le written output inside, length-drop written output)

  front_length : length (take written output ++ unwritten_text l output written) ≡ written + length (unwritten_text l output written)
  front_length =
      length-append (take written output) (unwritten_text l output written)
      ∙ ap (λ (n : ℕ). n + length (unwritten_text l output written)) (length-take-le written output inside)

  regrouped : filled l output written ≡ (take written output ++ unwritten_text l output written) ++ drop (length (unwritten_text l output written)) (drop written output)
  regrouped = sym (append_assoc (take written output) (unwritten_text l output written) (drop (length (unwritten_text l output written)) (drop written output)))

  turned : (taken : ℕ) (p : Piece) → once_read taken written output (prefixed (unwritten_text l output written) p) ≡ once_read taken (written + length (unwritten_text l output written)) (filled l output written) p
  turned taken p =
      let w = unwritten_text l output written in
      let n = written + length w in
      let more : written + length (w ++ p.text) ≡ n + length p.text = omega (arith, length-append w p.text) in
      let front : take n (filled l output written) ≡ take written output ++ w = ap (take n) regrouped ∙ take_at (take written output ++ w) (drop (length w) (drop written output)) n front_length in
      let rest : drop n (filled l output written) ≡ drop (length w) (drop written output) = ap (drop n) regrouped ∙ drop_at (take written output ++ w) (drop (length w) (drop written output)) n front_length in
      ap {B = Read} (λ (j : ℕ). (taken + p.taken, j, p.next, take written output ++ over (w ++ p.text) (drop written output))) more
      ∙ ap {B = Read} (λ (o : List ℕ). (taken + p.taken, n + length p.text, p.next, o))
      (in_two_parts (take written output) (drop written output) w p.text
      ∙ ap₂ (λ (a b : List ℕ). a ++ over p.text b) (sym front) (sym rest))

  -- all that waits is written, and the reading comes to the same
  pub goes_on_lem : (input : List ℕ) (taken : ℕ) → l.ended ≡ false → ltb (length output - written) (waiting l.line) ≡ false → comes_to input taken (with_line l empty_line) (filled l output written) (written + length (unwritten_text l output written)) ≡ comes_to input taken l output written
  goes_on_lem input taken on none =
      let w = unwritten_text l output written in
      let room = length output - written in
      let less : length (filled l output written) - (written + length w) ≡ room - length w = omega (arith, filled_length) in
      ap (λ (n : ℕ). once_read taken (written + length w) (filled l output written) (piece_of (with_line l empty_line) (drop taken input) n)) less
      ∙ sym (ap (once_read taken written output) (flush_first l room on none (drop taken input)) ∙ turned taken _)

  -- no turn more
  ends_with : (taken : ℕ) (p : Piece) → p ≡ flushed_only l (length output - written) → once_read taken written output p ≡ (taken, written + length (unwritten_text l output written), left l output written, filled l output written)
  ends_with taken p e =
      let none : taken + 0 ≡ taken = omega arith in
      ap (once_read taken written output) e
      ∙ ap {B = Read} (λ (n : ℕ). (n, written + length (unwritten_text l output written), left l output written, filled l output written)) none

  stops_at_end : (input : List ℕ) (taken : ℕ) → length input ≤ taken → comes_to input taken l output written ≡ (taken, written + length (unwritten_text l output written), left l output written, filled l output written)
  stops_at_end input taken over_all =
      ends_with taken _ (ap (λ (i : List ℕ). piece_of l i (length output - written)) (drop_of_length-le input over_all))

  stops_here : (input : List ℕ) (taken : ℕ) → taken < length input → stops l (length output - written) ≡ true → comes_to input taken l output written ≡ (taken, written + length (unwritten_text l output written), left l output written, filled l output written)
  stops_here input taken more stop =
      let room = length output - written in
      let w = unwritten_text l output written in
      let first : drop taken input ≡ get_or input taken 0 ∷ drop (taken + 1) input = rw (add-one, drop-cons input taken 0) in
      let next = absorbed (left l output written) (get_or input taken 0) in
      ends_with taken _
      (ap (λ (i : List ℕ). piece_of l i room) first
      ∙ ap (λ (t : Bool). cond t (flushed_only l room) (after_byte w (piece_of next (drop (taken + 1) input) (room - length w)))) stop)

-- the same with what a flush came to
module _ (l : Listing) (w : Writer) (inside : w.at ≤ length w.out.now) (m : Listing) (next : Writer) (flushed : Flushes l.line w m.line next) (leaves : m ≡ with_line l m.line) where
  abbrev output : List ℕ
  output = w.out.now

  abbrev text : List ℕ
  text = unwritten_text l output w.at

  put_is : placed next ≡ (w.at + length text, filled l output w.at)
  put_is = flushed.puts.put ∙ all_places text w.at output (omega (arith, fits l.line (length output - w.at), inside))

  place_is : next.at ≡ w.at + length text
  place_is = ap (λ (s : Placed). s.0) put_is

  output_is : next.out.now ≡ filled l output w.at
  output_is = ap (λ (s : Placed). s.1) put_is

  pub flushed_length : length next.out.now ≡ length output
  flushed_length = ap length output_is ∙ filled_length l output w.at inside

  pub stays_inside : next.at ≤ length next.out.now
  stays_inside = omega (arith, place_is, fits l.line (length output - w.at), inside, flushed_length)

  left_is : m ≡ left l output w.at
  left_is = leaves ∙ ap (with_line l) flushed.leaves

  ended_is : m.ended ≡ l.ended
  ended_is = ap (λ (x : Listing). x.ended) leaves

  more_is : has_more m.line ≡ ltb (length output - w.at) (waiting l.line)
  more_is = ap has_more flushed.leaves ∙ left_where_more l.line (length output - w.at)

  stopped : (taken : ℕ) → ◌≡◌ {A = Read} (taken, next.at, m, next.out.now) (taken, w.at + length text, left l output w.at, filled l output w.at)
  stopped taken = ap₂ {C = Read} (λ (s : Placed) (x : Listing). (taken, s.0, x, s.1)) put_is left_is

  pub at_end_lem : (input : List ℕ) (taken : ℕ) → length input ≤ taken → ◌≡◌ {A = Read} (taken, next.at, m, next.out.now) (comes_to input taken l output w.at)
  at_end_lem input taken over_all = stopped taken ∙ sym (stops_at_end l output w.at inside input taken over_all)

  pub where_more_is_left : (input : List ℕ) (taken : ℕ) → taken < length input → has_more m.line ≡ true → ◌≡◌ {A = Read} (taken, next.at, m, next.out.now) (comes_to input taken l output w.at)
  where_more_is_left input taken more some =
      stopped taken ∙ sym (stops_here l output w.at inside input taken more (stop_by l.ended (sym more_is ∙ some)))
    where
      stop_by : (t : Bool) {b : Bool} → b ≡ true → cond t true b ≡ true
      stop_by true e = refl
      stop_by false e = e

  pub where_ended : (input : List ℕ) (taken : ℕ) → taken < length input → m.ended ≡ true → ◌≡◌ {A = Read} (taken, next.at, m, next.out.now) (comes_to input taken l output w.at)
  where_ended input taken more end =
      let b = ltb (length output - w.at) (waiting l.line) in
      stopped taken ∙ sym (stops_here l output w.at inside input taken more (ap (λ (t : Bool). cond t true b) (sym ended_is ∙ end)))

  pub flushed_on : (input : List ℕ) (taken : ℕ) → has_more m.line ≡ false → m.ended ≡ false → comes_to input taken m next.out.now next.at ≡ comes_to input taken l output w.at
  flushed_on input taken none going =
      let no_more = sym more_is ∙ none in
      ap₂ (λ (x : Listing) (s : Placed). comes_to input taken x s.1 s.0) (left_is ∙ ap (with_line l) (empty_where_no_more l.line (length output - w.at) no_more)) put_is
      ∙ goes_on_lem l output w.at inside input taken (sym ended_is ∙ going) no_more

  pub line_is_empty : has_more m.line ≡ false → m.line ≡ empty_line
  line_is_empty none = flushed.leaves ∙ empty_where_no_more l.line (length output - w.at) (sym more_is ∙ none)

-- a reading on its way from a listing and a writer, at its start
pub record Reached (input : List ℕ) (l : Listing) (w : Writer) (taken : ℕ) (now : Listing) (next : Writer) : Type 0 where
  pub same_memory : next.out.ghost_name ≡ w.out.ghost_name
  pub comes : comes_to input taken now next.out.now next.at ≡ comes_to input 0 l w.out.now w.at
  pub taken_inside : taken ≤ length input
  pub written_inside : next.at ≤ length next.out.now

module _ {input : List ℕ} {start l m : Listing} {first w next : Writer} {taken : ℕ} (so_far : Reached input start first taken l w) (flushed : Flushes l.line w m.line next) (leaves : m ≡ with_line l m.line) where
  still : next.out.ghost_name ≡ first.out.ghost_name
  still = flushed.puts.same_memory ∙ so_far.same_memory

  pub reads_all : length input ≤ taken → ReadsOn input start first (m, taken) next
  reads_all over_all = record {
    same_memory = still;
    comes = at_end_lem l w so_far.written_inside m next flushed leaves input taken over_all ∙ so_far.comes;
  }

  pub stops_full : taken < length input → has_more m.line ≡ true → ReadsOn input start first (m, taken) next
  stops_full more full = record {
    same_memory = still;
    comes = where_more_is_left l w so_far.written_inside m next flushed leaves input taken more full ∙ so_far.comes;
  }

  pub stops_ended : taken < length input → m.ended ≡ true → ReadsOn input start first (m, taken) next
  stops_ended more end = record {
    same_memory = still;
    comes = where_ended l w so_far.written_inside m next flushed leaves input taken more end ∙ so_far.comes;
  }

  module _ (none : has_more m.line ≡ false) (going : m.ended ≡ false) where
    pub is_between : Between input taken m next.out.now next.at
    is_between = (
      line_is_empty l w so_far.written_inside m next flushed leaves none,
      going,
      so_far.taken_inside,
      stays_inside l w so_far.written_inside m next flushed leaves,
    )

    module _ {r : Listing × ℕ} {after : Writer} (further : Further input taken m next r after) where
      pub with_pairs : Reached input start first r.1 r.0 after
      with_pairs = record {
        same_memory = further.same_memory ∙ still;
        comes = further.comes ∙ flushed_on l w so_far.written_inside m next flushed leaves input taken none going ∙ so_far.comes;
        taken_inside = further.between.2;
        written_inside = further.between.3;
      }

      pub with_byte_too : r.1 < length input → (n : Listing) → n ≡ absorbed r.0 (get_or input r.1 0) → Reached input start first (r.1 + 1) n after
      with_byte_too more n e = record {
        same_memory = with_pairs.same_memory;
        comes = byte_taken input r.1 r.0 after.out.now after.at more further.between.0 further.between.1 n e ∙ with_pairs.comes;
        taken_inside = omega (arith, more);
        written_inside = with_pairs.written_inside;
      }

-- where the memory was taken back from the writer
pub read_whole : {input : List ℕ} {l : Listing} {w next : Writer} {r : Listing × ℕ} {memory : List ℕ} → memory ≡ next.out.now → ReadsOn input l w r next → ◌≡◌ {A = Read} (r.1, next.at, r.0, memory) (comes_to input 0 l w.out.now w.at)
read_whole {input} {l} {w} {next} {r} e reads = ap {B = Read} (λ (o : List ℕ). (r.1, next.at, r.0, o)) e ∙ reads.comes
