-- The reading of a piece, one byte at a time. What it comes to from a state, with some taken and written, is the same before
-- a byte and after it; where no byte is taken, it is what there is.
-- Assumes nothing.
use Rattle.std.specs.Prelude.{Option, None, Some, Result}
use Prim.Native.Nat.{ℕ, ◌+◌, ◌-◌, ◌≤◌, ◌<◌}
use lib.Dec.{leb}
use lib.ListN.{drop, drop_of_length-le, get_or, length}
use lib.Seq.{drop-cons}
use mathlib.Core.Bool.{Bool, true, false, cond}
use mathlib.Core.List.{List, ◌∷◌, ◌++◌}
use mathlib.Core.Path.{◌≡◌, refl, ap, ap₂, sym, subst, ◌∙◌}
use native.Mathlib.Numerals.{add-one}
use native.Mathlib.Omega.{arith}
use Rattle.extended.specs.State.{Step, given_outcome, received_outcome, report_of}
use Rattle.extended.specs.declared.state.ExtendedError.{ExtendedError}
use Rattle.extended.specs.declared.state.ExtendedState.{ExtendedState}
use Rattle.extended.specs.declared.state.Given.{Given}
use Rattle.lines.proofs.Puts.{all_places, put_parts, puts_length, same_bytes, taken_back}
use Rattle.lines.specs.Listing.{most_pairs}
use Rattle.lines.specs.Pieces.{end_refusal}
use Rattle.lines.specs.Put.{Placed, Puts, placed, put_all, room_of}
use Rattle.lines.specs.declared.listing.EndError.TheVariants as end
use Rattle.lines.specs.declared.put.Writer.{Writer}
use Rattle.packet_lines.proofs.Bounds.{a_byte_fits, the_end_fits}
use Rattle.packet_lines.proofs.ProgressLemmas.{goes_on_lem, no_more_than_room}
use Rattle.packet_lines.specs.Pieces.{Piece, Read, Says, Turn, after_byte, closed, count_half, counted, end_packets, end_words, ended_by, ending, of_byte, of_end, of_pair, piece_of, read_as, read_packets, refused_by, said_only, stays, stops}
use Rattle.packet_lines.specs.Words.{last_line, line_of}
use Rattle.packet_lines.specs.declared.listing.PacketListing.{PacketListing}

-- how many bytes were taken, the state, the place in the output and the output
abbrev pub Reached : Type 0
Reached = ℕ × PacketListing × Placed

abbrev once_read : ℕ → Placed → Piece → Reached
once_read taken s p = (taken + p.taken, p.next, put_all s p.text)

abbrev pub comes_to : List ℕ → ℕ → PacketListing → Placed → Reached
comes_to input taken l s = once_read taken s (piece_of l (drop taken input) (length s.1 - s.0))

-- text that fits, put from the start on
from_the_start : (output text : List ℕ) → length text ≤ length output → put_all (0, output) text ≡ (length text, text ++ drop (length text) output)
from_the_start output text fits =
    let none : 0 + length text ≡ length text = omega arith in
    all_places text 0 output (omega (arith, fits))
    ∙ ap {B = Placed} (λ (n : ℕ). (n, text ++ drop (length text) output)) none

abbrev answered : Reached → Read
answered x = (x.0, x.2.0, x.1, x.2.1)

pub as_promised : (input : List ℕ) (l : PacketListing) (output : List ℕ) {taken written : ℕ} {m : PacketListing} {after : List ℕ} → ◌≡◌ {A = Reached} (taken, m, (written, after)) (comes_to input 0 l (0, output)) → (taken, written, m, after) ≡ read_packets l input output
unfolding read_packets
as_promised input l output e =
    let whole : length output - 0 ≡ length output = omega arith in
    let p = piece_of l input (length output) in
    let none : 0 + p.taken ≡ p.taken = omega arith in
    ap answered e
    ∙ ap (λ (room : ℕ). answered (once_read 0 (0, output) (piece_of l input room))) whole
    ∙ ap₂ {C = Read} (λ (n : ℕ) (s : Placed). (n, s.0, p.next, s.1)) none (from_the_start output p.text (no_more_than_room input l (length output)))

-- no byte more is taken
stays_at : (taken : ℕ) (s : Placed) (l : PacketListing) (p : Piece) → p ≡ stays l → once_read taken s p ≡ (taken, l, s)
stays_at taken s l p e =
    let none : taken + 0 ≡ taken = omega arith in
    ap (once_read taken s) e ∙ ap {B = Reached} (λ (n : ℕ). (n, l, s)) none

pub at_the_end : (input : List ℕ) (taken : ℕ) (l : PacketListing) (s : Placed) → length input ≤ taken → (taken, l, s) ≡ comes_to input taken l s
at_the_end input taken l s over =
    sym (stays_at taken s l _ (ap (λ (i : List ℕ). piece_of l i (length s.1 - s.0)) (drop_of_length-le input over)))

pub where_it_stops : (input : List ℕ) (taken : ℕ) (l : PacketListing) (s : Placed) → taken < length input → stops l (length s.1 - s.0) ≡ true → (taken, l, s) ≡ comes_to input taken l s
where_it_stops input taken l s more stop =
    let room = length s.1 - s.0 in
    let a = get_or input taken 0 in
    let rest = drop (taken + 1) input in
    let first : drop taken input ≡ a ∷ rest = rw (add-one, drop-cons input taken 0) in
    sym
    (stays_at taken s l _
    (ap (λ (i : List ℕ). piece_of l i room) first
    ∙ ap (λ (t : Bool). cond t (stays l) (after_byte (of_byte l a) (piece_of (of_byte l a).next rest (room - length (of_byte l a).text)))) stop))

-- a byte that did this is taken
module _ (l : PacketListing) (a : ℕ) {w next : Writer} {m : PacketListing} (inside : w.at ≤ length w.out.now) (goes : stops l (room_of w) ≡ false) (says : Says (of_byte l a) w m next) where
  abbrev text : List ℕ
  text = (of_byte l a).text

  abbrev s : Placed
  s = placed w

  abbrev room : ℕ
  room = length s.1 - s.0

  fits : s.0 + length text ≤ length s.1
  fits = omega (arith, a_byte_fits l a, (goes_on_lem l room goes).1, inside)

  place : next.at ≡ s.0 + length text
  place = ap (λ (x : Placed). x.0) (says.puts.put ∙ all_places text s.0 s.1 fits)

  pub stays_long : length next.out.now ≡ length w.out.now
  stays_long = ap (λ (x : Placed). length x.1) says.puts.put ∙ puts_length text s

  pub stays_inside : next.at ≤ length next.out.now
  stays_inside = omega (arith, place, fits, stays_long)

  pub one_taken : (input : List ℕ) (taken : ℕ) → taken < length input → get_or input taken 0 ≡ a → comes_to input (taken + 1) m (placed next) ≡ comes_to input taken l (placed w)
  one_taken input taken more is =
      let rest = drop (taken + 1) input in
      let left : length next.out.now - next.at ≡ room - length text = omega (arith, place, stays_long) in
      let p = piece_of (of_byte l a).next rest (room - length text) in
      let count : taken + 1 + p.taken ≡ taken + (p.taken + 1) = omega arith in
      let first : drop taken input ≡ get_or input taken 0 ∷ rest = rw (add-one, drop-cons input taken 0) in
      ap₂ (λ (x : PacketListing) (n : ℕ). once_read (taken + 1) (placed next) (piece_of x rest n)) says.leaves left
      ∙ ap₂ {C = Reached} (λ (n : ℕ) (x : Placed). (n, p.next, x)) count (ap (λ (x : Placed). put_all x p.text) says.puts.put ∙ sym (put_parts s text p.text))
      ∙ sym
      (ap (λ (i : List ℕ). once_read taken s (piece_of l i room)) (first ∙ ap (λ (b : ℕ). b ∷ rest) is)
      ∙ ap (λ (t : Bool). once_read taken s (cond t (stays l) (after_byte (of_byte l a) p))) goes)

-- a reading on its way
pub record Midst (input : List ℕ) (start : PacketListing) (first : Writer) (i taken : ℕ) (l : PacketListing) (w : Writer) : Type 0 where
  pub same_memory : w.out.ghost_name ≡ first.out.ghost_name
  pub place : taken ≡ i
  pub comes : comes_to input taken l (placed w) ≡ comes_to input 0 start (placed first)
  pub inside : w.at ≤ length w.out.now

pub one_more_byte : {input : List ℕ} {start l m : PacketListing} {first w next : Writer} {i taken : ℕ} → Midst input start first i taken l w → i < length input → stops l (room_of w) ≡ false → Says (of_byte l (get_or input i 0)) w m next → Midst input start first (i + 1) (taken + 1) m next
one_more_byte {input} {start} {l} {m} {first} {w} {next} {i} {taken} so_far less goes says = record {
  same_memory = says.puts.same_memory ∙ so_far.same_memory;
  place = ap (λ (n : ℕ). n + 1) so_far.place;
  comes = one_taken l (get_or input i 0) so_far.inside goes says input taken (omega (arith, less, so_far.place)) (ap (λ (n : ℕ). get_or input n 0) so_far.place) ∙ so_far.comes;
  inside = stays_inside l (get_or input i 0) so_far.inside goes says;
}

module _ {input : List ℕ} {start l : PacketListing} {first w : Writer} {i taken : ℕ} (output : List ℕ) (so_far : Midst input start first i taken l w) (begun : placed first ≡ (0, output)) {memory : List ℕ} (back : memory ≡ w.out.now) where
  over_so : ◌≡◌ {A = Reached} (taken, l, placed w) (comes_to input taken l (placed w)) → (taken, w.at, l, memory) ≡ read_packets start input output
  over_so stopped =
      as_promised input start output
      (ap {B = Reached} (λ (o : List ℕ). (taken, l, (w.at, o))) back
      ∙ stopped
      ∙ so_far.comes
      ∙ ap (comes_to input 0 start) begun)

  pub over_at_the_end : length input ≤ i → (taken, w.at, l, memory) ≡ read_packets start input output
  over_at_the_end over = over_so (at_the_end input taken l (placed w) (omega (arith, over, so_far.place)))

  pub over_where_it_stops : i < length input → stops l (room_of w) ≡ true → (taken, w.at, l, memory) ≡ read_packets start input output
  over_where_it_stops less stop =
      over_so (where_it_stops input taken l (placed w) (omega (arith, less, so_far.place)) stop)

-- what a whole pair did: the line of its answer is put, and the answer is counted
pub pair_said : (l : PacketListing) (r : ExtendedState × Result (Option Given) ExtendedError) (given : Step) {w next : Writer} {m : PacketListing} → received_outcome r ≡ given → Puts w (line_of l.pairs (report_of (given_outcome r.1))) next → m ≡ counted l r.0 (report_of (given_outcome r.1)) → Says (of_pair l given) w m next
pair_said l r given step puts now = record {
  puts = same_bytes (ap (λ (y : Step). line_of l.pairs (report_of y.1)) step) puts;
  leaves = now ∙ ap (λ (y : Step). (of_pair l y).next) step;
}

-- the stream ends with these words, the last line and so many refusals
pub closed_so : (l : PacketListing) (words : List ℕ) {n q : ℕ} {w next : Writer} {m : PacketListing} → n ≡ q → Puts w (words ++ last_line l.pairs l.packets n) next → m ≡ closed l n → Says (ending l words q) w m next
closed_so l words count puts now = record {
  puts = same_bytes (ap (λ (i : ℕ). words ++ last_line l.pairs l.packets i) count) puts;
  leaves = now ∙ ap (closed l) count;
}

-- a turn that was found to be this
pub same_turn : {t u : Turn} {w next : Writer} {m : PacketListing} → t ≡ u → Says t w m next → Says u w m next
same_turn {w = w} {next} {m} e says = subst (λ (x : Turn). Says x w m next) e says

-- the end of the input, by what refuses it
pub ended_so : (l : PacketListing) → ended_by (end_refusal l.half l.pairs) l ≡ of_end l
ended_so l = by_half l.half
  where
    by_limit : (t : Bool) → ended_by (Some (cond t end.TooManyPairs end.HalfAPair)) l ≡ refused_by (cond t 10 9) l
    by_limit true = refl
    by_limit false = refl

    by_half : (h : Option ℕ) → ended_by (end_refusal h l.pairs) l ≡ ending l (end_words h l.pairs) (count_half h l.refused)
    by_half None = refl
    by_half (Some x) = by_limit (leb most_pairs l.pairs)

-- the end, where it says nothing and where it says the last lines
pub no_end : (l : PacketListing) (output : List ℕ) → stops l (length output) ≡ true → (0, 0, l, output) ≡ end_packets l output
unfolding end_packets
no_end l output stop = ap (λ (t : Bool). read_as (cond t (stays l) (said_only (of_end l))) output) (sym stop)

pub the_end : (l : PacketListing) (output : List ℕ) {w next : Writer} {m : PacketListing} {memory : List ℕ} → stops l (length output) ≡ false → placed w ≡ (0, output) → Says (of_end l) w m next → memory ≡ next.out.now → (0, next.at, m, memory) ≡ end_packets l output
unfolding end_packets
the_end l output {next = next} goes first says back =
    let room = goes_on_lem l (length output) goes in
    ap₂ {C = Read} (λ (s : Placed) (x : PacketListing). (0, s.0, x, s.1)) (taken_back next back (says.puts.put ∙ ap (λ (s : Placed). put_all s (of_end l).text) first) ∙ from_the_start output (of_end l).text (omega (arith, the_end_fits l, room.1))) says.leaves
    ∙ ap (λ (t : Bool). read_as (cond t (stays l) (said_only (of_end l))) output) (sym goes)
