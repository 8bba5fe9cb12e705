-- A whole pair between two lines of text: its line goes straight into the output, where there is room for any line, and the
-- reading comes to the same as byte by byte.
-- Assumes nothing.
use mathlib.Core.Bool.{Bool, false}
use mathlib.Core.List.{List, ◌++◌}
use mathlib.Core.Path.{◌≡◌, refl, ap, ap₂, sym, ◌∙◌}
use Prim.Native.Nat.{ℕ, ◌+◌, ◌-◌, ◌≤◌, ◌<◌}
use native.Mathlib.Omega.{arith}
use borrow.Author.Tests.{le-ltb, lt-leb}
use lib.Dec.{ltb}
use lib.ListN.{drop, get_or, length, take}
use lib.Seq.{take_all}
use Rattle.code.specs.Pair.{pair}
use Rattle.lines.proofs.Bounds.{pair_fits}
use Rattle.lines.proofs.Memory.{all_said, empty_begun}
use Rattle.lines.proofs.Puts.{all_places, puts_length}
use Rattle.lines.proofs.Reading.{byte_taken, goes_on_lem}
use Rattle.lines.proofs.Waiting.{how_many_lem}
use Rattle.lines.specs.Line.{empty_line, line_length, over, pending, waiting, writes}
use Rattle.lines.specs.Listing.{most_pairs}
use Rattle.lines.specs.Midway.{HasPair, Onward, comes_to}
use Rattle.lines.specs.Pieces.{absorbed, after_pair, between_pairs, counted, with_half, with_line}
use Rattle.lines.specs.Put.{Placed, Puts, placed, put_all}
use Rattle.lines.specs.Words.{line_of}
use Rattle.lines.specs.declared.line.Line.{Line}
use Rattle.lines.specs.declared.listing.Listing.{Listing}
use Rattle.lines.specs.declared.put.Writer.{Writer}
use Rattle.receiver.specs.Receiver.{Stepped, step}
use Rattle.receiver.specs.declared.state.Cea608State.{Cea608State}
use Rattle.std.specs.Prelude.{Option, None}

-- a state between two pairs, by its receiver and its counts
pub as_between_pairs : (l : Listing) → l.half ≡ None → l.ended ≡ false → l.line ≡ empty_line → l ≡ between_pairs l.receiver l.pairs l.refused
as_between_pairs l whole on empty =
    ap {B = Listing} (λ (h : Option ℕ). record { receiver = l.receiver; half = h; pairs = l.pairs; refused = l.refused; ended = l.ended; line = l.line }) whole
    ∙ ap₂ {C = Listing} (λ (t : Bool) (x : Line). record { receiver = l.receiver; half = None; pairs = l.pairs; refused = l.refused; ended = t; line = x }) on empty

first_byte_lem : (s : Cea608State) (k q a : ℕ) → k < most_pairs → absorbed (between_pairs s k q) a ≡ with_half (between_pairs s k q) a
unfolding absorbed
first_byte_lem s k q a less = rw (lt-leb most_pairs k less) refl

second_byte : (s : Cea608State) (k q a b : ℕ) → k < most_pairs → absorbed (with_half (between_pairs s k q) a) b ≡ after_pair (between_pairs s k q) (step s (pair a b))
unfolding absorbed
second_byte s k q a b less = rw (lt-leb most_pairs k less) refl

module _ (input : List ℕ) (taken : ℕ) (s : Cea608State) (k q : ℕ) (output : List ℕ) (written : ℕ) (whole : taken + 2 ≤ length input) (room : written + line_length ≤ length output) (less : k < most_pairs) where
  abbrev heard : Stepped
  heard = step s (pair (get_or input taken 0) (get_or input (taken + 1) 0))

  abbrev w : List ℕ
  w = line_of k heard.0

  short : length w ≤ 42
  short = pair_fits s (pair (get_or input taken 0) (get_or input (taken + 1) 0)) k less

  -- both bytes are taken, and the line of the pair waits
  abbrev line_waits : Listing
  line_waits = after_pair (between_pairs s k q) heard

  waits : pending line_waits.line ≡ w
  waits = (all_said w empty_line empty_begun (omega arith) (omega (arith, short))).waits

  how_much : waiting line_waits.line ≡ length w
  how_much = sym (how_many_lem line_waits.line) ∙ ap length waits

  said_is : writes line_waits.line (length output - written) ≡ w
  said_is = ap (take (length output - written)) waits ∙ take_all (length output - written) w (omega (arith, short, room))

  both_taken : comes_to input (taken + 2) line_waits output written ≡ comes_to input taken (between_pairs s k q) output written
  both_taken =
      let two : taken + 2 ≡ taken + 1 + 1 = omega arith in
      let a = get_or input taken 0 in
      let b = get_or input (taken + 1) 0 in
      ap (λ (n : ℕ). comes_to input n line_waits output written) two
      ∙ byte_taken input (taken + 1) (with_half (between_pairs s k q) a) output written (omega (arith, whole)) refl refl line_waits (sym (second_byte s k q a b less))
      ∙ byte_taken input taken (between_pairs s k q) output written (omega (arith, whole)) refl refl (with_half (between_pairs s k q) a) (sym (first_byte_lem s k q a less))

  straight : (next : Placed) → next ≡ put_all (written, output) w → comes_to input (taken + 2) (between_pairs heard.1 (k + 1) (counted heard.0 q)) next.1 next.0 ≡ comes_to input taken (between_pairs s k q) output written
  straight next put =
      let placed = put ∙ all_places w written output (omega (arith, short, room)) in
      let quiet : ltb (length output - written) (waiting line_waits.line) ≡ false = le-ltb (length output - written) (waiting line_waits.line) (omega (arith, how_much, short, room)) in
      ap (λ (x : Placed). comes_to input (taken + 2) (with_line line_waits empty_line) x.1 x.0) placed
      ∙ ap (λ (t : List ℕ). comes_to input (taken + 2) (with_line line_waits empty_line) (take written output ++ over t (drop written output)) (written + length t)) (sym said_is)
      ∙ goes_on_lem line_waits output written (omega (arith, room)) input (taken + 2) refl quiet
      ∙ both_taken

  -- the same with what the receiver, the count and the put were found to be
  module _ (told : Stepped) (found : told ≡ heard) (next : Placed) (put : next ≡ put_all (written, output) (line_of k told.0)) where
    line_put : next ≡ put_all (written, output) w
    line_put = put ∙ ap (λ (r : Stepped). put_all (written, output) (line_of k r.0)) found

    pub pair_taken : (n : ℕ) → n ≡ counted told.0 q → comes_to input (taken + 2) (between_pairs told.1 (k + 1) n) next.1 next.0 ≡ comes_to input taken (between_pairs s k q) output written
    pair_taken n refusals =
        ap (λ (m : ℕ). comes_to input (taken + 2) (between_pairs told.1 (k + 1) m) next.1 next.0) refusals
        ∙ ap (λ (r : Stepped). comes_to input (taken + 2) (between_pairs r.1 (k + 1) (counted r.0 q)) next.1 next.0) found
        ∙ straight next line_put

    -- the memory is as long as it was, and the place inside it
    pub same_memory : length next.1 ≡ length output
    same_memory = ap (λ (x : Placed). length x.1) line_put ∙ puts_length w (written, output)

    pub place_inside : next.0 ≤ length next.1
    place_inside =
        omega (arith, ap (λ (x : Placed). x.0) (line_put ∙ all_places w written output (omega (arith, short, room))), short, room, same_memory)

-- some pairs of a loop were listed, and there is one more
pub record Midst (input : List ℕ) (from : ℕ) (l : Listing) (first : Writer) (taken : ℕ) (s : Cea608State) (k q : ℕ) (w : Writer) : Type 0 where
  pub same_memory : w.out.ghost_name ≡ first.out.ghost_name
  pub comes : comes_to input taken (between_pairs s k q) w.out.now w.at ≡ comes_to input from (between_pairs l.receiver l.pairs l.refused) first.out.now first.at
  pub same_length : length w.out.now ≡ length first.out.now
  pub on : from ≤ taken
  pub has : HasPair input taken k w.out.now w.at
  pub one : taken ≡ from → (s ≡ l.receiver) × (k ≡ l.pairs) × (q ≡ l.refused) × (placed w ≡ placed first)

module _ {input : List ℕ} {from taken k q : ℕ} {l : Listing} {s : Cea608State} {first w next : Writer} (m : Midst input from l first taken s k q w) {told : Stepped} (found : told ≡ step s (pair (get_or input taken 0) (get_or input (taken + 1) 0))) (puts : Puts w (line_of k told.0) next) {n : ℕ} (refusals : n ≡ counted told.0 q) where
  further_on : comes_to input (taken + 2) (between_pairs told.1 (k + 1) n) next.out.now next.at ≡ comes_to input from (between_pairs l.receiver l.pairs l.refused) first.out.now first.at
  further_on =
      pair_taken input taken s k q w.out.now w.at m.has.0 m.has.1 m.has.2 told found (placed next) puts.put n refusals ∙ m.comes

  still_long : length next.out.now ≡ length first.out.now
  still_long =
      same_memory input taken s k q w.out.now w.at m.has.0 m.has.1 m.has.2 told found (placed next) puts.put ∙ m.same_length

  pub still_inside : next.at ≤ length next.out.now
  still_inside = place_inside input taken s k q w.out.now w.at m.has.0 m.has.1 m.has.2 told found (placed next) puts.put

  pub one_more_pair : HasPair input (taken + 2) (k + 1) next.out.now next.at → Midst input from l first (taken + 2) told.1 (k + 1) n next
  one_more_pair has = record {
    same_memory = puts.same_memory ∙ m.same_memory;
    comes = further_on;
    same_length = still_long;
    on = omega (arith, m.on);
    has = has;
    one = λ same. absurd (omega (arith, same, m.on));
  }

  pub no_more_pairs : (now : Listing) → now ≡ between_pairs told.1 (k + 1) n → Onward input from l first (now, taken + 2) next
  no_more_pairs now e = record {
    further = record {
      same_memory = puts.same_memory ∙ m.same_memory;
      comes = ap (λ (x : Listing). comes_to input (taken + 2) x next.out.now next.at) e ∙ further_on;
      same_length = still_long;
      on = omega (arith, m.on);
      between = (ap (λ (x : Listing). x.line) e, ap (λ (x : Listing). x.ended) e, m.has.0, still_inside);
    };
    one = λ only.
        let here : taken ≡ from = omega (arith, only, m.on, m.has.0) in
        let same = m.one here in
        let heard = step l.receiver (pair (get_or input from 0) (get_or input (from + 1) 0)) in
        let told_so : told ≡ heard = found ∙ ap₂ (λ (x : Cea608State) (i : ℕ). step x (pair (get_or input i 0) (get_or input (i + 1) 0))) same.0 here in (
          e
              ∙ ap (λ (j : ℕ). between_pairs told.1 (k + 1) j) refusals
              ∙ ap₂ (λ (r : Stepped) (j : ℕ). between_pairs r.1 (j + 1) (counted r.0 q)) told_so same.1
              ∙ ap (λ (j : ℕ). between_pairs heard.1 (l.pairs + 1) (counted heard.0 j)) same.2,
          puts.put
              ∙ ap (λ (x : Placed). put_all x (line_of k told.0)) same.3
              ∙ ap₂ (λ (j : ℕ) (r : Stepped). put_all (placed first) (line_of j r.0)) same.1 told_so,
        );
  }
