-- What a byte and the end say, from a state that calls leave of a fresh one. A byte says its part of what its state has still
-- to say, and leaves the rest to the next; the end says all of it.
-- Assumes nothing.
use Rattle.std.specs.Prelude.{Option, None, Some}
use Prim.Native.Nat.{ℕ, ◌+◌, ◌-◌, ◌≤◌, ◌<◌}
use borrow.Author.Tests.{leb-false, lt-leb}
use lib.Dec.{leb, ltb}
use lib.ListN.{drop, length}
use mathlib.Core.Bool.{Bool, true, false, cond, true≢false}
use mathlib.Core.List.{List, [], ◌∷◌, ◌++◌, append_assoc, append-nil}
use mathlib.Core.Path.{◌≡◌, refl, ap, ap₂, sym, subst, ◌∙◌}
use native.Mathlib.Omega.{arith}
use Rattle.code.specs.Outcome.{Outcome, answer, refused}
use Rattle.code.specs.Pair.{pair}
use Rattle.extended.proofs.Refines.{fresh_is_whole, step_refines, step_whole}
use Rattle.extended.specs.Extended.{Read, Reader, Report, event, nothing, packet}
use Rattle.extended.specs.State.{reader_of, report_of, step}
use Rattle.extended.specs.Whole.{Whole}
use Rattle.lines.proofs.AnyCutting.{drop_more, one_more_lem}
use Rattle.lines.specs.Cutting.{half_bytes}
use Rattle.lines.specs.Listing.{most_pairs}
use Rattle.lines.specs.Words.{line, refused_words}
use Rattle.packet_lines.specs.Calls.{says_yet}
use Rattle.packet_lines.specs.Packets.{ends_refused, packets_from, packets_in, refusals}
use Rattle.packet_lines.specs.Pieces.{Piece, Turn, after_byte, any_text, by_half, end_of, end_words, fresh_listing, of_byte, of_end, of_pair, piece_of, refused_by, said_only, stays, with_half, count_half, count_packet, count_refusal}
use Rattle.packet_lines.specs.Words.{last_line, line_of}
use Rattle.packet_lines.specs.declared.listing.PacketListing.{PacketListing}

-- A state that calls leave of a fresh one: where it has not ended, its counts are those of a stream within the
-- limit, and the reader's state is whole.
pub record Open (l : PacketListing) : Type 0 where
  pub pairs : l.pairs ≤ most_pairs
  pub counts : l.packets + l.refused ≤ l.pairs
  pub whole : Whole l.state

abbrev pub Sound : PacketListing → Type 0
Sound l = (l.ended ≡ false) → Open l

pub fresh_sound : Sound fresh_listing
fresh_sound on = record { pairs = omega arith; counts = omega arith; whole = fresh_is_whole }

-- the rest of the text, where the listing has not ended, and where it has
abbrev rest : PacketListing → List ℕ → List ℕ
rest l input = packets_from (reader_of l.state) l.pairs l.packets l.refused (half_bytes l.half ++ input)

open_says : (l : PacketListing) (input : List ℕ) → l.ended ≡ false → says_yet l input ≡ rest l input
open_says l input e = ap (λ (t : Bool). cond t [] (rest l input)) e

pub done_is_silent : (l : PacketListing) (input : List ℕ) → l.ended ≡ true → says_yet l input ≡ []
done_is_silent l input e = ap (λ (t : Bool). cond t [] (rest l input)) e

-- a packet and a refusal count as one each
counts_packet : (o : Outcome Report) (n : ℕ) → n ≤ most_pairs → count_packet o n ≡ n + packets_in o
counts_packet (answer nothing) n few = omega arith
counts_packet (answer (event e)) n few = omega arith
counts_packet (answer (packet c t bs)) n few = one_more_lem n few
counts_packet (refused m) n few = omega arith

counts_refusal : (o : Outcome Report) (q : ℕ) → q ≤ most_pairs → count_refusal o q ≡ q + refusals o
counts_refusal (answer r) q few = omega arith
counts_refusal (refused m) q few = one_more_lem q few

one_at_most : (o : Outcome Report) → packets_in o + refusals o ≤ 1
one_at_most (answer nothing) = omega arith
one_at_most (answer (event e)) = omega arith
one_at_most (answer (packet c t bs)) = omega arith
one_at_most (refused m) = omega arith

-- a refusal of the stream ends it
refused_says : (m : ℕ) (l : PacketListing) → Open l → (refused_by m l).text ≡ ends_refused m l.pairs l.packets l.refused
refused_says m l o =
    ap (λ (q : ℕ). line l.pairs (refused_words m) ++ last_line l.pairs l.packets q)
    (one_more_lem l.refused (omega (arith, o.pairs, o.counts)))

-- at the limit one byte more is refused, whatever comes after it
at_the_limit : (s : Reader) (k n q a : ℕ) (more : List ℕ) → leb most_pairs k ≡ true → packets_from s k n q (a ∷ more) ≡ ends_refused 10 k n q
at_the_limit s k n q a [] e = rw e refl
at_the_limit s k n q a (b ∷ more) e = rw e refl

-- what a turn says, and what its state has still to say
abbrev pub SaysOn : Turn → List ℕ → List ℕ
SaysOn t more = t.text ++ says_yet t.next more

module _ (l : PacketListing) (on : l.ended ≡ false) (o : Open l) where
  limit_says : (h : Option ℕ) (a : ℕ) (more : List ℕ) → leb most_pairs l.pairs ≡ true → packets_from (reader_of l.state) l.pairs l.packets l.refused (half_bytes h ++ (a ∷ more)) ≡ SaysOn (refused_by 10 l) more
  limit_says h a more e = by h ∙ sym (append-nil (refused_by 10 l).text ∙ refused_says 10 l o)
    where
      by : (h : Option ℕ) → packets_from (reader_of l.state) l.pairs l.packets l.refused (half_bytes h ++ (a ∷ more)) ≡ ends_refused 10 l.pairs l.packets l.refused
      by None = at_the_limit (reader_of l.state) l.pairs l.packets l.refused a more e
      by (Some x) = at_the_limit (reader_of l.state) l.pairs l.packets l.refused x (a ∷ more) e

  pair_says : (x a : ℕ) (more : List ℕ) → l.pairs < most_pairs → packets_from (reader_of l.state) l.pairs l.packets l.refused (x ∷ a ∷ more) ≡ SaysOn (of_pair l (step l.state (pair x a))) more
  pair_says x a more less =
      let r = step l.state (pair x a) in
      let below : leb most_pairs l.pairs ≡ false = lt-leb most_pairs l.pairs less in
      let found = counts_packet (report_of r.1) l.packets (omega (arith, o.counts, less)) in
      let counted = counts_refusal (report_of r.1) l.refused (omega (arith, o.counts, less)) in
      rw below
      (ap (λ (x : Read). line_of l.pairs x.0 ++ packets_from x.1 (l.pairs + 1) (l.packets + packets_in x.0) (l.refused + refusals x.0) more) (sym (step_refines l.state (pair x a) o.whole))
      ∙ ap₂ (λ (n q : ℕ). line_of l.pairs (report_of r.1) ++ packets_from (reader_of r.0) (l.pairs + 1) n q more) (sym found) (sym counted)
      ∙ ap (λ (xs : List ℕ). line_of l.pairs (report_of r.1) ++ xs) (sym (open_says (of_pair l r).next more on)))

  half_says : (h : Option ℕ) (a : ℕ) (more : List ℕ) → leb most_pairs l.pairs ≡ false → packets_from (reader_of l.state) l.pairs l.packets l.refused (half_bytes h ++ (a ∷ more)) ≡ SaysOn (by_half l h a) more
  half_says None a more e = sym (open_says (with_half l a) more on)
  half_says (Some x) a more e = pair_says x a more (leb-false most_pairs l.pairs e)

  pub a_byte_says : (a : ℕ) (more : List ℕ) → says_yet l (a ∷ more) ≡ SaysOn (of_byte l a) more
  unfolding of_byte
  a_byte_says a more = open_says l (a ∷ more) on ∙ by_limit (leb most_pairs l.pairs) refl
    where
      by_limit : (t : Bool) → leb most_pairs l.pairs ≡ t → rest l (a ∷ more) ≡ SaysOn (cond t (refused_by 10 l) (by_half l l.half a)) more
      by_limit true e = limit_says l.half a more e
      by_limit false e = half_says l.half a more e

  -- and leaves a sound state
  pair_open : (x a : ℕ) → l.pairs < most_pairs → Open (of_pair l (step l.state (pair x a))).next
  pair_open x a less =
      let r = step l.state (pair x a) in
      record {
        pairs = omega (arith, less);
        counts =
            omega (arith, o.counts, one_at_most (report_of r.1), counts_packet (report_of r.1) l.packets (omega (arith, o.counts, less)), counts_refusal (report_of r.1) l.refused (omega (arith, o.counts, less)));
        whole = step_whole l.state (pair x a) o.whole;
      }

  half_open : (h : Option ℕ) (a : ℕ) → leb most_pairs l.pairs ≡ false → Open (by_half l h a).next
  half_open None a e = record { pairs = o.pairs; counts = o.counts; whole = o.whole }
  half_open (Some x) a e = pair_open x a (leb-false most_pairs l.pairs e)

  pub a_byte_sound : (a : ℕ) → Sound (of_byte l a).next
  unfolding of_byte
  a_byte_sound a = by_limit (leb most_pairs l.pairs) refl
    where
      by_limit : (t : Bool) → leb most_pairs l.pairs ≡ t → Sound (cond {A = Turn} t (refused_by 10 l) (by_half l l.half a)).next
      by_limit true e still = absurd (true≢false still)
      by_limit false e still = half_open l.half a e

  -- the end says all of it
  pub the_end_says : says_yet l [] ≡ (of_end l).text
  the_end_says = open_says l [] on ∙ by_half_lem l.half
    where
      by_limit : (t : Bool) → cond t (ends_refused 10 l.pairs l.packets l.refused) (ends_refused 9 l.pairs l.packets l.refused) ≡ (refused_by (cond t 10 9) l).text
      by_limit true = sym (refused_says 10 l o)
      by_limit false = sym (refused_says 9 l o)

      by_half_lem : (h : Option ℕ) → packets_from (reader_of l.state) l.pairs l.packets l.refused (half_bytes h ++ []) ≡ end_words h l.pairs ++ last_line l.pairs l.packets (count_half h l.refused)
      by_half_lem None = refl
      by_half_lem (Some x) = by_limit (leb most_pairs l.pairs)

-- a piece: what was still to be said is what it says, then what is still to be said with the input not taken
abbrev pub Goes : PacketListing → List ℕ → List ℕ → Piece → Type 0
Goes l input more p = (says_yet l (input ++ more) ≡ p.text ++ says_yet p.next (drop p.taken input ++ more)) × Sound p.next

pub after_a_byte : (l : PacketListing) → l.ended ≡ false → Sound l → (a : ℕ) (input more : List ℕ) (p : Piece) → Goes (of_byte l a).next input more p → Goes l (a ∷ input) more (after_byte (of_byte l a) p)
after_a_byte l on sound a input more p next =
    let t = of_byte l a in (
      a_byte_says l on (sound on) a (input ++ more)
          ∙ ap (λ (xs : List ℕ). t.text ++ xs) next.0
          ∙ sym (append_assoc t.text p.text (says_yet p.next (drop p.taken input ++ more)))
          ∙ ap (λ (xs : List ℕ). (t.text ++ p.text) ++ says_yet p.next (xs ++ more)) (sym (drop_more p.taken a input)),
      next.1,
    )

pub a_piece_says : (input : List ℕ) (l : PacketListing) → Sound l → (more : List ℕ) (room : ℕ) → Goes l input more (piece_of l input room)
a_piece_says [] l sound more room = (refl, sound)
a_piece_says (a ∷ input) l sound more room =
    unless_stopped l.ended refl (ltb room any_text)
    (λ (on : l.ended ≡ false).
    a_piece_says input (of_byte l a).next (a_byte_sound l on (sound on) a) more (room - length (of_byte l a).text))
  where
    unless_stopped : (ended : Bool) → l.ended ≡ ended → (full : Bool) → (l.ended ≡ false → Goes (of_byte l a).next input more (piece_of (of_byte l a).next input (room - length (of_byte l a).text))) → Goes l (a ∷ input) more (cond (cond ended true full) (stays l) (after_byte (of_byte l a) (piece_of (of_byte l a).next input (room - length (of_byte l a).text))))
    unless_stopped true e full next = (refl, sound)
    unless_stopped false e true next = (refl, sound)
    unless_stopped false e false next =
        after_a_byte l e sound a input more (piece_of (of_byte l a).next input (room - length (of_byte l a).text)) (next e)

-- the end, where nothing is left or the listing has ended
abbrev pub Ends : PacketListing → List ℕ → Piece → Type 0
Ends l left p = (says_yet l left ≡ p.text ++ says_yet p.next (drop p.taken left)) × Sound p.next

said_at_the_end : (l : PacketListing) → l.ended ≡ false → Sound l → Ends l [] (said_only (of_end l))
said_at_the_end l on sound = (
  the_end_says l on (sound on) ∙ sym (append-nil (of_end l).text),
  λ (still : true ≡ false). absurd (true≢false still),
)

pub an_end_says : (l : PacketListing) → Sound l → (left : List ℕ) (room : ℕ) → (l.ended ≡ false → left ≡ []) → Ends l left (end_of l room)
an_end_says l sound left room none = unless_stopped l.ended refl (ltb room any_text)
  where
    unless_stopped : (ended : Bool) → l.ended ≡ ended → (full : Bool) → Ends l left (cond (cond ended true full) (stays l) (said_only (of_end l)))
    unless_stopped true e full = (refl, sound)
    unless_stopped false e true = (refl, sound)
    unless_stopped false e false =
        subst (λ (xs : List ℕ). Ends l xs (said_only (of_end l))) (sym (none e)) (said_at_the_end l e sound)
