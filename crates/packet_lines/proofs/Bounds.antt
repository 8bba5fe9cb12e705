-- How long the text of a byte is: a packet's line has at most 123 bytes, and no byte makes more text than there is room for
-- where it is taken. Neither does the end.
-- Assumes nothing.
use Rattle.std.specs.Prelude.{Option, None, Some}
use Prim.Native.Nat.{ℕ, ◌+◌, ◌≤◌}
use lib.Dec.{leb}
use lib.ListN.{length, length-append}
use mathlib.Core.Bool.{Bool, true, false, cond}
use mathlib.Core.List.{List, [], ◌∷◌, ◌++◌}
use mathlib.Core.Path.{◌≡◌, refl}
use native.Mathlib.Omega.{arith}
use Rattle.code.specs.Characters.{points}
use Rattle.code.specs.Outcome.{Outcome, answer, refused}
use Rattle.code.specs.Pair.{pair}
use Rattle.extended.proofs.RecordRefusals.{few_reported}
use Rattle.extended.specs.Reports.{reported_bytes}
use Rattle.extended.specs.Extended.{Report, event, nothing, packet}
use Rattle.extended.specs.State.{report_of, step}
use Rattle.extended.specs.declared.class.Class.{Class}
use Rattle.lines.proofs.Bounds.{decimal_short}
use Rattle.lines.specs.Listing.{most_pairs}
use Rattle.lines.specs.Words.{decimal, line, refused_words}
use Rattle.packet_lines.specs.Pieces.{Turn, any_text, by_half, end_words, of_byte, of_end, refused_by, count_half}
use Rattle.packet_lines.specs.Words.{characters, contents_words, hex_bytes, last_line, line_of, packet_words}
use Rattle.packet_lines.specs.declared.listing.PacketListing.{PacketListing}

hex_length : (bs : List ℕ) → length (hex_bytes bs) ≡ length bs + length bs
hex_length [] = refl
hex_length (b ∷ bs) = omega (arith, hex_length bs)

characters_length : (bs : List ℕ) → length (characters bs) ≡ length bs
characters_length [] = refl
characters_length (b ∷ bs) = omega (arith, characters_length bs)

contents_short : (bs : List ℕ) → length bs ≤ 32 → length (contents_words bs) ≤ 99
contents_short bs few =
    omega (arith, few, hex_length bs, characters_length bs, length-append (hex_bytes bs) (points " \"" ++ (characters bs ++ points "\"")), length-append (characters bs) (points "\""))

line_short : (k n : ℕ) (words : List ℕ) → length words ≤ n → length (line k words) ≤ n + 12
line_short k n words short =
    omega (arith, short, decimal_short k, length-append (decimal k) (0x20 ∷ (words ++ (0x0A ∷ []))), length-append words (0x0A ∷ []))

refused_short : (m : ℕ) → length (refused_words m) ≤ 18
refused_short m = omega (arith, decimal_short m)

pub a_packet_fits : (k t : ℕ) (c : Class) (bs : List ℕ) → length bs ≤ 32 → length (line k (packet_words c t bs)) ≤ 123
a_packet_fits k t c bs few = line_short k 111 (packet_words c t bs) (omega (arith, contents_short bs few))

line_of_short : (k : ℕ) (o : Outcome Report) → length (reported_bytes o) ≤ 32 → length (line_of k o) ≤ 123
line_of_short k (answer nothing) few = omega arith
line_of_short k (answer (event e)) few = omega arith
line_of_short k (answer (packet c t bs)) few = a_packet_fits k t c bs few
line_of_short k (refused m) few = omega (arith, line_short k 18 (refused_words m) (refused_short m))

last_short : (p k q : ℕ) → length (last_line p k q) ≤ 55
last_short p k q =
    omega (arith, decimal_short p, decimal_short k, decimal_short q, length-append (decimal p) (points " packets " ++ (decimal k ++ (points " refused " ++ (decimal q ++ (0x0A ∷ []))))), length-append (decimal k) (points " refused " ++ (decimal q ++ (0x0A ∷ []))), length-append (decimal q) (0x0A ∷ []))

-- the last two lines together
refused_by_short : (m : ℕ) (l : PacketListing) → length (refused_by m l).text ≤ 85
refused_by_short m l =
    omega (arith, length-append (line l.pairs (refused_words m)) (last_line l.pairs l.packets (refused_by m l).next.refused), line_short l.pairs 18 (refused_words m) (refused_short m), last_short l.pairs l.packets (refused_by m l).next.refused)

half_fits : (l : PacketListing) (h : Option ℕ) (a : ℕ) → length (by_half l h a).text ≤ any_text
half_fits l None a = omega arith
half_fits l (Some x) a =
    omega (arith, line_of_short l.pairs (report_of (step l.state (pair x a)).1) (few_reported l.state (pair x a)))

pub a_byte_fits : (l : PacketListing) (a : ℕ) → length (of_byte l a).text ≤ any_text
unfolding of_byte
a_byte_fits l a = by_limit (leb most_pairs l.pairs)
  where
    by_limit : (t : Bool) → length (cond {A = Turn} t (refused_by 10 l) (by_half l l.half a)).text ≤ any_text
    by_limit true = omega (arith, refused_by_short 10 l)
    by_limit false = half_fits l l.half a

pub the_end_fits : (l : PacketListing) → length (of_end l).text ≤ any_text
the_end_fits l = by_half_lem l.half
  where
    by_half_lem : (h : Option ℕ) → length (end_words h l.pairs ++ last_line l.pairs l.packets (count_half h l.refused)) ≤ any_text
    by_half_lem None = omega (arith, last_short l.pairs l.packets l.refused)
    by_half_lem (Some x) = omega (arith, refused_by_short (cond (leb most_pairs l.pairs) 10 9) l)
