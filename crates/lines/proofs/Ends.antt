-- The end of a stream: the last lines, put by a writer after what waits; the end of the input, by what refuses it. And a pair
-- that was refused counts as one refusal more.
-- Assumes nothing.
use Rattle.std.specs.Prelude.{Err, None, Ok, Option, Result, Some, is_err}
use Prim.Native.Nat.{ℕ}
use lib.Dec.{leb}
use mathlib.Core.Bool.{Bool, true, false, cond}
use mathlib.Core.List.{List}
use mathlib.Core.Path.{◌≡◌, refl, ap, sym, ◌∙◌}
use Rattle.code.specs.declared.read.InvalidParity.{InvalidParity}
use Rattle.event.specs.declared.event.Cea608.{Cea608}
use Rattle.lines.proofs.Puts.{put_parts}
use Rattle.lines.specs.Listing.{most_pairs}
use Rattle.lines.specs.Pieces.{counted, end_by, end_refusal, ended_by, ending, one_more_if, refused_by}
use Rattle.lines.specs.Put.{Placed, Puts, placed, put_all}
use Rattle.lines.specs.Words.{last_line}
use Rattle.lines.specs.declared.line.Line.{Line}
use Rattle.lines.specs.declared.listing.EndError.TheVariants as end
use Rattle.lines.specs.declared.listing.Listing.{Listing}
use Rattle.lines.specs.declared.put.Writer.{Writer}
use Rattle.receiver.specs.Heard.{heard_outcome}

pub lines_put : (l : Listing) (begun : Line) (words : List ℕ) {w next : Writer} {n : ℕ} → placed w ≡ put_all (begun.len, begun.bytes) words → Puts w (last_line l.pairs n) next → record { receiver = l.receiver; half = None; pairs = l.pairs; refused = n; ended = true; line = record { bytes = next.out.now; at = begun.at; len = next.at } } ≡ ending l begun words n
lines_put l begun words {n = n} first last =
    ap {B = Listing} (λ (s : Placed). record { receiver = l.receiver; half = None; pairs = l.pairs; refused = n; ended = true; line = record { bytes = s.1; at = begun.at; len = s.0 } })
    (last.put ∙ ap (λ (s : Placed). put_all s (last_line l.pairs n)) first ∙ sym (put_parts (begun.len, begun.bytes) words (last_line l.pairs n)))

pub ended_so : (l : Listing) → ended_by (end_refusal l.half l.pairs) l l.line ≡ end_by l l.half
ended_so l = by_half l.half
  where
    by_limit : (t : Bool) → ended_by (Some (cond t end.TooManyPairs end.HalfAPair)) l l.line ≡ refused_by (cond t 10 9) l l.line
    by_limit true = refl
    by_limit false = refl

    by_half : (h : Option ℕ) → ended_by (end_refusal h l.pairs) l l.line ≡ end_by l h
    by_half None = refl
    by_half (Some x) = by_limit (leb most_pairs l.pairs)

pub counts_one : (heard : Result (Option Cea608) InvalidParity) (q : ℕ) → one_more_if (is_err heard) q ≡ counted (heard_outcome heard) q
counts_one (Ok e) q = refl
counts_one (Err e) q = refl
