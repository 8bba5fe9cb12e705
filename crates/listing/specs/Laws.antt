-- The laws of a listing in blocks: it is the same wherever the stream is cut, the end ends it, and nothing comes after it.
use Prim.Native.Nat.{ℕ}
use mathlib.Core.Bool.{Bool, true, false, cond, true≢false}
use mathlib.Core.List.{List, [], ◌∷◌, ◌++◌}
use mathlib.Core.Path.{◌≡◌, refl, ap, ap₂, sym, ◌∙◌}
use Rattle.lines.proofs.Loops.{end_is_ended, read_in_blocks}
use Rattle.lines.proofs.Memory.{written_and_waiting}
use Rattle.lines.proofs.Waiting.{empty_where_no_more}
use Rattle.lines.specs.Line.{empty_line, has_more, pending}
use Rattle.lines.specs.Listing.{listing}
use Rattle.lines.specs.Loops.{in_blocks}
use Rattle.lines.specs.Pieces.{Piece, absorbed, after_byte, end_by, ended_listing, is_done, whole_piece, with_line, written_out}
use Rattle.lines.specs.declared.listing.Listing.{Listing}
use Rattle.listing.specs.Blocks.{after_block, block_text, done, fresh}
use Rattle.listing.specs.declared.Pairs.{Pairs}
use Rattle.streams.specs.Blocks.{EndsDone, IsAnyCutting, SomeBytes, StaysDone, after_blocks, blocks_text}

-- blocks that have bytes, as `lines` has them
as_blocks : (blocks : List (List ℕ)) (p : Pairs) → SomeBytes blocks → ((after_blocks after_block p blocks).0 ≡ (in_blocks blocks p.0).next) × (blocks_text after_block block_text p blocks ≡ (in_blocks blocks p.0).text)
as_blocks [] p some = (refl, refl)
as_blocks ([] ∷ bs) p some = absurd some
as_blocks ((a ∷ rest) ∷ bs) p some =
    let next = as_blocks bs (after_block p (a ∷ rest)) some in (
      next.0,
      ap (λ (xs : List ℕ). (whole_piece p.0 (a ∷ rest)).text ++ xs) next.1,
    )

pub any_cutting : IsAnyCutting after_block block_text fresh listing
any_cutting blocks some =
    let all = as_blocks blocks fresh some in
    ap₂ (λ (xs : List ℕ) (l : Listing). xs ++ (whole_piece (ended_listing l) []).text) all.1 all.0
    ∙ (read_in_blocks blocks).writes_all

pub ends_done : EndsDone after_block done
ends_done p = end_is_ended p.0

-- nothing more is written, and it stays done
abbrev Silent : Pairs → List ℕ → Type 0
Silent p block = (block_text p block ≡ []) × (done (after_block p block) ≡ true)

module _ (p : Pairs) (none : has_more p.0.line ≡ false) (e : p.0.ended ≡ true) where
  abbrev l : Listing
  l = p.0

  quiet : pending l.line ≡ []
  quiet = written_and_waiting l.line 0 ∙ ap pending (empty_where_no_more l.line 0 none)

  ended_so : ended_listing l ≡ l
  unfolding ended_listing
  ended_so = ap (λ (t : Bool). cond t l (end_by l l.half)) e

  silent : (block : List ℕ) → Silent p block
  silent [] =
      (ap (λ (x : Listing). pending x.line) ended_so ∙ quiet, ap (λ (x : Listing). x.ended) ended_so ∙ e)
  silent (a ∷ rest) =
      let so = ap (λ (t : Bool). cond t (written_out l) (after_byte (pending l.line) (whole_piece (absorbed (with_line l empty_line) a) rest))) e in
      (ap (λ (x : Piece). x.text) so ∙ quiet, ap (λ (x : Piece). is_done x.next) so ∙ e)

pub stays_done : StaysDone after_block block_text done
stays_done p block e = by (has_more p.0.line) refl e
  where
    by : (more : Bool) → has_more p.0.line ≡ more → cond more false p.0.ended ≡ true → Silent p block
    by true m d = absurd (true≢false (sym d))
    by false m d = silent p m d block
