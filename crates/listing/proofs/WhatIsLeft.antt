-- A call of `read`, and what is left of its input after it: what it stays inside of, and what is still to come.
-- Assumes nothing.
use mathlib.Core.List.{List, ◌++◌}
use mathlib.Core.Path.{◌≡◌, ap, ap₂, ◌∙◌}
use Prim.Native.Nat.{ℕ, ◌-◌, ◌≤◌, ◌<◌}
use native.Mathlib.Omega.{arith}
use lib.ListN.{drop, length, take}
use Rattle.code.proofs.LentPart.{lent_part}
use Rattle.lines.proofs.Called as called
use Rattle.lines.proofs.ProgressLemmas.{output_begins_with}
use Rattle.lines.proofs.Whole.{calls_add_up, through_if_not_full}
use Rattle.lines.specs.Pieces.{Piece, Read, piece_of, read_listing, read_outcome, whole_piece}
use Rattle.lines.specs.declared.listing.Listing.{Listing}
use Rattle.lines.specs.declared.listing.Progress.{Progress}

module _ (l : Listing) (input output : List ℕ) (p : Listing × Progress) (after : List ℕ) (promised : read_outcome p after ≡ read_listing l input output) where
  abbrev left : List ℕ
  left = take (length input - p.1.taken) (drop p.1.taken input)

  left_is : left ≡ drop p.1.taken input
  left_is = lent_part input p.1.taken

  pub ends_the_same : (whole_piece p.0 left).next ≡ (whole_piece l input).next
  ends_the_same =
      ap (λ (xs : List ℕ). (whole_piece p.0 xs).next) left_is ∙ called.ends_the_same l input output p after promised

  pub less_to_write : 0 < length output → length after ≤ p.1.written → length (whole_piece p.0 left).text < length (whole_piece l input).text
  less_to_write some full =
      omega (arith, ap (λ (xs : List ℕ). length (whole_piece p.0 xs).text) left_is, called.less_to_write l input output p after promised some full)

  abbrev piece : Piece
  piece = piece_of l input (length output)

  wrote : take p.1.written after ≡ piece.text
  unfolding read_listing
  wrote =
      ap₂ (λ (n : ℕ) (xs : List ℕ). take n xs) (ap (λ (x : Read). x.1) promised) (ap (λ (x : Read). x.3) promised)
      ∙ output_begins_with piece.text output

  -- what it wrote, and what is still to come
  pub says_the_same : take p.1.written after ++ (whole_piece p.0 left).text ≡ (whole_piece l input).text
  unfolding read_listing
  says_the_same =
      ap₂ (λ (xs ys : List ℕ). xs ++ ys) wrote
      (ap (λ (xs : List ℕ). (whole_piece p.0 xs).text) left_is ∙ ap₂ (λ (x : Listing) (n : ℕ). (whole_piece x (drop n input)).text) (ap (λ (x : Read). x.2) promised) (ap (λ (x : Read). x.0) promised))
      ∙ ap (λ (x : Piece). x.text) (calls_add_up input l (length output))

  pub says_all : p.1.written < length after → take p.1.written after ≡ (whole_piece l input).text
  unfolding read_listing
  says_all room =
      wrote
      ∙ ap (λ (x : Piece). x.text) (through_if_not_full input l (length output) (omega (arith, room, called.same_room l input output p after promised, ap (λ (x : Read). x.1) promised)))
