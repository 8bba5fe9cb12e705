-- What a caller knows after a call of `read`, from its promise: it stays inside the input and the output; what is still to
-- come is the same, and less where the output is full; and where it is not full, all is taken and written.
-- Assumes nothing.
use mathlib.Core.List.{List}
use mathlib.Core.Path.{◌≡◌, ap, ap₂, ◌∙◌}
use Prim.Native.Nat.{ℕ, ◌≤◌, ◌<◌}
use native.Mathlib.Omega.{arith}
use lib.ListN.{drop, length, length-append, length-drop}
use Rattle.lines.proofs.AnyCutting.{no_more_than_offered}
use Rattle.lines.proofs.ProgressLemmas.{no_more_than_room}
use Rattle.lines.proofs.Whole.{calls_add_up, through_if_not_full}
use Rattle.lines.specs.Pieces.{Piece, Read, piece_of, read_listing, read_outcome, whole_piece}
use Rattle.lines.specs.declared.listing.Listing.{Listing}
use Rattle.lines.specs.declared.listing.Progress.{Progress}

module _ (l : Listing) (input output : List ℕ) (p : Listing × Progress) (after : List ℕ) (promised : read_outcome p after ≡ read_listing l input output) where
  abbrev piece : Piece
  piece = piece_of l input (length output)

  takes : p.1.taken ≡ piece.taken
  unfolding read_listing
  takes = ap (λ (x : Read). x.0) promised

  wrote : p.1.written ≡ length piece.text
  unfolding read_listing
  wrote = ap (λ (x : Read). x.1) promised

  leaves : p.0 ≡ piece.next
  unfolding read_listing
  leaves = ap (λ (x : Read). x.2) promised

  pub same_room : length after ≡ length output
  unfolding read_listing
  same_room =
      ap (λ (x : Read). length x.3) promised
      ∙ omega (arith, length-append piece.text (drop (length piece.text) output), length-drop (length piece.text) output, no_more_than_room input l (length output))

  pub takes_no_more : p.1.taken ≤ length input
  takes_no_more = omega (arith, takes, no_more_than_offered input l (length output))

  pub writes_no_more : p.1.written ≤ length output
  writes_no_more = omega (arith, wrote, no_more_than_room input l (length output))

  -- what is still to come of the input
  abbrev rest : Piece
  rest = whole_piece p.0 (drop p.1.taken input)

  rest_is : rest ≡ whole_piece piece.next (drop piece.taken input)
  rest_is = ap₂ (λ (x : Listing) (n : ℕ). whole_piece x (drop n input)) leaves takes

  pub ends_the_same : rest.next ≡ (whole_piece l input).next
  ends_the_same = ap (λ (x : Piece). x.next) rest_is ∙ ap (λ (x : Piece). x.next) (calls_add_up input l (length output))

  pub less_to_write : 0 < length output → length after ≤ p.1.written → length rest.text < length (whole_piece l input).text
  less_to_write some full =
      omega (arith, same_room, wrote, some, full, ap (λ (x : Piece). length x.text) rest_is, ap (λ (x : Piece). length x.text) (calls_add_up input l (length output)), length-append piece.text (whole_piece piece.next (drop piece.taken input)).text)

  pub all_where_not_full : p.1.written < length after → p.0 ≡ (whole_piece l input).next
  all_where_not_full room =
      leaves
      ∙ ap (λ (x : Piece). x.next) (through_if_not_full input l (length output) (omega (arith, room, same_room, wrote)))
