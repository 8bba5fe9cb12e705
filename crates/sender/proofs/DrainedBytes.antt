-- What a drain does to the output, byte by byte: as many bytes as before, those of its sends' pairs from the start on, and
-- every other as it was.
-- Assumes nothing.
use mathlib.Core.Bool.{Bool, true, false, cond}
use mathlib.Core.List.{List, [], ◌∷◌, ◌++◌}
use mathlib.Core.Path.{◌≡◌, refl, ap, sym, subst, ◌∙◌}
use Prim.Native.Nat.{ℕ, zero, suc, ◌+◌, ◌*◌, ◌-◌, ◌≤◌, ◌<◌}
use native.Mathlib.Omega.{arith}
use lib.ListN.{get_or-append, drop, get_or, length, length-append, length-drop, take}
use lib.Seq.{drop_at, get_or-append-add, get_or-drop, get_or-take, length-take-le}
use Rattle.code.specs.Outcome.{Outcome}
use Rattle.code.specs.declared.pair.Pair.{Pair}
use Rattle.sender.proofs.Lent.{drained_as}
use Rattle.sender.specs.Drain.{bytes_of_pairs, drain_sender, drained, drained_pairs, filled, pairs_from}
use Rattle.sender.specs.Sender.{view, well_formed}
use Rattle.sender.specs.Sending.{Sending, is_idle, send}
use Rattle.sender.specs.declared.sender.Sender.{Sender}

-- it writes no more bytes than there is room for
within_the_room : (limit room : ℕ) (v : Sending) → length (bytes_of_pairs (drained_pairs limit room v)) ≤ room
within_the_room zero room v = omega arith
within_the_room (suc limit) zero v = omega arith
within_the_room (suc limit) (suc zero) v = omega arith
within_the_room (suc limit) (suc (suc room)) v = unless_idle (is_idle v) (within_the_room limit room (send v).next)
  where
    unless_idle : (t : Bool) → length (bytes_of_pairs (drained_pairs limit room (send v).next)) ≤ room → length (bytes_of_pairs (cond t [] ((send v).pair ∷ drained_pairs limit room (send v).next))) ≤ suc (suc room)
    unless_idle true less = omega arith
    unless_idle false less = omega (arith, less)

-- two bytes a pair
two_a_pair : (ps : List Pair) → length (bytes_of_pairs ps) ≡ 2 * length ps
two_a_pair [] = refl
two_a_pair (p ∷ ps) = omega (arith, two_a_pair ps)

-- read as pairs again, they are the same pairs, whatever comes after
pairs_back : (ps : List Pair) (rest : List ℕ) → pairs_from (length ps) (bytes_of_pairs ps ++ rest) ≡ ps
pairs_back [] rest = refl
pairs_back (p ∷ ps) rest = ap (λ (l : List Pair). p ∷ l) (pairs_back ps rest)

-- the output afterwards: as long as it was, and the same before the start and after the last pair
module _ (out : List ℕ) (start : ℕ) (ps : List Pair) (inside : start ≤ length out) (room : length (bytes_of_pairs ps) ≤ length (drop start out)) where
  abbrev written : List ℕ
  written = take start out ++ filled (drop start out) ps

  front : length (take start out) ≡ start
  front = length-take-le start out inside

  same_length : length written ≡ length out
  same_length =
      let rest = length-drop (length (bytes_of_pairs ps)) (drop start out) in
      let whole = length-append (take start out) (filled (drop start out) ps) in
      let part = length-append (bytes_of_pairs ps) (drop (length (bytes_of_pairs ps)) (drop start out)) in
      omega (arith, whole, part, rest, front, length-drop start out, inside, room)

  same_in_front : (i d : ℕ) → i < start → get_or written i d ≡ get_or out i d
  same_in_front i d less =
      get_or-append (take start out) (filled (drop start out) ps) d i (omega (arith, front, less))
      ∙ get_or-take start out i d less

  after_by : (k d : ℕ) → get_or written (start + (length (bytes_of_pairs ps) + k)) d ≡ get_or out (start + (length (bytes_of_pairs ps) + k)) d
  after_by k d =
      ap (λ (n : ℕ). get_or written (n + (length (bytes_of_pairs ps) + k)) d) (sym front)
      ∙ get_or-append-add (take start out) (filled (drop start out) ps) (length (bytes_of_pairs ps) + k) d
      ∙ get_or-append-add (bytes_of_pairs ps) (drop (length (bytes_of_pairs ps)) (drop start out)) k d
      ∙ get_or-drop (length (bytes_of_pairs ps)) (drop start out) k d
      ∙ get_or-drop start out (length (bytes_of_pairs ps) + k) d

  same_after : (i d : ℕ) → start + length (bytes_of_pairs ps) ≤ i → get_or written i d ≡ get_or out i d
  same_after i d past =
      let at : start + (length (bytes_of_pairs ps) + (i - start - length (bytes_of_pairs ps))) ≡ i = omega (arith, past) in
      subst (λ (n : ℕ). get_or written n d ≡ get_or out n d) at (after_by (i - start - length (bytes_of_pairs ps)) d)

  pairs_in_it : pairs_from (length ps) (drop start written) ≡ ps
  pairs_in_it =
      ap (pairs_from (length ps)) (drop_at (take start out) (filled (drop start out) ps) start front)
      ∙ pairs_back ps (drop (length (bytes_of_pairs ps)) (drop start out))

-- the same of the drain itself, from a well-formed state and with the start inside the output
module _ (s : Sender) (out : List ℕ) (start limit : ℕ) (formed : well_formed s ≡ true) (inside : start ≤ length out) where
  abbrev pub its_pairs : List Pair
  its_pairs = drained_pairs limit (length (drop start out)) (view s)

  pub drains_as : drain_sender s out start limit ≡ drained s out start its_pairs
  drains_as = drained_as s out start limit formed inside

  room : length (bytes_of_pairs its_pairs) ≤ length (drop start out)
  room = within_the_room limit (length (drop start out)) (view s)

  pub output_as_long : length (drain_sender s out start limit).2 ≡ length out
  output_as_long = ap (λ (r : Outcome ℕ × Sender × List ℕ). length r.2) drains_as ∙ same_length out start its_pairs inside room

  pub same_before_the_start : (i d : ℕ) → i < start → get_or (drain_sender s out start limit).2 i d ≡ get_or out i d
  same_before_the_start i d less =
      ap (λ (r : Outcome ℕ × Sender × List ℕ). get_or r.2 i d) drains_as ∙ same_in_front out start its_pairs inside room i d less

  pub same_after_the_last_pair : (i d : ℕ) → start + 2 * length its_pairs ≤ i → get_or (drain_sender s out start limit).2 i d ≡ get_or out i d
  same_after_the_last_pair i d past =
      ap (λ (r : Outcome ℕ × Sender × List ℕ). get_or r.2 i d) drains_as
      ∙ same_after out start its_pairs inside room i d (omega (arith, past, two_a_pair its_pairs))

  -- the bytes from the start on are those of its pairs
  pub its_pairs_in_the_output : pairs_from (length its_pairs) (drop start (drain_sender s out start limit).2) ≡ its_pairs
  its_pairs_in_the_output =
      ap (λ (r : Outcome ℕ × Sender × List ℕ). pairs_from (length its_pairs) (drop start r.2)) drains_as
      ∙ pairs_in_it out start its_pairs inside room
