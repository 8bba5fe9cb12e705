-- A stream in blocks, one block more at a time, until it is listed.
-- Assumes nothing.
use Prim.Native.Nat.{ℕ, ◌<◌}
use lib.ListN.{length, length-take, take}
use mathlib.Core.Bool.{Bool, true, false, true≢false}
use mathlib.Core.List.{List, [], ◌∷◌, ◌++◌, append-nil, append_assoc, flatten}
use mathlib.Core.Path.{◌≡◌, refl, ap, subst, sym, ◌∙◌}
use native.Mathlib.Omega.{arith}
use Rattle.std.specs.declared.option.Option.{Option}
use Rattle.std.proofs.Common.{Result, Ok, Err, None, Some}
use Rattle.std.proofs.KnownBytes.{Appends-nil, Appends-trans, Consumes-kept, Consumes-nil, Consumes-trans}
use Rattle.std.specs.Io.KnownBytes.{Appends, Consumes, IsAtEnd, Keeps, ReadConsumes}
use Rattle.std.specs.declared.io.Error.{Error}
use Rattle.streams.specs.AfterRead.{AfterRead, read_text}
use Rattle.streams.specs.Blocks.{EndsDone, IsAnyCutting, ListsAll, SomeBytes, StaysDone, after_blocks, blocks_text}

-- What was read of a stream, where a reader's bytes are known, came in these blocks, and no other byte; it led to this state;
-- and its text was written, where a writer's bytes are known, and nothing else.
pub record Listed {S : Type 0} (after : S → List ℕ → S) (text : S → List ℕ → List ℕ) (fresh last : S) (unread left : Option (List ℕ)) (written longer : Option (List ℕ)) : Type 0 where
  pub blocks : List (List ℕ)
  pub some : SomeBytes blocks
  pub reads : Consumes unread left (flatten blocks)
  pub leads : last ≡ after_blocks after fresh blocks
  pub writes : Appends written longer (blocks_text after text fresh blocks)

flatten_more : (bs : List (List ℕ)) (b : List ℕ) → flatten (bs ++ b ∷ []) ≡ flatten bs ++ b
unfolding flatten
flatten_more [] b = append-nil b
flatten_more (x ∷ bs) b = ap (λ (xs : List ℕ). x ++ xs) (flatten_more bs b) ∙ sym (append_assoc x (flatten bs) b)

some_more : (bs : List (List ℕ)) (b : List ℕ) → SomeBytes bs → 0 < length b → SomeBytes (bs ++ b ∷ [])
some_more [] [] some has = absurd (omega (arith, has))
some_more [] (a ∷ rest) some has = tt
some_more ([] ∷ bs) b some has = absurd some
some_more ((x ∷ xs) ∷ bs) b some has = some_more bs b some has

module _ {S : Type 0} (after : S → List ℕ → S) (text : S → List ℕ → List ℕ) (fresh : S) where
  abbrev Lists : S → Option (List ℕ) → Option (List ℕ) → Option (List ℕ) → Option (List ℕ) → Type 0
  Lists = Listed after text fresh

  after_more : (s : S) (bs : List (List ℕ)) (b : List ℕ) → after_blocks after s (bs ++ b ∷ []) ≡ after (after_blocks after s bs) b
  after_more s [] b = refl
  after_more s (x ∷ bs) b = after_more (after s x) bs b

  text_more : (s : S) (bs : List (List ℕ)) (b : List ℕ) → blocks_text after text s (bs ++ b ∷ []) ≡ blocks_text after text s bs ++ text (after_blocks after s bs) b
  text_more s [] b = append-nil (text s b)
  text_more s (x ∷ bs) b =
      ap (λ (xs : List ℕ). text s x ++ xs) (text_more (after s x) bs b)
      ∙ sym (append_assoc (text s x) (blocks_text after text (after s x) bs) (text (after_blocks after (after s x) bs) b))

  pub begins : (s : S) (unread written : Option (List ℕ)) → s ≡ fresh → Lists s unread unread written written
  unfolding flatten
  begins s unread written new = record {
    blocks = [];
    some = tt;
    reads = Consumes-nil unread;
    leads = new;
    writes = Appends-nil written;
  }

  -- a block that has bytes
  one_more : (s next : S) (unread now left written longer longest : Option (List ℕ)) (b : List ℕ) → Lists s unread now written longer → 0 < length b → Consumes now left b → next ≡ after s b → Appends longer longest (text s b) → Lists next unread left written longest
  one_more s next unread now left written longer longest b l has consumed leads wrote = record {
    blocks = l.blocks ++ b ∷ [];
    some = some_more l.blocks b l.some has;
    reads = subst (Consumes unread left) (sym (flatten_more l.blocks b)) (Consumes-trans unread now left (flatten l.blocks) b l.reads consumed);
    leads = leads ∙ ap (λ (x : S). after x b) l.leads ∙ sym (after_more fresh l.blocks b);
    writes =
        subst (Appends written longest)
        (ap (λ (x : S). blocks_text after text fresh l.blocks ++ text x b) l.leads ∙ sym (text_more fresh l.blocks b))
        (Appends-trans written longer longest (blocks_text after text fresh l.blocks) (text s b) l.writes wrote);
  }

  -- a read that was interrupted
  none_more : (s next : S) (unread now left written longer longest : Option (List ℕ)) → Lists s unread now written longer → Keeps now left → next ≡ s → Appends longer longest [] → Lists next unread left written longest
  none_more s next unread now left written longer longest l kept leads wrote = record {
    blocks = l.blocks;
    some = l.some;
    reads = Consumes-kept unread now left (flatten l.blocks) l.reads kept;
    leads = leads ∙ l.leads;
    writes =
        subst (Appends written longest) (append-nil (blocks_text after text fresh l.blocks))
        (Appends-trans written longer longest (blocks_text after text fresh l.blocks) [] l.writes wrote);
  }

  module _ (done : S → Bool) (ends : EndsDone after done) where
    -- a turn after which there is more to list
    pub goes_on : (s next : S) (unread now left written longer longest : Option (List ℕ)) (read : Result ℕ Error) (input : List ℕ) → Lists s unread now written longer → ReadConsumes now left read input → AfterRead after s read input (Ok next) → Appends longer longest (read_text text s read input) → done next ≡ false → Lists next unread left written longest
    goes_on s next unread now left written longer longest (Ok n) input l consumed leads wrote more =
        one_more s next unread now left written longer longest (take n input) l (has_bytes (take n input) refl) consumed.0 leads wrote
      where
        has_bytes : (b : List ℕ) → b ≡ take n input → 0 < length b
        has_bytes [] e =
            absurd (true≢false (sym (ends s) ∙ ap (λ (b : List ℕ). done (after s b)) e ∙ ap done (sym leads) ∙ more))
        has_bytes (a ∷ rest) e = omega arith
    goes_on s next unread now left written longer longest (Err e) input l kept leads wrote more =
        none_more s next unread now left written longer longest l kept leads.1 wrote

    module _ (stays : StaysDone after text done) (listing : List ℕ → List ℕ) (whole : IsAnyCutting after text fresh listing) where
      -- where it is done, whatever is left unread would make no more text
      lists_all : (last : S) (unread left written longest : Option (List ℕ)) → Lists last unread left written longest → done last ≡ true → ListsAll listing unread written longest
      lists_all last None left written longest l e = tt
      lists_all last (Some xs) None written longest l e = absurd l.reads
      lists_all last (Some xs) (Some []) written longest l e =
          subst (Appends written longest)
          (sym (append-nil (blocks_text after text fresh l.blocks))
          ∙ ap (λ (ys : List ℕ). blocks_text after text fresh l.blocks ++ ys) (sym (stays last [] e).0 ∙ ap (λ (x : S). text x []) l.leads)
          ∙ whole l.blocks l.some
          ∙ ap listing (sym (l.reads ∙ append-nil (flatten l.blocks))))
          l.writes
      lists_all last (Some xs) (Some (y ∷ ys)) written longest l e =
          let block = y ∷ ys in
          let all = l.blocks ++ block ∷ [] in
          let same : last ≡ after_blocks after fresh l.blocks = l.leads in
          subst (Appends written longest)
          (sym (append-nil (blocks_text after text fresh l.blocks))
          ∙ ap (λ (zs : List ℕ). blocks_text after text fresh l.blocks ++ zs) (sym (stays last block e).0 ∙ ap (λ (x : S). text x block) same)
          ∙ sym (text_more fresh l.blocks block)
          ∙ sym (append-nil (blocks_text after text fresh all))
          ∙ ap (λ (zs : List ℕ). blocks_text after text fresh all ++ zs) (sym (stays (after last block) [] (stays last block e).1).0 ∙ ap (λ (x : S). text (after x block) []) same ∙ ap (λ (x : S). text x []) (sym (after_more fresh l.blocks block)))
          ∙ whole all (some_more l.blocks block l.some (omega arith))
          ∙ ap listing (flatten_more l.blocks block ∙ sym l.reads))
          l.writes

      -- the turn after which it is done
      pub finishes : (s next : S) (unread now left written longer longest : Option (List ℕ)) (read : Result ℕ Error) (input : List ℕ) → 0 < length input → Lists s unread now written longer → ReadConsumes now left read input → AfterRead after s read input (Ok next) → Appends longer longest (read_text text s read input) → done next ≡ true → ListsAll listing unread written longest
      finishes s next unread now left written longer longest (Ok n) input room l consumed leads wrote e = of (take n input) refl
        where
          of : (b : List ℕ) → take n input ≡ b → ListsAll listing unread written longest
          of [] none =
              the_end unread left (Consumes-trans unread now left (flatten l.blocks) [] l.reads (subst (Consumes now left) none consumed.0)) (consumed.1 (omega (arith, room, length-take n input, ap length none)) room)
            where
              the_end : (u f : Option (List ℕ)) → Consumes u f (flatten l.blocks ++ []) → IsAtEnd f → ListsAll listing u written longest
              the_end None f reads at_end = tt
              the_end (Some xs) None reads at_end = absurd reads
              the_end (Some xs) (Some ys) reads at_end =
                  subst (Appends written longest)
                  (ap (λ (zs : List ℕ). blocks_text after text fresh l.blocks ++ zs) (ap (text s) none ∙ ap (λ (x : S). text x []) l.leads)
                  ∙ whole l.blocks l.some
                  ∙ ap listing (sym (reads ∙ ap (λ (zs : List ℕ). (flatten l.blocks ++ []) ++ zs) at_end ∙ append-nil (flatten l.blocks ++ []) ∙ append-nil (flatten l.blocks))))
                  (Appends-trans written longer longest (blocks_text after text fresh l.blocks) (text s (take n input)) l.writes wrote)
          of (a ∷ rest) some =
              lists_all next unread left written longest
              (one_more s next unread now left written longer longest (take n input) l (omega (arith, ap length some)) consumed.0 leads wrote) e
      finishes s next unread now left written longer longest (Err f) input room l kept leads wrote e =
          lists_all next unread left written longest
          (none_more s next unread now left written longer longest l kept leads.1 wrote) e
