-- The ring does what the list does: of a well-formed ring each call's answer is the definition's at the ring's list, and
-- the list of the ring that it leaves is the definition's next. An ill-formed state is refused and comes back as it was.
-- Assumes nothing.
use mathlib.Core.Bool.{Bool, true, false, cond}
use mathlib.Core.List.{List, [], ◌∷◌, ◌++◌}
use Rattle.std.specs.Prelude.{Option, option_map, None, Some}
use Rattle.std.proofs.lemmas.Option.{none-some, same_Some}
use mathlib.Core.Path.{◌≡◌, refl, ap, ap₂, sym, subst, ◌∙◌}
use Prim.Native.Nat.{ℕ, suc, ◌+◌, ◌-◌, ◌<◌}
use native.Mathlib.Omega.{arith}
use lib.ListN.{drop, get_or, length, length-set}
use Rattle.code.specs.Outcome.{Outcome, answer, refused}
use Rattle.code.specs.declared.code.Code.{Code}
use Rattle.code.specs.declared.code.Code.TheVariants as code
use Rattle.code.specs.declared.pair.Pair.{Pair}
use Rattle.queue.proofs.Fit.{pop_fits, push_fits}
use Rattle.queue.proofs.Places.{code_at, freed_in_front, how_many_lem, over_the_seam, stored_behind}
use Rattle.queue.proofs.Numbered.{gives_the_code_back}
use Rattle.queue.proofs.Ways.{Way, held_code, nothing_inside, last_code, two_codes, before_command, space_first, command_goes, way_of}
use Rattle.queue.proofs.WellFormed.{formed, stored_has_room, stored_may_wait, well_formed_lem}
use Rattle.queue.specs.Good.{Fit, Good, seen}
use Rattle.queue.specs.Number.{code_of, number_of}
use Rattle.queue.specs.Queue.{Pop, Queued, admit, count, entered, may_wait, pop, push, queued}
use Rattle.queue.specs.Ring.{count_ring, fresh_ring, gone, held_as, held_in, left_in, number_at, pop_ring, push_ring, stored, stored_as, view, waiting_in, well_formed}
use Rattle.queue.specs.declared.ring.Queue.{Queue}

-- the list of a well-formed ring, and back
pub good_fits : (q : Queue) → well_formed q ≡ true → Fit (view q)
good_fits q e =
    let f = formed q e in
    record { size = omega (arith, f.waiting, how_many_lem q.places q.start q.waiting); held = f.held; codes = f.codes }

pub fits_formed : (q : Queue) → q.start < 64 → Fit (view q) → well_formed q ≡ true
fits_formed q less f = well_formed_lem q (record {
  start = less;
  waiting = omega (arith, f.size, how_many_lem q.places q.start q.waiting);
  held = f.held;
  codes = f.codes;
})

pub fresh_good : Good fresh_ring
unfolding well_formed
fresh_good = record { formed = refl; places = refl }

-- a push
view_by_number : (m : Option ℕ) (q : Queue) (c : Code) → length q.places ≡ 64 → q.waiting < 64 → option_map code_of m ≡ Some c → view (stored_as q m) ≡ queued (waiting_in q ++ (c ∷ [])) (held_in q.held)
view_by_number None q c size less back = absurd (none-some c back)
view_by_number (Some n) q c size less back =
    ap (λ (l : List Code). queued l (held_in q.held)) (stored_behind q.places q.start q.waiting n size less)
    ∙ ap (λ (x : Code). queued (waiting_in q ++ (x ∷ [])) (held_in q.held)) (same_Some (code_of n) c back)

view_of_stored : (q : Queue) (c : Code) → length q.places ≡ 64 → q.waiting < 64 → may_wait c ≡ true → view (stored q c) ≡ queued (waiting_in q ++ (c ∷ [])) (held_in q.held)
view_of_stored q c size less may = view_by_number (number_of c) q c size less (gives_the_code_back c may)

entered_refines : (o : Outcome Bool) (q : Queue) (c : Code) → admit c q.waiting ≡ o → length q.places ≡ 64 → seen (entered o (stored q c) q) ≡ entered o (queued (waiting_in q ++ (c ∷ [])) (held_in q.held)) (view q)
entered_refines (answer true) q c e size =
    rw (view_of_stored q c size (stored_has_room c q.waiting e) (stored_may_wait c q.waiting e)) refl
entered_refines (answer false) q c e size = refl
entered_refines (refused n) q c e size = refl

pub push_refines : (q : Queue) (c : Code) → Good q → seen (push_ring q c) ≡ push c (view q)
unfolding push_ring
push_refines q c g =
    ap (λ (t : Bool). seen (cond t (entered (admit c q.waiting) (stored q c) q) (refused 12, q))) g.formed
    ∙ entered_refines (admit c q.waiting) q c refl g.places
    ∙ ap (λ (n : ℕ). entered (admit c n) (queued (waiting_in q ++ (c ∷ [])) (held_in q.held)) (view q)) (sym (how_many_lem q.places q.start q.waiting))

stored_start : (m : Option ℕ) (q : Queue) → (stored_as q m).start ≡ q.start
stored_start None q = refl
stored_start (Some n) q = refl

entered_start : (o : Outcome Bool) (q : Queue) (c : Code) → (entered o (stored q c) q).1.start ≡ q.start
entered_start (answer true) q c = stored_start (number_of c) q
entered_start (answer false) q c = refl
entered_start (refused n) q c = refl

stored_places : (m : Option ℕ) (q : Queue) → length (stored_as q m).places ≡ length q.places
stored_places None q = refl
stored_places (Some n) q = length-set q.places _ _

entered_places : (o : Outcome Bool) (q : Queue) (c : Code) → length (entered o (stored q c) q).1.places ≡ length q.places
entered_places (answer true) q c = stored_places (number_of c) q
entered_places (answer false) q c = refl
entered_places (refused n) q c = refl

next_good : (q : Queue) → q.start < 64 → length q.places ≡ 64 → Fit (view q) → Good q
next_good q less size f = record { formed = fits_formed q less f; places = size }

pub push_good : (q : Queue) (c : Code) → Good q → Good (push_ring q c).1
unfolding push_ring
push_good q c g =
    let done = entered (admit c q.waiting) (stored q c) q in
    let here : (push_ring q c).1 ≡ done.1 = ap (λ (t : Bool). (cond t done (refused 12, q)).1) g.formed in
    let fits = subst (λ (r : Outcome Unit × Queued). Fit r.1) (sym (push_refines q c g)) (push_fits c (view q) (good_fits q g.formed)) in
    next_good (push_ring q c).1
    (omega (arith, ap (λ (r : Queue). r.start) here, entered_start (admit c q.waiting) q c, (formed q g.formed).start))
    (ap (λ (r : Queue). length r.places) here ∙ entered_places (admit c q.waiting) q c ∙ g.places)
    fits

-- a pop takes codes off the front of those that wait
drops_none : (l : List Code) → drop (length l - length l) l ≡ l
drops_none l =
    let none_gone : length l - length l ≡ 0 = omega arith in
    ap (λ (n : ℕ). drop n l) none_gone

drops_one : (x : Code) (l : List Code) → drop (suc (length l) - length l) (x ∷ l) ≡ l
drops_one x l =
    let one_gone : suc (length l) - length l ≡ 1 = omega arith in
    ap (λ (n : ℕ). drop n (x ∷ l)) one_gone

drops_two : (x y : Code) (l : List Code) → drop (suc (suc (length l)) - length l) (x ∷ y ∷ l) ≡ l
drops_two x y l =
    let two_gone : suc (suc (length l)) - length l ≡ 2 = omega arith in
    ap (λ (n : ℕ). drop n (x ∷ y ∷ l)) two_gone

drops : {v : Queued} {p : Pop} → Way v p → drop (length v.waiting - length p.next.waiting) v.waiting ≡ p.next.waiting
drops (held_code c l) = drops_none l
drops nothing_inside = drops_none []
drops (last_code x e) = drops_one x []
drops (two_codes x y l e next) = drops_two x y l
drops (before_command x y l e next) = drops_two x y l
drops (space_first x l e wants) = drops_one x l
drops (command_goes x l e wants) = drops_one x l

-- and a code that it then holds is the last of them, by whatever numbers they are kept
holds_at : (numbers : ℕ → ℕ) (c : Code) (n k : ℕ) → n ≡ k → code_of (numbers k) ≡ c → Some (code_of (numbers n)) ≡ Some c
holds_at numbers c n k e back = ap (λ (i : ℕ). Some (code_of (numbers i))) e ∙ ap Some back

abbrev Stand : (ℕ → ℕ) → List Code → Type 0
Stand numbers l = (i : ℕ) → i < length l → code_of (numbers i) ≡ get_or l i code.Nul

holds_last : {v : Queued} {p : Pop} (numbers : ℕ → ℕ) → Way v p → Stand numbers v.waiting → held_in (held_as (numbers (length v.waiting - length p.next.waiting - 1)) p.next.held) ≡ p.next.held
holds_last numbers (held_code c l) stand = refl
holds_last numbers nothing_inside stand = refl
holds_last numbers (last_code x e) stand = refl
holds_last numbers (two_codes x y l e next) stand = refl
holds_last numbers (before_command x y l e next) stand =
    holds_at numbers y (suc (suc (length l)) - length l - 1) 1 (omega arith) (stand 1 (omega arith))
holds_last numbers (space_first x l e wants) stand =
    holds_at numbers x (suc (length l) - length l - 1) 0 (omega arith) (stand 0 (omega arith))
holds_last numbers (command_goes x l e wants) stand = refl

pop_keeps_the_number : (q : Queue) → held_in (left_in q).held ≡ (pop (view q)).next.held
pop_keeps_the_number q =
    holds_last (λ (k : ℕ). number_at q.places (q.start + k)) (way_of (view q))
    (λ (i : ℕ) (less : i < length (waiting_in q)). code_at q.places q.start q.waiting i (omega (arith, less, how_many_lem q.places q.start q.waiting)))

waiting_left : (q : Queue) → waiting_in (left_in q) ≡ (pop (view q)).next.waiting
waiting_left q =
    over_the_seam q.places (q.start + gone q) (q.waiting - gone q)
    ∙ freed_in_front q.places q.start q.waiting (gone q) (omega (arith, how_many_lem q.places q.start q.waiting))
    ∙ drops (way_of (view q))

pub view_of_left : (q : Queue) → view (left_in q) ≡ (pop (view q)).next
view_of_left q = ap₂ queued (waiting_left q) (pop_keeps_the_number q)

pub popped_as : (q : Queue) → well_formed q ≡ true → pop_ring q ≡ (answer (pop (view q)).pair, left_in q)
unfolding pop_ring
popped_as q e = rw e refl

pub pop_refines : (q : Queue) → Good q → seen (pop_ring q) ≡ (answer (pop (view q)).pair, (pop (view q)).next)
unfolding pop_ring
pop_refines q g =
    ap (λ (t : Bool). seen (cond t (answer (pop (view q)).pair, left_in q) (refused 12, q))) g.formed
    ∙ ap {B = Outcome Pair × Queued} (λ (v : Queued). (answer (pop (view q)).pair, v)) (view_of_left q)

pub pop_good : (q : Queue) → Good q → Good (pop_ring q).1
unfolding pop_ring
pop_good q g =
    let done : Outcome Pair × Queue = (answer (pop (view q)).pair, left_in q) in
    let here : (pop_ring q).1 ≡ left_in q = ap (λ (t : Bool). (cond t done (refused 12, q)).1) g.formed in
    let fits = subst (λ (r : Outcome Pair × Queued). Fit r.1) (sym (pop_refines q g)) (pop_fits (view q) (good_fits q g.formed)) in
    next_good (pop_ring q).1
    (omega (arith, ap (λ (r : Queue). r.start) here))
    (ap (λ (r : Queue). length r.places) here ∙ g.places)
    fits

-- a count changes nothing
pub count_refines : (q : Queue) → Good q → count_ring q ≡ (answer (count (view q)), q)
unfolding count_ring
count_refines q g = rw g.formed refl

-- 12: the state comes back bit for bit
pub ill_formed_push : (q : Queue) (c : Code) → well_formed q ≡ false → push_ring q c ≡ (refused 12, q)
unfolding push_ring
ill_formed_push q c e = rw e refl

pub ill_formed_pop : (q : Queue) → well_formed q ≡ false → pop_ring q ≡ (refused 12, q)
unfolding pop_ring
ill_formed_pop q e = rw e refl

pub ill_formed_count : (q : Queue) → well_formed q ≡ false → count_ring q ≡ (refused 12, q)
unfolding count_ring
ill_formed_count q e = rw e refl

-- a push that is refused, by any number, hands the very same record back
entered_same : (o : Outcome Bool) (more same : Queue) (n : ℕ) → (entered o more same).0 ≡ refused n → (entered o more same).1 ≡ same
entered_same (answer true) more same n e = let z : ◌≡◌ {A = ℕ} 0 1 = cc in absurd (omega arith)
entered_same (answer false) more same n e = refl
entered_same (refused k) more same n e = refl

tested_same : (t : Bool) (o : Outcome Bool) (more same : Queue) (n : ℕ) → (cond t (entered o more same) (refused 12, same)).0 ≡ refused n → (cond t (entered o more same) (refused 12, same)).1 ≡ same
tested_same true o more same n e = entered_same o more same n e
tested_same false o more same n e = refl

pub a_refused_push_changes_nothing : (q : Queue) (c : Code) (n : ℕ) → (push_ring q c).0 ≡ refused n → (push_ring q c).1 ≡ q
unfolding push_ring
a_refused_push_changes_nothing q c n e = tested_same (well_formed q) (admit c q.waiting) (stored q c) q n e
