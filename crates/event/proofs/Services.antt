-- The four services, by number and by field and channel: each value of 1 to 4 is one field with one channel, and no other
-- value is.
-- Assumes nothing.
use mathlib.Core.Bool.{Bool, true, false, cond}
use mathlib.Core.Logic.{◌↔◌}
use mathlib.Core.Path.{◌≡◌, refl, ap, sym, ◌∙◌}
use Prim.Native.Nat.{ℕ, ◌≤◌}
use native.Mathlib.Omega.{arith}
use lib.IntN.{ℤ, pos, negsuc}
use Rattle.code.proofs.Agree.{agree_from}
use Rattle.code.proofs.OneAnswer.{clash, same}
use Rattle.code.proofs.Ranges.{bounds}
use Rattle.code.specs.Outcome.{answer, refused}
use Rattle.code.specs.Range.{within}
use Rattle.code.specs.declared.channel.Channel.{Channel}
use Rattle.code.specs.declared.channel.Field.{Field}
use Rattle.event.specs.Id.{channel_of_id, field_of_id, from_value, id_of, service_of}
use Rattle.event.specs.Services.{service_number}
use Rattle.event.specs.declared.id.Id.{Id}
use Rattle.event.specs.declared.id.Id.TheVariants.{CC1, CC2, CC3, CC4}

-- a service's field and channel name that service, and a field and a channel name the service that has them
pub id_back : (i : Id) → id_of (field_of_id i) (channel_of_id i) ≡ i
id_back CC1 = refl
id_back CC2 = refl
id_back CC3 = refl
id_back CC4 = refl

by_parts : (f ch : Bool) → (field_of_id (id_of (record { 0 = f }) (record { 0 = ch })) ≡ record { 0 = f }) × (channel_of_id (id_of (record { 0 = f }) (record { 0 = ch })) ≡ record { 0 = ch })
by_parts true true = (refl, refl)
by_parts true false = (refl, refl)
by_parts false true = (refl, refl)
by_parts false false = (refl, refl)

pub field_and_channel_back : (f : Field) (ch : Channel) → (field_of_id (id_of f ch) ≡ f) × (channel_of_id (id_of f ch) ≡ ch)
field_and_channel_back f ch = by_parts f.0 ch.0

-- the number of a service
abbrev value_of : Id → ℕ
value_of i = service_number (field_of_id i) (channel_of_id i)

numbered : (f ch : Bool) → from_value (pos (service_number (record { 0 = f }) (record { 0 = ch }))) ≡ answer (id_of (record { 0 = f }) (record { 0 = ch }))
numbered true true = refl
numbered true false = refl
numbered false true = refl
numbered false false = refl

its_number : (n : ℕ) → 1 ≤ n → n ≤ 4 → value_of (service_of n) ≡ n
its_number n from to = agree_from (λ (x : ℕ). value_of (service_of x)) (λ (x : ℕ). x) 1 4 refl n from (omega arith)

value_by : (n : ℕ) (i : Id) (t : Bool) → within 1 4 n ≡ t → cond t (answer (service_of n)) (refused 6) ≡ answer i → n ≡ value_of i
value_by n i true inside e =
    let range = bounds 1 4 n inside in
    sym (its_number n range.0 range.1) ∙ ap value_of (same e)
value_by n i false outside e = absurd (clash (sym e))

number_of : (z : ℤ) (i : Id) → from_value z ≡ answer i → z ≡ pos (value_of i)
number_of (pos n) i e = ap pos (value_by n i (within 1 4 n) refl e)
number_of (negsuc n) i e = absurd (clash (sym e))

-- a value is the service of a field and a channel exactly where it is their number
pub by_number_and_by_field : (z : ℤ) (f : Field) (ch : Channel) → (from_value z ≡ answer (id_of f ch)) ↔ (z ≡ pos (service_number f ch))
by_number_and_by_field z f ch =
    let back = field_and_channel_back f ch in (
      λ (e : from_value z ≡ answer (id_of f ch)). number_of z (id_of f ch) e ∙ rw (back.0, back.1) refl,
      λ (e : z ≡ pos (service_number f ch)). ap from_value e ∙ numbered f.0 ch.0,
    )
