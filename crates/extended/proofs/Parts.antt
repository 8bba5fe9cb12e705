-- What a pair is, by its first byte: ranges of it, by one computation each.
-- Assumes nothing.
use Prim.Native.Nat.{ℕ, ◌≤◌, ◌<◌}
use mathlib.Core.List.{[], ◌∷◌, map}
use mathlib.Core.Path.{◌≡◌, refl}
use native.Mathlib.Omega.{arith}
use Rattle.code.proofs.Agree.{agree_from}
use Rattle.code.proofs.Keys.{NoKey, last_key}
use Rattle.extended.specs.Part.{part_of}
use Rattle.extended.specs.declared.class.Class.TheVariants as class
use Rattle.extended.specs.declared.part.Part.TheVariants as part

-- a byte that is none of 00 to 0F
pub from_ten : (a : ℕ) → NoKey a 0x10 → 0x10 ≤ a
from_ten a none =
    let above : a < 0x10 → ⊥ = λ (less : a < 0x10). let at : a ≡ 0x10 = last_key a 0x10 (omega arith) none in omega arith in
    omega arith

-- 10 to 1F is a command, and what is above is text or contents
pub command_part : (a : ℕ) → 0x10 ≤ a → a < 0x20 → part_of a ≡ part.Command
unfolding part_of
command_part a = agree_from part_of (λ (b : ℕ). part.Command) 0x10 0x10 refl a

pub other_part : (a : ℕ) → 0x20 ≤ a → a < 0x100 → part_of a ≡ part.Other
unfolding part_of
other_part a = agree_from part_of (λ (b : ℕ). part.Other) 0x20 0xE0 refl a

-- each first byte up to 10, by its number
pub by_first_byte : map part_of (0x00 ∷ 0x01 ∷ 0x02 ∷ 0x03 ∷ 0x04 ∷ 0x05 ∷ 0x06 ∷ 0x07 ∷ 0x08 ∷ 0x09 ∷ 0x0A ∷ 0x0B ∷ 0x0C ∷ 0x0D ∷ 0x0E ∷ 0x0F ∷ 0x10 ∷ []) ≡ part.Other ∷ part.Start class.Current ∷ part.Continuation class.Current ∷ part.Start class.Future ∷ part.Continuation class.Future ∷ part.Start class.ChannelInformation ∷ part.Continuation class.ChannelInformation ∷ part.Start class.Miscellaneous ∷ part.Continuation class.Miscellaneous ∷ part.Start class.PublicService ∷ part.Continuation class.PublicService ∷ part.Start class.Reserved ∷ part.Continuation class.Reserved ∷ part.Start class.Private ∷ part.Continuation class.Private ∷ part.End ∷ part.Command ∷ []
unfolding part_of
by_first_byte = refl
