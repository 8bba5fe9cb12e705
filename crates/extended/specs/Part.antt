-- What a pair is, by its first byte without its parity bit. From CTA-608 as 02 has it.
use Rattle.std.specs.Prelude.{ℕ, eqb, cond, List, [], ◌∷◌}
use Rattle.code.specs.Read.{is_command}
use Rattle.extended.specs.Class.{classes, continuation_byte, end_byte, start_byte}
use Rattle.extended.specs.declared.class.Class.{Class}
use Rattle.extended.specs.declared.part.Part.TheVariants as part
use Rattle.extended.specs.declared.part.Part.{Part}

-- a start or a continuation of a class, an end, or any other pair, which is text or contents
abbrev pub part_among : List Class → ℕ → Part
part_among [] a = cond (eqb a end_byte) part.End part.Other
part_among (c ∷ cs) a =
    cond (eqb a (start_byte c)) (part.Start c) (cond (eqb a (continuation_byte c)) (part.Continuation c) (part_among cs a))

unfoldable pub part_of : ℕ → Part
part_of a = cond (is_command a) part.Command (part_among classes a)
