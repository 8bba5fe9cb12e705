-- Pairs that the laws and their cases name, in the port's own words.
use Rattle.std.specs.Prelude.{Bool}
use Rattle.code.specs.Pair.{pair, same_pair}
use Rattle.code.specs.declared.pair.Pair.{Pair}

abbrev pub padding : Pair
padding = pair 0x80 0x80

abbrev pub is_padding : Pair → Bool
is_padding p = same_pair p padding

abbrev pub roll_up2 : Pair
roll_up2 = pair 0x94 0x25

abbrev pub carriage_return : Pair
carriage_return = pair 0x94 0xAD

-- the letters H and i
abbrev pub hi : Pair
hi = pair 0xC8 0xE9

-- a space alone
abbrev pub space_alone : Pair
space_alone = pair 0x20 0x80
