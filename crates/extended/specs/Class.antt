-- The seven classes of extended data, with the first bytes that start and continue a packet. From CTA-608 as 02 has it.
use Rattle.std.specs.Prelude.{ℕ, ◌+◌, List, [], ◌∷◌}
use Rattle.extended.specs.declared.class.Class.TheVariants as class
use Rattle.extended.specs.declared.class.Class.{Class}

abbrev pub classes : List Class
classes =
    class.Current ∷ class.Future ∷ class.ChannelInformation ∷ class.Miscellaneous ∷ class.PublicService ∷ class.Reserved ∷ class.Private ∷ []

abbrev pub class_number : Class → ℕ
class_number class.Current = 1
class_number class.Future = 2
class_number class.ChannelInformation = 3
class_number class.Miscellaneous = 4
class_number class.PublicService = 5
class_number class.Reserved = 6
class_number class.Private = 7

-- a packet starts with 01, 03, .. 0D
abbrev pub start_byte : Class → ℕ
start_byte class.Current = 0x01
start_byte class.Future = 0x03
start_byte class.ChannelInformation = 0x05
start_byte class.Miscellaneous = 0x07
start_byte class.PublicService = 0x09
start_byte class.Reserved = 0x0B
start_byte class.Private = 0x0D

-- the next even number continues it
abbrev pub continuation_byte : Class → ℕ
continuation_byte c = start_byte c + 1

-- 0F ends it
abbrev pub end_byte : ℕ
end_byte = 0x0F
