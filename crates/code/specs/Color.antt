-- The colours, in the order of the mid-row and preamble codes of 47 CFR 79.101 (h).
use Rattle.std.specs.Prelude.{ℕ, List, [], ◌∷◌, get_or}
use Rattle.code.specs.declared.color.Color.{Color}
use Rattle.code.specs.declared.color.Color.TheVariants.{White, Green, Blue, Cyan, Red, Yellow, Magenta}

abbrev pub colors : List Color
colors = White ∷ Green ∷ Blue ∷ Cyan ∷ Red ∷ Yellow ∷ Magenta ∷ []

abbrev pub color_at : ℕ → Color
color_at n = get_or colors n White

abbrev pub color_number : Color → ℕ
color_number White = 0
color_number Green = 1
color_number Blue = 2
color_number Cyan = 3
color_number Red = 4
color_number Yellow = 5
color_number Magenta = 6
