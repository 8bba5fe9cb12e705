-- The queue's pairs as they are sent: each text pair once, each command pair twice in a row. The port's own words.
use Rattle.std.specs.Prelude.{cond, List, [], ◌∷◌}
use Rattle.code.specs.declared.pair.Pair.{Pair}
use Rattle.code.specs.Read.{is_command_pair}

abbrev pub doubled : List Pair → List Pair
doubled [] = []
doubled (p ∷ ps) = cond (is_command_pair p) (p ∷ p ∷ doubled ps) (p ∷ doubled ps)
