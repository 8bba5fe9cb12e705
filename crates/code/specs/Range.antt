-- A number between two bounds, both of them included: the port's own words.
use Rattle.std.specs.Prelude.{ℕ, Bool, ◌&&◌, leb}

abbrev pub within : ℕ → ℕ → ℕ → Bool
within low high n = leb low n && leb n high
