-- The codes that are known by their names are read from their bytes, and written as these.
-- Assumes nothing.
use mathlib.Core.List.{map}
use mathlib.Core.Path.{◌≡◌, refl}
use lib.Count.{ones, ones_in}
use Rattle.code.specs.NamedCodes.{Named, named_codes}
use Rattle.code.specs.Outcome.{answer}
use Rattle.code.specs.Read.{control_code_of, meaning, read_pair}
use Rattle.code.specs.Write.{control_bytes, on_line, write_code}
use Rattle.code.specs.declared.code.Code.TheVariants as code

pub read_as_named : map (λ (k : Named). read_pair k.pair.0 k.pair.1) named_codes ≡ map (λ (k : Named). answer (k.code, code.Nul)) named_codes
unfolding ones ones_in read_pair control_code_of meaning
read_as_named = refl

pub written_as_named : map (λ (k : Named). write_code k.code) named_codes ≡ map (λ (k : Named). answer (k.pair, k.length)) named_codes
unfolding ones ones_in write_code control_bytes on_line
written_as_named = refl
