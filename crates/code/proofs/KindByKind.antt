-- What writing gives and whether a code can be written, kind by kind, for the layers above.
-- Assumes nothing.
use mathlib.Core.Path.{◌≡◌, refl, ap}
use Prim.Native.Nat.{ℕ, ◌+◌, ◌<◌}
use borrow.Author.Tests.{lt-ltb}
use Rattle.code.specs.Letter.{letter_place}
use Rattle.code.specs.Outcome.{answer}
use Rattle.code.specs.Write.{as_command, as_single, control_bytes, control_in_domain, in_domain, is_seven_bits, of_seven_bits, on_line, write_code}
use Rattle.code.specs.declared.code.Code.TheVariants as code
use Rattle.code.specs.declared.control.ControlCode.{ControlCode}
use Rattle.code.specs.declared.letter.Letter.{Letter}
use Rattle.code.specs.declared.pair.Pair.{Pair}

-- a control code is written as its two bytes, on the line
pub bytes_written : (c : ControlCode) (p : Pair) → control_bytes c.control ≡ answer p → write_code (code.Control c) ≡ answer (on_line c.field c.channel p, 2)
unfolding write_code
bytes_written c p e = ap (as_command c.field c.channel) e

pub letter_written : (l : Letter) → write_code (code.Letter l) ≡ as_single (0x20 + letter_place l)
unfolding write_code
letter_written l = refl

pub unknown_written : (b : ℕ) → b < 128 → write_code (code.Unknown b) ≡ as_single b
unfolding write_code
unknown_written b less = rw (lt-ltb b 0x80 less) refl

pub control_domain : (c : ControlCode) → in_domain (code.Control c) ≡ control_in_domain c.control
unfolding in_domain
control_domain c = refl

pub letter_domain : (l : Letter) → in_domain (code.Letter l) ≡ answer tt
unfolding in_domain
letter_domain l = refl

pub unknown_domain : (b : ℕ) → in_domain (code.Unknown b) ≡ of_seven_bits (is_seven_bits b) tt
unfolding in_domain
unknown_domain b = refl

pub nul_domain : in_domain code.Nul ≡ answer tt
unfolding in_domain
nul_domain = refl
