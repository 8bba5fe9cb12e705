-- What is written is read back: the laws from codes to a pair and back, in the port's own words over writing and reading.
-- A control code, `Unknown` aside, keeps its channel and its control, and is read with the field that its bytes name; NUL
-- and letters, two to a pair, stay as they were. proofs/ReadBack.antt proves them.
use Rattle.std.specs.Prelude.{None, Option, Some, Bool, true, false, ◌≡◌}
use Rattle.std.specs.Option.{unwrap_or}
use Rattle.code.specs.Channel.{field_one}
use Rattle.code.specs.Outcome.{answer}
use Rattle.code.specs.Read.{is_command_pair, is_odd_pair, read_pair}
use Rattle.code.specs.Write.{write_code, write_two}
use Rattle.code.specs.declared.channel.Channel.{Channel}
use Rattle.code.specs.declared.channel.Field.{Field}
use Rattle.code.specs.declared.code.Code.{Code}
use Rattle.code.specs.declared.code.Code.TheVariants as code
use Rattle.code.specs.declared.control.Control.{Control}
use Rattle.code.specs.declared.control.Control.TheVariants as control
use Rattle.code.specs.declared.pair.Pair.{Pair}

-- 14 20 to 14 2F are field one's and 15 20 to 15 2F field two's, so that such a command always names a field: its own, or
-- field one where it has none. No other control names one.
abbrev pub field_read : Option Field → Control → Option Field
field_read f (control.MidRow m) = None
field_read f (control.Symbol s) = None
field_read f (control.Command c) = Some (unwrap_or f field_one)
field_read f (control.Tab t) = None
field_read f (control.Preamble p) = None
field_read f (control.Unknown a b) = None

-- a control code as it is written and read back
pub record ReadsBack (f : Option Field) (ch : Channel) (c : Control) : Type 0 where
  pub pair : Pair
  pub written : write_code (code.Control (record { field = f; channel = ch; control = c })) ≡ answer (pair, 2)
  pub read : read_pair pair.0 pair.1 ≡ answer (code.Control (record { field = field_read f c; channel = ch; control = c }), code.Nul)
  pub is_a_command : is_command_pair pair ≡ true

-- NUL and letters
abbrev pub is_plain : Code → Bool
is_plain code.Nul = true
is_plain (code.Control c) = false
is_plain (code.Letter l) = true
is_plain (code.Unknown b) = false

pub record TextReadsBack (x y : Code) : Type 0 where
  pub pair : Pair
  pub written : write_two x y ≡ answer pair
  pub odd : is_odd_pair pair ≡ true
  pub read : read_pair pair.0 pair.1 ≡ answer (x, y)
  pub no_command : is_command_pair pair ≡ false
