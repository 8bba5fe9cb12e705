-- The number that stands for a code at a place of the ring, in the port's own words. Every number stands for a code that
-- may wait, and the number of such a code gives that code back (`proofs/Numbered`). By its bits, of a command, bit 15
-- clear: 14 and 13 its field, 12 its channel, 11 whether it is an `Unknown`, 10 to 7 its first byte less 10, 6 to 0 its
-- second byte. Of a single code, bit 15 set: 7 whether it is an `Unknown`, 6 to 0 its byte.
use Rattle.code.specs.declared.channel.Field.{Field}
use Rattle.std.specs.Prelude.{ℕ, ◌+◌, ◌*◌, ◌-◌, ◌/◌, ◌%◌, cond, ◌&&◌, eqb, leb, Option, None, Some}
use Rattle.code.specs.Channel.{channel_one, channel_two, field_one, field_two}
use Rattle.code.specs.Letter.{letter_at, letter_place}
use Rattle.code.specs.Outcome.{Outcome, answer, refused}
use Rattle.code.specs.Read.{meaning, or_unknown}
use Rattle.code.specs.Write.{control_bytes}
use Rattle.code.specs.declared.channel.Channel.{Channel}
use Rattle.code.specs.declared.code.Code.{Code}
use Rattle.code.specs.declared.code.Code.TheVariants as code
use Rattle.code.specs.declared.control.Control.{Control}
use Rattle.code.specs.declared.control.Control.TheVariants as control
use Rattle.code.specs.declared.control.ControlCode.{ControlCode}
use Rattle.code.specs.declared.pair.Pair.{Pair}
use Rattle.queue.specs.Queueable.{queueable}

-- the code of a number: a command by what its two bytes mean, which are 14 and not 15 where it names a field, or by its
-- bytes alone where it is an `Unknown`; a single code by its byte, which is an `Unknown` too below 20
abbrev pub first_in : ℕ → ℕ
first_in n = 0x10 + n / 128 % 16

abbrev pub second_in : ℕ → ℕ
second_in n = n % 128

abbrev pub field_of_number : ℕ → Option Field
field_of_number n = cond (eqb (n / 0x2000) 1) (Some field_one) (cond (eqb (n / 0x2000) 2) (Some field_two) None)

abbrev pub channel_of_number : ℕ → Channel
channel_of_number n = cond (eqb (n / 0x1000 % 2) 0) channel_one channel_two

abbrev pub control_of : ℕ → ℕ → ℕ → Control
control_of unknown a b = cond (eqb unknown 0) (or_unknown a b (meaning a b)) (control.Unknown a b)

abbrev pub single_of : ℕ → ℕ → Code
single_of unknown b =
    cond (eqb unknown 0 && leb 0x20 b) (code.Letter (letter_at (b - 0x20))) (code.Unknown b)

unfoldable pub code_of : ℕ → Code
code_of n =
    cond (leb 0x8000 n) (single_of (n / 128 % 2) (second_in n))
    (code.Control (record {
      field = field_of_number n;
      channel = channel_of_number n;
      control = control_of (n / 0x800 % 2) (first_in n) (second_in n);
    }))

-- the number of a code; NUL never waits, and has none
abbrev pub bytes_number : Pair → ℕ
bytes_number p = p.0 % 16 * 128 + p.1 % 128

abbrev pub field_number : Option Field → ℕ
field_number None = 0
field_number (Some f) = cond f.0 0x2000 0x4000

abbrev pub channel_number : Channel → ℕ
channel_number c = cond c.0 0 0x1000

abbrev pub whose_number : ControlCode → ℕ
whose_number c = field_number c.field + channel_number c.channel

-- a code without bytes is refused before its number matters
abbrev pub number_in : Outcome Pair → ℕ
number_in (answer p) = bytes_number p
number_in (refused n) = 0

abbrev pub control_number : Control → ℕ
control_number (control.MidRow m) = number_in (control_bytes (control.MidRow m))
control_number (control.Symbol s) = number_in (control_bytes (control.Symbol s))
control_number (control.Command c) = number_in (control_bytes (control.Command c))
control_number (control.Tab t) = number_in (control_bytes (control.Tab t))
control_number (control.Preamble p) = number_in (control_bytes (control.Preamble p))
control_number (control.Unknown a b) = 0x800 + number_in (control_bytes (control.Unknown a b))

abbrev pub number_of : Code → Option ℕ
number_of code.Nul = None
number_of (code.Control c) = Some (whose_number c + control_number c.control)
number_of (code.Letter l) = Some (0x8020 + letter_place l)
number_of (code.Unknown b) = Some (0x8080 + b)

-- its number where a code may be queued, else the refusal
abbrev pub with_number : Option ℕ → Outcome Unit → Outcome (Option ℕ)
with_number n (answer u) = answer n
with_number n (refused k) = refused k

abbrev pub numbered : Code → Outcome (Option ℕ)
numbered c = with_number (number_of c) (queueable c)

-- the same of a control, by the part of the number that its field and channel make; whether it may be queued is the same
-- for each of them
abbrev pub plain : Control → ControlCode
plain c = record { field = None; channel = channel_one; control = c }

abbrev pub numbered_control : ℕ → Control → Outcome (Option ℕ)
numbered_control whose c = with_number (Some (whose + control_number c)) (queueable (code.Control (plain c)))

abbrev pub numbered_unknown : ℕ → ℕ → ℕ → Outcome (Option ℕ)
numbered_unknown whose a b = numbered_control whose (control.Unknown a b)
