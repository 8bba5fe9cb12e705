-- What else is known of a code, from 01: its length, whether the queue puts a space before it, its character, and the
-- code of a character.
use Rattle.std.specs.Prelude.{Result, ℕ, Bool, true, false, get_or, Option, None, Some}
use Rattle.code.specs.declared.character.NoSuchCharacter.{NoSuchCharacter}
use Rattle.code.specs.Characters.{place_of, standard, symbols}
use Rattle.code.specs.Letter.{letter_at, letter_place}
use Rattle.code.specs.Outcome.{Outcome, answer, outcome, refused}
use Rattle.code.specs.Symbol.{symbol_at, symbol_place}
use Rattle.code.specs.declared.channel.Channel.{Channel}
use Rattle.code.specs.declared.code.Code.{Code}
use Rattle.code.specs.declared.code.Code.TheVariants as code
use Rattle.code.specs.declared.control.Control.{Control}
use Rattle.code.specs.declared.control.Control.TheVariants as control
use Rattle.code.specs.declared.letter.Letter.{Letter}
use Rattle.code.specs.declared.symbol.Symbol.{Symbol}
use Rattle.code.specs.declared.symbol.SymbolRow.{SymbolRow}
use Rattle.code.specs.declared.symbol.SymbolRow.TheVariants.{Special, Spanish, French, Portuguese, German}

-- a control code has two bytes, even an `Unknown` of two that a receiver reads as text
abbrev pub byte_len : Code → ℕ
byte_len code.Nul = 1
byte_len (code.Control c) = 2
byte_len (code.Letter l) = 1
byte_len (code.Unknown b) = 1

-- the rows of 12 and 13
abbrev pub is_extended : SymbolRow → Bool
is_extended Special = false
is_extended Spanish = true
is_extended French = true
is_extended Portuguese = true
is_extended German = true

-- mid-row codes and the extended characters
abbrev pub control_needs_backspace : Control → Bool
control_needs_backspace (control.MidRow m) = true
control_needs_backspace (control.Symbol s) = is_extended s.row
control_needs_backspace (control.Command c) = false
control_needs_backspace (control.Tab t) = false
control_needs_backspace (control.Preamble p) = false
control_needs_backspace (control.Unknown a b) = false

abbrev pub needs_backspace : Code → Bool
needs_backspace code.Nul = false
needs_backspace (code.Control c) = control_needs_backspace c.control
needs_backspace (code.Letter l) = false
needs_backspace (code.Unknown b) = false

-- the character of a code, by the place of a letter or of a symbol; all others have none
abbrev pub letter_char : Letter → Option ℕ
letter_char l = get_or standard (letter_place l) None

abbrev pub symbol_char : Symbol → Option ℕ
symbol_char s = get_or symbols (symbol_place s) None

abbrev pub control_char : Control → Option ℕ
control_char (control.MidRow m) = None
control_char (control.Symbol s) = symbol_char s
control_char (control.Command c) = None
control_char (control.Tab t) = None
control_char (control.Preamble p) = None
control_char (control.Unknown a b) = None

unfoldable pub char_of : Code → Option ℕ
char_of code.Nul = None
char_of (code.Control c) = control_char c.control
char_of (code.Letter l) = letter_char l
char_of (code.Unknown b) = None

-- a character's code: the first standard character that has it, else the first symbol, with no field and the given
-- channel; 5: none has it
abbrev pub symbol_code : Channel → Option ℕ → Outcome Code
symbol_code ch None = refused 5
symbol_code ch (Some i) =
    answer (code.Control (record { field = None; channel = ch; control = control.Symbol (symbol_at i) }))

abbrev pub letter_code : Option ℕ → Outcome Code → Outcome Code
letter_code None other = other
letter_code (Some i) other = answer (code.Letter (letter_at i))

unfoldable pub from_char : ℕ → Channel → Outcome Code
from_char c ch = letter_code (place_of c standard) (symbol_code ch (place_of c symbols))

abbrev pub from_char_outcome : Result Code NoSuchCharacter → Outcome Code
from_char_outcome r = outcome (λ e. 5) r
