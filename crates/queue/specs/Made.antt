-- What a pair of the queue is made of, from 01's section "Queue and sender": the codes that its pop took, and what is in
-- the queue after it; and what a pop takes by what was held before it. And which of these pairs are to be command pairs, by
-- T-04: those that were made of a two-byte code. Half a command is the one exception.
use Rattle.std.specs.Prelude.{ℕ, Bool, true, false, cond, ◌||◌, not, List, [], ◌∷◌, ◌≡◌, Option, None, Some}
use Rattle.code.specs.Code.{byte_len, needs_backspace}
use Rattle.code.specs.Outcome.{Outcome, answer, refused}
use Rattle.code.specs.Read.{is_command}
use Rattle.code.specs.Pair.{pair}
use Rattle.code.specs.Write.{write_code}
use Rattle.code.specs.declared.code.Code.{Code}
use Rattle.code.specs.declared.code.Code.TheVariants as code
use Rattle.code.specs.declared.pair.Pair.{Pair}
use Rattle.queue.specs.Queue.{Queued, empty, is_single, queued}

-- a single code that is written as this byte, with 0x80 after it
abbrev pub IsByte : Code → ℕ → Type 0
IsByte x a = write_code x ≡ answer (pair a 0x80, 1)

-- padding, where nothing waits and nothing is held; a space where the command now held needs a backspace and no single
-- code is before it; the last single code with 0x80, where nothing waits after it; a single code before the command now
-- held, with 0x80, or with 0x20 where that needs a backspace; two single codes in their order; a command by itself. After
-- the other four, `rest` waits, which may be any codes
pub data MadeOf : Pair → List Code → Queued → Type 0 where
  nothing_to_send : MadeOf (pair 0x80 0x80) [] empty
  space_before : (c : Code) (rest : List Code) → needs_backspace c ≡ true → MadeOf (pair 0x20 0x80) [] (queued rest (Some c))
  last_single : (x : Code) (a : ℕ) → IsByte x a → MadeOf (pair a 0x80) (x ∷ []) empty
  single_before : (x c : Code) (a : ℕ) (rest : List Code) → IsByte x a → byte_len c ≡ 2 → MadeOf (pair a (cond (needs_backspace c) 0x20 0x80)) (x ∷ []) (queued rest (Some c))
  two_singles : (x y : Code) (a b : ℕ) (rest : List Code) → IsByte x a → IsByte y b → MadeOf (pair a b) (x ∷ y ∷ []) (queued rest None)
  one_command : (c : Code) (p : Pair) (rest : List Code) → write_code c ≡ answer (p, 2) → MadeOf p (c ∷ []) (queued rest None)

-- whether a code among those taken needs a backspace
abbrev pub has_backspace : List Code → Bool
has_backspace [] = false
has_backspace (c ∷ cs) = needs_backspace c || has_backspace cs

-- what a pop takes, by what was held before it: the held command alone; and where none was held, no command that needs a
-- backspace
abbrev pub AfterHeld : Option Code → List Code → Type 0
AfterHeld None taken = has_backspace taken ≡ false
AfterHeld (Some c) taken = taken ≡ c ∷ []

-- whether a pair that was read is a command
abbrev pub reads_command : Outcome (Code × Code) → Bool
reads_command (answer x) = not (is_single x.0)
reads_command (refused n) = false

-- whether a two-byte code is among those taken
abbrev pub has_two_byte_code : List Code → Bool
has_two_byte_code [] = false
has_two_byte_code (c ∷ cs) = not (is_single c) || has_two_byte_code cs

-- half a command: a one-byte `Unknown` of 10 to 1F, the first byte of a command without its second
abbrev pub is_half_command : Code → Bool
is_half_command code.Nul = false
is_half_command (code.Control c) = false
is_half_command (code.Letter l) = false
is_half_command (code.Unknown b) = is_command b

-- the exception: half a command is the first of those taken, and so the first byte of the pair
abbrev pub half_command_first : List Code → Bool
half_command_first [] = false
half_command_first (c ∷ cs) = is_half_command c

-- which codes make a command pair: a two-byte code is among them or, which is the one exception, half a command is first
abbrev pub makes_command : List Code → Bool
makes_command codes = has_two_byte_code codes || half_command_first codes
