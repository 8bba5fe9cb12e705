-- How many sends are left, exactly, and how many of them a drain makes, from 01: a command goes out twice, and text once,
-- or twice where half a command goes first in it; two single codes share a pair; and a command that needs a backspace has a space before it, in the pair of the single
-- code before it if there is one.
use Rattle.std.specs.Prelude.{ℕ, ◌+◌, ◌/◌, Bool, true, false, cond, List, [], ◌∷◌, leb, length, replicate, Option, None, Some}
use Rattle.code.specs.Channel.{channel_one}
use Rattle.code.specs.Code.{needs_backspace}
use Rattle.code.specs.Symbol.{symbol_at}
use Rattle.code.specs.Write.{is_command_code}
use Rattle.code.specs.declared.code.Code.{Code}
use Rattle.code.specs.declared.code.Code.TheVariants as code
use Rattle.code.specs.declared.control.Control.TheVariants as control
use Rattle.queue.specs.Queue.{is_single, pair_of, queued}
use Rattle.sender.specs.Sending.{Sending, repeating, sending_of, still_owed}

-- how often a pair is sent that begins with a code
abbrev pub copies : Code → ℕ
copies c = cond (is_command_code c) 2 1

-- the pair of a space alone
abbrev pub spaces : Code → ℕ
spaces c = cond (needs_backspace c) 1 0

-- of the waiting codes. The flag says that the code before them is a single one whose pair has its second byte free: a
-- single code fills it and takes no send; before a command it is 80 or the space
abbrev pub sends_for : Bool → List Code → ℕ
sends_for half [] = 0
sends_for false (c ∷ cs) = cond (is_single c) (copies c + sends_for true cs) (spaces c + copies c + sends_for false cs)
sends_for true (c ∷ cs) = cond (is_single c) (sends_for false cs) (copies c + sends_for false cs)

abbrev pub sends_for_held : Option Code → ℕ
sends_for_held None = 0
sends_for_held (Some c) = copies c

unfoldable pub sends_left : Sending → ℕ
sends_left s = length (still_owed s.repeats) + sends_for_held s.queue.held + sends_for false s.queue.waiting

-- the least of two
abbrev pub least : ℕ → ℕ → ℕ
least a b = cond (leb a b) a b

-- how many sends a drain makes: its limit of pairs, the pairs that have room, or all that are left, whichever is least
abbrev pub drains_exactly : ℕ → ℕ → Sending → ℕ
drains_exactly limit room s = least limit (least (room / 2) (sends_left s))

-- n copies of a code wait, and the code was sent once just before
abbrev pub full_of : Code → ℕ → Sending
full_of c n = sending_of (queued (replicate n c) None) (repeating (pair_of c))

-- Á, 12 20, a code that takes three: a space, the command, its repeat
abbrev pub a_acute : Code
a_acute = code.Control (record { field = None; channel = channel_one; control = control.Symbol (symbol_at 16) })
