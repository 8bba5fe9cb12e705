-- The queue as a list: the codes that wait, first in first out, and at most one that is held. Written from 01's section
-- "Queue and sender" and its refusal 7; what may be queued is in `Queueable`. 47 CFR 79.101 has no queue.
use Rattle.std.specs.Prelude.{ℕ, ◌+◌, Bool, true, false, cond, ◌&&◌, not, List, [], ◌∷◌, ◌++◌, eqb, leb, length, Option, None, Some}
use Rattle.code.specs.Code.{byte_len, needs_backspace}
use Rattle.code.specs.Outcome.{Outcome, answer, refused}
use Rattle.code.specs.Pair.{pair}
use Rattle.code.specs.Write.{write_code}
use Rattle.code.specs.declared.code.Code.{Code}
use Rattle.code.specs.declared.code.Code.TheVariants as code
use Rattle.code.specs.declared.pair.Pair.{Pair}
use Rattle.queue.specs.Queueable.{is_queueable, queueable}

pub record Queued : Type 0 where
  pub waiting : List Code
  pub held : Option Code

abbrev pub queued : List Code → Option Code → Queued
queued waiting held = record { waiting = waiting; held = held }

-- nothing waits and nothing is held
abbrev pub empty : Queued
empty = queued [] None

-- the held code, if there is one
abbrev pub held_codes : Option Code → List Code
held_codes None = []
held_codes (Some c) = c ∷ []

-- what is inside, in the order in which it goes out: the held code, then those waiting
abbrev pub inside : Queued → List Code
inside q = held_codes q.held ++ q.waiting

-- `n_codes` is waiting plus held
abbrev pub count : Queued → ℕ
count q = length q.waiting + length (held_codes q.held)

abbrev pub is_nul : Code → Bool
is_nul code.Nul = true
is_nul (code.Control c) = false
is_nul (code.Letter l) = false
is_nul (code.Unknown b) = false

-- a code may wait if it may be queued and is not NUL, and be held if it is a two-byte code that may be queued
abbrev pub may_wait : Code → Bool
may_wait c = not (is_nul c) && is_queueable c

abbrev pub may_be_held : Code → Bool
may_be_held c = eqb (byte_len c) 2 && is_queueable c

-- A push. NUL is accepted and not stored; then 2, 3 or 18; then 7: 64 codes are waiting. A held code is not counted.
abbrev pub is_full : ℕ → Bool
is_full n = leb 64 n

abbrev pub if_room : Bool → Outcome Unit → Outcome Bool
if_room full (answer u) = cond full (refused 7) (answer true)
if_room full (refused k) = refused k

abbrev pub admit_by : Bool → Outcome Unit → Bool → Outcome Bool
admit_by nul may full = cond nul (answer false) (if_room full may)

-- whether a code that is accepted is stored, with n waiting
unfoldable pub admit : Code → ℕ → Outcome Bool
admit c n = admit_by (is_nul c) (queueable c) (is_full n)

-- what a push gives, and what it leaves: more where the code is stored, else the same
abbrev pub entered : {A : Type 0} → Outcome Bool → A → A → Outcome Unit × A
entered (answer true) more same = (answer tt, more)
entered (answer false) more same = (answer tt, same)
entered (refused n) more same = (refused n, same)

abbrev pub push : Code → Queued → Outcome Unit × Queued
push c q = entered (admit c (length q.waiting)) (queued (q.waiting ++ (c ∷ [])) q.held) q

-- A pop: the pair, the codes that it took, and what is left.
pub record Pop : Type 0 where
  pub pair : Pair
  pub took : List Code
  pub next : Queued

abbrev pub pop_of : Pair → List Code → List Code → Option Code → Pop
pop_of p took waiting held = record { pair = p; took = took; next = queued waiting held }

-- the pair that a code is written as; what may wait or be held can be written, so padding stands for none
abbrev pub pair_written : Outcome (Pair × ℕ) → Pair
pair_written (answer x) = x.0
pair_written (refused n) = pair 0x80 0x80

unfoldable pub pair_of : Code → Pair
pair_of c = pair_written (write_code c)

abbrev pub byte_of : Code → ℕ
byte_of c = (pair_of c).0

abbrev pub is_single : Code → Bool
is_single c = eqb (byte_len c) 1

-- two single codes are one pair; before a command a single code goes with 0x80, or with 0x20 where the command needs a
-- backspace, and the command is then held; a last single code goes with 0x80
abbrev pub pop_two : Code → Code → List Code → Pop
pop_two x y rest =
    cond (is_single y) (pop_of (pair (byte_of x) (byte_of y)) (x ∷ y ∷ []) rest None)
    (pop_of (pair (byte_of x) (cond (needs_backspace y) 0x20 0x80)) (x ∷ []) rest (Some y))

abbrev pub pop_single : Code → List Code → Pop
pop_single x [] = pop_of (pair (byte_of x) 0x80) (x ∷ []) [] None
pop_single x (y ∷ rest) = pop_two x y rest

-- with no single code before it, a command that needs a backspace is held and 20 80 goes out; any other goes out
abbrev pub pop_command : Code → List Code → Pop
pop_command x rest =
    cond (needs_backspace x) (pop_of (pair 0x20 0x80) [] rest (Some x)) (pop_of (pair_of x) (x ∷ []) rest None)

-- empty gives 80 80
abbrev pub pop_waiting : List Code → Pop
pop_waiting [] = pop_of (pair 0x80 0x80) [] [] None
pop_waiting (x ∷ rest) = cond (is_single x) (pop_single x rest) (pop_command x rest)

-- first of all the held code
abbrev pub pop_held : Option Code → List Code → Pop
pop_held (Some c) waiting = pop_of (pair_of c) (c ∷ []) waiting None
pop_held None waiting = pop_waiting waiting

unfoldable pub pop : Queued → Pop
pop q = pop_held q.held q.waiting
