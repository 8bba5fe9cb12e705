-- A line of text that waits to be written: the bytes of a memory between two places. The port's own words.
use Rattle.std.specs.Prelude.{ℕ, zero, suc, ◌+◌, ◌-◌, Bool, cond, List, [], ◌∷◌, ◌++◌, ◌≡◌, leb, ltb, drop, get_or, length, replicate, take}
use Rattle.lines.specs.Put.{Puts, put_all, room_of}
use Rattle.lines.specs.declared.line.Line.{Line}
use Rattle.lines.specs.declared.put.Writer.{Writer}

-- the memory of a line; no line is longer
abbrev pub line_length : ℕ
line_length = 96

abbrev pub empty_line : Line
empty_line = record { bytes = replicate line_length 0; at = 0; len = 0 }

-- the line with these bytes after what it has
abbrev pub says : Line → List ℕ → Line
says l bs = record { bytes = (put_all (l.len, l.bytes) bs).1; at = l.at; len = (put_all (l.len, l.bytes) bs).0 }

-- the n bytes from a place on
abbrev pub bytes_from : List ℕ → ℕ → ℕ → List ℕ
bytes_from bytes at zero = []
bytes_from bytes at (suc n) = get_or bytes at 0 ∷ bytes_from bytes (at + 1) n

-- how many bytes wait, and which
abbrev pub waiting : Line → ℕ
waiting l = cond (leb line_length l.len) line_length l.len - l.at

abbrev pub pending : Line → List ℕ
pending l = bytes_from l.bytes l.at (waiting l)

abbrev pub has_more : Line → Bool
has_more l = ltb 0 (waiting l)

-- what is written into the room that there is, and what is left of the line: one of which nothing is left is empty
abbrev pub writes : Line → ℕ → List ℕ
writes l room = take room (pending l)

abbrev pub unwritten : Line → ℕ → Line
unwritten l room = cond (ltb room (waiting l)) (record { bytes = l.bytes; at = l.at + room; len = l.len }) empty_line

-- an output that begins with these bytes
abbrev pub over : List ℕ → List ℕ → List ℕ
over bytes output = bytes ++ drop (length bytes) output

-- a line flushed by a writer, and what is left of it
pub record Flushes (l : Line) (w : Writer) (rest : Line) (next : Writer) : Type 0 where
  pub puts : Puts w (writes l (room_of w)) next
  pub leaves : rest ≡ unwritten l (room_of w)
