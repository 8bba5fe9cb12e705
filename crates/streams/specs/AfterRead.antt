-- What a block of input leaves, by what the system answered to `read`: how many bytes it read, 0 at the end of the stream, or
-- an error. For a program over any state; `after` is the state after a block. The port's own words.
use Rattle.std.specs.Prelude.{ℕ, take, List, [], ◌≡◌, ◌≢◌, Result, Ok, Err}
use Rattle.std.specs.IoError.{error_kind}
use Rattle.std.specs.declared.io.Error.{Error}
use Rattle.std.specs.declared.io.ErrorKind.TheVariants.{Interrupted}
use Rattle.streams.specs.declared.lister.Failure.{Failure}
use Rattle.streams.specs.declared.lister.Failure.TheVariants as failure

-- bytes leave the state after them, unless a write failed; after an error the state is as it was, if a signal interrupted the
-- read, and otherwise the stream ends with that error
abbrev pub AfterRead : {S : Type 0} → (S → List ℕ → S) → S → Result ℕ Error → List ℕ → Result S Failure → Type 0
AfterRead after begun (Ok n) input (Ok next) = next ≡ after begun (take n input)
AfterRead after begun (Ok n) input (Err f) = (e : Error) × f ≡ failure.Output e
AfterRead after begun (Err e) input (Ok next) = (error_kind e ≡ Interrupted) × (next ≡ begun)
AfterRead after begun (Err e) input (Err f) = (error_kind e ≢ Interrupted) × (f ≡ failure.Input e)

-- what it writes, where nothing failed; `text` is that of a block
abbrev pub read_text : {S : Type 0} → (S → List ℕ → List ℕ) → S → Result ℕ Error → List ℕ → List ℕ
read_text text begun (Ok n) input = text begun (take n input)
read_text text begun (Err e) input = []
