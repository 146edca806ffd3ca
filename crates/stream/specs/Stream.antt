-- What reading promises, and which failures of writing are spoken of. Which bytes come, and whether a read fails, is
-- the outside world's: no definition says it.
use Rattle.std.specs.Prelude.{ℕ, zero, suc, List, Option, Some, None, Result, Ok, Err, IfOk, ◌<◌, length, take}
use Rattle.std.specs.Prelude.{Bool, true, false, not}
use Rattle.std.specs.Io.KnownBytes.{Consumes, IsAtEnd}
use Rattle.std.specs.IoError.{error_kind}
use Rattle.io.specs.Counts.{IsPrefixLen}
use Rattle.std.specs.declared.io.Error.{Error}
use Rattle.std.specs.declared.io.ErrorKind.{ErrorKind}

-- What a read means by its answer: an error is a failure, 0 the end of the input, else so many bytes more.
unfoldable pub heard : {E : Type 0} → Result ℕ E → Result (Option ℕ) E
heard (Err e) = Err e
heard (Ok zero) = Ok None
heard (Ok (suc n)) = Ok (Some (suc n))

-- The bytes that are said to be read stand within the buffer.
abbrev pub Within : {E : Type 0} → Result ℕ E → List ℕ → Type 0
Within read bytes = IfOk read (λ n. IsPrefixLen n bytes)

-- Where the reader's bytes are known: those at the buffer's start were the next ones, and where the buffer has room
-- left, none is left to read.
abbrev pub Takes : {E : Type 0} → Option (List ℕ) → Option (List ℕ) → Result ℕ E → List ℕ → Type 0
Takes old new read bytes = IfOk read (λ n. Consumes old new (take n bytes) × (n < length bytes → IsAtEnd new))

-- Both of what was read: old and new are the reader's bytes before and after, where they are known.
pub record Reads {E : Type 0} (old new : Option (List ℕ)) (read : Result ℕ E) (bytes : List ℕ) : Type 0 where
  pub within : Within read bytes
  pub taken : Takes old new read bytes

-- Nobody reads the pipe any further.
unfoldable pub is_broken_pipe : ErrorKind → Bool
is_broken_pipe ErrorKind.BrokenPipe = true
is_broken_pipe _ = false

-- Whether it is to be said that what was to be written was not: where writing failed, unless nobody reads it.
unfoldable pub speaks_of : {A : Type 0} → Result A Error → Bool
speaks_of (Ok _) = false
speaks_of (Err e) = not (is_broken_pipe (error_kind e))
