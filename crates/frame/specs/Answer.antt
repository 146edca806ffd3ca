-- 01, the table of numbers, 1 to 5: the number of each refusal, and what each answer of the code says. "A refusal
-- returns its number and place (.. 0 .. where there is none)": none of these has a place. Assumes nothing.
use Rattle.std.specs.Prelude.{Result, Ok, Err}
use Rattle.std.specs.Prelude.{ℕ}
use Rattle.frame.specs.declared.HostNumber.{HostNumber}
use Rattle.frame.specs.declared.InstrumentNumber.{InstrumentNumber}
use Rattle.frame.specs.declared.Refusal.{Refusal}
use Rattle.frame.specs.Frame.{Answer, refused, accepted}

unfoldable pub number_of : Refusal → ℕ
number_of Refusal.BadContent = 1
number_of Refusal.ShortLine = 2
number_of Refusal.WrongCrc = 3
number_of Refusal.WrongNumber = 4
number_of Refusal.ShortBuffer = 5

-- the reader's: content of so many bytes, and the next expected number
unfoldable pub meaning_read : Result (ℕ × InstrumentNumber) Refusal → Answer
unfolding number_of
meaning_read (Ok (length, next)) = accepted length next.0
meaning_read (Err refusal) = refused (number_of refusal) 0

-- the writer's: so many bytes written, and the next host number
unfoldable pub meaning_written : Result (ℕ × HostNumber) Refusal → Answer
unfolding number_of
meaning_written (Ok (length, next)) = accepted length next.0
meaning_written (Err refusal) = refused (number_of refusal) 0
