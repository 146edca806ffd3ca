-- 01, the table of numbers, 5: the number of each answer of the code, and what the answer says. Assumes nothing.
use Rattle.std.specs.Prelude.{Result, Ok, Err}
use Rattle.std.specs.Prelude.{List, ℕ}
use Rattle.thing_text.specs.declared.Short.{Short}
use Rattle.thing_text.specs.Thing.{Answer, refused, accepted, Written, leaves}

-- the lent buffer is short: 5; nothing is refused: 0
abbrev pub number_of : Result ℕ Short → ℕ
number_of (Ok n) = 0
number_of (Err short) = 5

-- so many bytes are written; or the refusal, which has no place
abbrev pub meaning : Result ℕ Short → Answer
meaning (Ok n) = accepted n
meaning (Err short) = refused (number_of (Err short)) 0

-- the answer, and the lent buffer as it then is
abbrev pub leaves_by : Result ℕ Short → List ℕ → Written
leaves_by p buf = leaves (meaning p) buf
