-- Where a line leads. Assumes nothing.
use Rattle.std.specs.Prelude.{ℕ}
use Rattle.reply_line.specs.declared.Refusal.{Refusal}

-- on; or to the end of the reply, with the code of its last line; or no further
pub data Move : Type 0 where
  On : Move
  Ends : ℕ → Move
  Refused : Refusal → Move
