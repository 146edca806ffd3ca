-- What only the code's shape needs: the number of what is wrong, if something is.
use Rattle.std.specs.Prelude.{ℕ, Option, Some, None}
use Rattle.argument.specs.Refusal.{Refusal, number_of}

abbrev pub numbered : Option Refusal → Option ℕ
numbered None = None
numbered (Some r) = Some (number_of r)
