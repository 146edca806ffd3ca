-- 01, "The checker": the numbers of form, 10 to 18.
use Rattle.std.specs.Prelude.{ℕ}
pub use Rattle.argument.specs.declared.Refusal.{Refusal}

unfoldable pub number_of : Refusal → ℕ
number_of Refusal.TooLong = 10
number_of Refusal.NoEnd = 11
number_of Refusal.LongLine = 12
number_of Refusal.TooManyItems = 13
number_of Refusal.UnknownCommand = 14
number_of Refusal.BadArguments = 15
number_of Refusal.Undeclared = 16
number_of Refusal.DeclaredTwice = 17
number_of Refusal.TooManyNames = 18
