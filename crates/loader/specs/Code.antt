-- What only the code's shape needs: what its answer on one line stands for.
use Rattle.std.specs.Prelude.{Option, Some, None, Result, Ok, Err}
use Rattle.table.specs.declared.Item.{Item}
use Rattle.argument.specs.declared.Refusal.{Refusal}
use Rattle.argument.specs.Refusal.{number_of}
use Rattle.line.specs.Line.{item, refused}
use Rattle.loader.specs.Load.{Line, nothing, given}

abbrev pub taken_of : Result (Option Item) Refusal → Line
taken_of (Ok None) = nothing
taken_of (Ok (Some it)) = given (item it)
taken_of (Err r) = given (refused (number_of r))
