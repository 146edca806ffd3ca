-- `rules::check` walks the row of a table in shape, and a refusal is told with its line. Assumes nothing.
use mathlib.Core.Path.{◌≡◌, ◌∙◌, ap}
use mathlib.Core.Bool.{true}
use lib.ListN.{length}
use Rattle.std.proofs.Common.{rules}
use Rattle.table.specs.Shape.{in_shape}
use Rattle.rules.specs.Check.{refused}
use Rattle.rules.specs.Verdict.{number_of}
use Rattle.rules.proofs.Way.{in_shape_lem}
use Rattle.rules.proofs.check.Goals as goal

pub returns-in-Ok : goal.returns-in-Ok
returns-in-Ok c =
    let shape : in_shape (length c.args.text.now) c.args.table ≡ true = search rules in
    in_shape_lem _ c.args.table shape c.kinds_of.ensures c.in-Ok.ensures

pub returns-in-Err : goal.returns-in-Err
returns-in-Err c =
    let shape : in_shape (length c.args.text.now) c.args.table ≡ true = search rules in
    ap (refused (number_of c.in-Err.refusal)) c.line_of.ensures
    ∙ in_shape_lem _ c.args.table shape c.kinds_of.ensures c.in-Err.ensures
