-- `table::in_shape` asks each slot that the count lets in. Assumes nothing.
use mathlib.Core.Path.{◌∙◌}
use Rattle.table.proofs.Judged.{shape_by_all}
use Rattle.table.proofs.shape.in_shape.Goals as goal

pub returns : goal.returns
returns c =
    c.slots_ok.ensures ∙ shape_by_all _ c.args.table c.if-table-gt-ITEMS.false c.if-table-gt-NAMES.false
