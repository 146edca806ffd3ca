-- `survey_of` passes the items of a table. Assumes nothing.
use Rattle.std.proofs.Common.{rules}
use mathlib.Core.Path.{◌≡◌}
use lib.ListN.{length}
use Rattle.lookup.proofs.Passing.{pass_starts, pass_more, pass_ends}
use Rattle.lookup.proofs.shape.survey_of.Goals as goal

pub loop-m-init : goal.loop-m-init
loop-m-init c = pass_starts _ _ _ c.sizes_ok-sound.ensures

pub loop-m-preserved : goal.loop-m-preserved
loop-m-preserved c =
    let full : length c.args.table.now.items ≡ 128 = search rules in
    pass_more c.loop-m.invariant full c.at_most-count.ensures c.loop-m-test.true c.role_of.ensures
    c.item_ok-sound.ensures

pub returns : goal.returns
returns c =
    let full : length c.args.table.now.items ≡ 128 = search rules in
    pass_ends c.loop-m.invariant full c.at_most-count.ensures c.loop-m-test.false
    c.marks_of-marks.ensures c.first_tag.ensures
