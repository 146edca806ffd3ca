-- Item by item its brief is noted; then the briefs tell the items. Assumes nothing.
use mathlib.Core.Path.{◌≡◌}
use lib.ListN.{length, take}
use Rattle.std.proofs.Common.{rules}
use Rattle.rules.proofs.Noting.{note_next, all_noted}
use Rattle.rules.proofs.Way.{came}
use Rattle.rules.proofs.check_row.Goals as goal

pub loop-i-preserved : goal.loop-i-preserved
loop-i-preserved c = note_next c.requires c.loop-i.invariant c.loop-i-test.true c.brief_of.ensures

-- all briefs are made
pub returns : goal.returns
returns c =
    let whole : length c.args.table.items ≡ 128 = search rules in
    came (take c.args.table.count c.loop-i.briefs) c.outside.result c.start.result c.check_block.result
    (all_noted c.loop-i.invariant c.loop-i-test.false c.requires.items whole)
    c.outside.ensures c.start.ensures c.check_block.ensures
