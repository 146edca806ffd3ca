-- The two walkers call one another: the number of remaining items falls, the item checker's turn before the block
-- checker's. In the row, what is left of the walk is what was left at its start. Assumes nothing.
use Prim.Native.Nat.{◌+◌, ◌-◌, ◌*◌}
use lib.ListN.{length}
use Rattle.rules.proofs.Way.{Same}
use Rattle.rules.proofs.boxes.+check_block_check_item.Given as goal

abbrev pub decreases-check_block : goal.decreases-check_block
decreases-check_block l = 2 * (length l.briefs.now - l.from) + 1

abbrev pub decreases-check_item : goal.decreases-check_item
decreases-check_item l = 2 * (length l.briefs.now - l.at)

abbrev pub invariant-check_block-loop-at : goal.invariant-check_block-loop-at
invariant-check_block-loop-at l =
    Same l.briefs l.a l.at l.held l.initial.at l.initial.held

abbrev pub decreases-check_block-loop-at : goal.decreases-check_block-loop-at
decreases-check_block-loop-at l = length l.briefs - l.at
