-- `loop_depth` walks the open boxes from the innermost outwards, and stops at a loop. Assumes nothing.
use mathlib.Core.Path.{sym, ◌∙◌}
use native.Mathlib.Omega.{arith}
use Rattle.lookup.proofs.Walks.{walk_row, walk_stops, walk_on, walk_ends}
use Rattle.lookup.proofs.around.loop_depth.Goals as goal

pub loop-k-init : goal.loop-k-init
loop-k-init c = walk_row c.args.s.depth _ c.min-k.ensures

pub returns-then-loop_at : goal.returns-then-loop_at
returns-then-loop_at c =
    let w = c.loop-k.invariant in (
      omega (arith, w.within),
      walk_stops w c.loop-k-test.true _ (rw (sym c.loop_at.ensures ∙ c.if-loop_at.true)),
    )

pub loop-k-preserved : goal.loop-k-preserved
loop-k-preserved c =
    walk_on c.loop-k.invariant c.loop-k-test.true (rw (sym c.loop_at.ensures ∙ c.if-loop_at.false))

pub returns : goal.returns
returns c = (omega arith, walk_ends c.loop-k.invariant c.loop-k-test.false)
