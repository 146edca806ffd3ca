-- `any_sweep` walks the open boxes from the innermost outwards, and stops at a measuring loop. Assumes nothing.
use mathlib.Core.Path.{sym, ◌∙◌}
use Rattle.lookup.proofs.Walks.{walk_row, walk_stops, walk_on, walk_ends}
use Rattle.lookup.proofs.around.any_sweep.Goals as goal

pub loop-k-init : goal.loop-k-init
loop-k-init c =
    walk_row c.args.s.depth _ c.min-k.ensures

pub returns-then-sweep_at : goal.returns-then-sweep_at
returns-then-sweep_at c =
    sym (walk_stops c.loop-k.invariant c.loop-k-test.true _
    (rw (sym c.sweep_at.ensures ∙ c.if-sweep_at.true)))

pub loop-k-preserved : goal.loop-k-preserved
loop-k-preserved c =
    walk_on c.loop-k.invariant c.loop-k-test.true (rw (sym c.sweep_at.ensures ∙ c.if-sweep_at.false))

pub returns : goal.returns
returns c = sym (walk_ends c.loop-k.invariant c.loop-k-test.false)
