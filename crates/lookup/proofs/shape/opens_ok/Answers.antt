-- `opens_ok` walks the open boxes from the innermost outwards, and stops at one that is out of shape. Assumes nothing.
use mathlib.Core.Path.{refl, sym, ◌∙◌}
use borrow.Author.Tests.{not-true, not-false}
use Rattle.lookup.proofs.Walks.{walk_starts, walk_stops, walk_on, walk_ends}
use mathlib.Core.Path.{ap}
use mathlib.Core.Bool.{not}
use Rattle.lookup.proofs.shape.opens_ok.Goals as goal

pub loop-k-init : goal.loop-k-init
loop-k-init c = walk_starts _ c.requires

pub returns-then-not-box_ok : goal.returns-then-not-box_ok
returns-then-not-box_ok c =
    sym (walk_stops c.loop-k.invariant c.loop-k-test.true _
    (rw (sym c.box_ok.ensures ∙ not-true c.box_ok.result (ap not c.if-not-box_ok.true))))

pub loop-k-preserved : goal.loop-k-preserved
loop-k-preserved c =
    walk_on c.loop-k.invariant c.loop-k-test.true
    (rw (sym c.box_ok.ensures ∙ not-false c.box_ok.result (ap not c.if-not-box_ok.false)))

pub returns : goal.returns
returns c = sym (walk_ends c.loop-k.invariant c.loop-k-test.false)
