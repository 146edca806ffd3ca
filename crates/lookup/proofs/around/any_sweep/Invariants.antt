-- `any_sweep` walks the open boxes from the innermost outwards, and stops at a measuring loop. Assumes nothing.
use Rattle.laws.specs.Least.{least}
use Rattle.lookup.specs.Lookup.{sweeps}
use Rattle.lookup.proofs.Walks.{Walk}
use Rattle.lookup.proofs.around.any_sweep.Given as goal

abbrev pub invariant-loop-k : goal.invariant-loop-k
invariant-loop-k l = Walk (sweeps l.marks.at) l.s.boxes (least l.s.depth 8) l.k
