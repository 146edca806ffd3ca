-- `loop_depth` walks the open boxes from the innermost outwards, and stops at a loop. Assumes nothing.
use Rattle.laws.specs.Least.{least}
use Rattle.lookup.specs.Lookup.{to_loop}
use Rattle.lookup.proofs.Walks.{Walk}
use Rattle.lookup.proofs.around.loop_depth.Given as goal

abbrev pub invariant-loop-k : goal.invariant-loop-k
invariant-loop-k l = Walk (to_loop l.marks.at) l.s.boxes (least l.s.depth 8) l.k
