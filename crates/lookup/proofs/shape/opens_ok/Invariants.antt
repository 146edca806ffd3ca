-- `opens_ok` walks the open boxes from the innermost outwards, and stops at one that is out of shape. Assumes nothing.
use Rattle.lookup.specs.Lookup.{opens_in}
use Rattle.lookup.proofs.Walks.{Walk}
use Rattle.lookup.proofs.shape.opens_ok.Given as goal

abbrev pub invariant-loop-k : goal.invariant-loop-k
invariant-loop-k l = Walk (opens_in l.marks.at l.n) l.m.boxes l.m.depth l.k
