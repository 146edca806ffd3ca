-- `mates::marks_of` passes the roles in order. Assumes nothing.
use Rattle.mates.proofs.OpenBoxes.{Passed}
use Rattle.mates.proofs.pass.marks_of.Given as goal

abbrev pub invariant-loop-j : goal.invariant-loop-j
invariant-loop-j l = Passed l.roles l.n l.boxes l.depth l.at l.j
