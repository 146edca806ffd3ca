-- `mates::first_tag` asks the marks in order. Assumes nothing.
use Rattle.mates.proofs.Placed.{Seeking}
use Rattle.mates.proofs.reading.first_tag.Given as goal

abbrev pub invariant-loop-j : goal.invariant-loop-j
invariant-loop-j l = Seeking l.marks.at l.n l.j
