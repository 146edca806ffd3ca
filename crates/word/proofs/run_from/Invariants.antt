-- `word::run_from` goes byte by byte. Assumes nothing.
use Rattle.word.proofs.Runs.{Running}
use Rattle.word.proofs.run_from.Given as goal

abbrev pub invariant-loop-i : goal.invariant-loop-i
invariant-loop-i l = Running l.class l.s l.at l.i
