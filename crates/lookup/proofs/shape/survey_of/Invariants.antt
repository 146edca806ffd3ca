-- `survey_of` passes the items of a table. Assumes nothing.
use Rattle.lookup.proofs.Passing.{Passed}
use Rattle.lookup.proofs.shape.survey_of.Given as goal

abbrev pub invariant-loop-m : goal.invariant-loop-m
invariant-loop-m l = Passed l.size l.table l.count l.roles l.sound l.m
