use Rattle.rules.specs.Code.{kinds_in}
use Rattle.rules.proofs.Noting.{Noting}
use Rattle.rules.proofs.check_row.Given as goal

abbrev pub invariant-loop-i : goal.invariant-loop-i
invariant-loop-i l = Noting l.table (kinds_in l.kinds) l.briefs l.i
