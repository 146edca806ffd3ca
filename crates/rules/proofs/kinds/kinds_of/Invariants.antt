use Rattle.rules.specs.Code.{kinds_in}
use Rattle.rules.proofs.Writes.{Learning}
use Rattle.rules.proofs.kinds.kinds_of.Given as goal

abbrev pub invariant-loop-i : goal.invariant-loop-i
invariant-loop-i l = Learning l.table (kinds_in l.kinds) l.i
