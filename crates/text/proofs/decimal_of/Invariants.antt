-- `text::decimal_of` lays the digits from the last to the first. Assumes nothing.
use Rattle.text.proofs.Decimals.{Laid}
use Rattle.text.proofs.decimal_of.Given as goal

abbrev pub invariant-loop-rest : goal.invariant-loop-rest
invariant-loop-rest l = Laid l.bytes l.from l.rest l.n

abbrev pub decreases-loop-rest : goal.decreases-loop-rest
decreases-loop-rest l = l.rest
