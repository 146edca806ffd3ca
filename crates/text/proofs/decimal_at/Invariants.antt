-- `text::decimal_at` reads digit after digit: what is read from here is the whole's. Assumes nothing.
use Rattle.text.proofs.Decimals.{Reading}
use Rattle.text.proofs.decimal_at.Given as goal

abbrev pub invariant-loop-next : goal.invariant-loop-next
invariant-loop-next l = Reading l.s l.at l.number l.next
