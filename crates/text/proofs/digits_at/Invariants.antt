-- `text::digits_at` reads the digits from the first to the last. Assumes nothing.
use Rattle.text.proofs.Digits.{Reading}
use Rattle.text.proofs.digits_at.Given as goal

abbrev pub invariant-loop-c : goal.invariant-loop-c
invariant-loop-c l = Reading l.s l.at l.n l.v l.c-index
