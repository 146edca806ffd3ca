-- `text::put_digits` puts the digits from the last to the first. Assumes nothing.
use Rattle.text.proofs.Put.{Putting}
use Rattle.text.proofs.put_digits.Given as goal

abbrev pub invariant-loop-left : goal.invariant-loop-left
invariant-loop-left l = Putting l.initial.buf l.at l.n l.v l.buf l.rest l.left
