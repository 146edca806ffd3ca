-- `word::eight_from` puts the bytes of a word in front of spaces, the last one first. Assumes nothing.
use Rattle.word.proofs.Keyed.{Filling}
use Rattle.word.proofs.eight_from.Given as goal

abbrev pub invariant-loop-i : goal.invariant-loop-i
invariant-loop-i l = Filling l.word l.from l.i l.eight
