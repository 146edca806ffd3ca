-- `word::eight_at` gathers eight bytes of a row, the last one first. Assumes nothing.
use Rattle.word.proofs.Keyed.{Gathering}
use Rattle.word.proofs.eight_at.Given as goal

abbrev pub invariant-loop-i : goal.invariant-loop-i
invariant-loop-i l = Gathering l.row l.at l.i l.eight
