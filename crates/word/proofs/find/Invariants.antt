-- `word::find` goes row by row, with whatever row the key is of. Assumes nothing.
use mathlib.Core.List.{List}
use Prim.Native.Nat.{ℕ}
use Rattle.word.proofs.Rows.{Seeking}
use Rattle.word.specs.Code.{KeyOf}
use Rattle.word.proofs.find.Given as goal

abbrev pub invariant-loop-i : goal.invariant-loop-i
invariant-loop-i l = (row : List ℕ) → KeyOf row l.key → Seeking l.rows row l.i
