-- `mates::close_of` asks the marks in order, from the box's own on. Assumes nothing.
use Prim.Native.Nat.{◌-◌}
use mathlib.Core.Path.{◌≡◌}
use Rattle.mates.specs.Code.{close_in, close_within}
use Rattle.mates.proofs.reading.close_of.Given as goal

abbrev pub invariant-loop-j : goal.invariant-loop-j
invariant-loop-j l = close_in l.marks.at l.p ≡ close_within l.marks.at l.p l.j (128 - l.j)
