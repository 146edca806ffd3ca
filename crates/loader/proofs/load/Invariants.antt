-- `loader::load` goes through the lines in order. What is known at a place of a round is said once, at the place.
-- Assumes nothing.
use lib.ListN.{length}
use Prim.Native.Nat.{◌-◌}
use Rattle.loader.proofs.Walk.{Loading}
use Rattle.loader.proofs.load.Given as goal

abbrev pub invariant-loop-at : goal.invariant-loop-at
invariant-loop-at l = Loading l.text l.table l.names l.at l.number

abbrev pub decreases-loop-at : goal.decreases-loop-at
decreases-loop-at l = length l.text - l.at
