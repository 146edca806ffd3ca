-- `read_into` makes a turn a line: what is still to come is the whole, in as much room as was lent. Assumes nothing.
use lib.ListN.{length}
use mathlib.Core.List.{List}
use mathlib.Core.Path.{◌≡◌}
use Prim.Native.Nat.{ℕ, ◌-◌}
use Rattle.reply.proofs.Coming.{Come}
use Rattle.reply.specs.declared.Stand.{Stand}
use Rattle.reply.specs.Code.{Memory, memory}
use Rattle.reply.proofs.read_into.Given as goal

pub record Reading {K : Type 0} (m : Memory (List K)) (s : List ℕ) (lent : List K) (n used : ℕ) (st : Stand)
    (now : List K) : Type 0 where
  pub come : Come m s n used lent st now
  pub size : length now ≡ length lent

abbrev pub invariant-loop-st : goal.invariant-loop-st
invariant-loop-st g l =
    Reading (memory g.K.Keep.got g.K.Keep.put) l.reply l.initial.lent l.n l.read.used l.st l.lent

abbrev pub decreases-loop-st : goal.decreases-loop-st
decreases-loop-st g l = l.st.end - l.st.pos
