-- `judge` goes through the lines in order: the verdict that is still to come is the whole's. Assumes nothing.
use lib.ListN.{length, drop}
use mathlib.Core.List.{List}
use mathlib.Core.Path.{◌≡◌}
use Prim.Native.Nat.{ℕ, ◌+◌, ◌-◌, ◌≤◌}
use Rattle.text.specs.Cut.{lines}
use Rattle.reply_step.specs.Meaning.{meant}
use Rattle.reply_step.specs.declared.Open as coded
use Rattle.reply.specs.Reply.{verdict_from, verdict}
use Rattle.reply.proofs.judge.Given as goal

pub record Judging (s : List ℕ) (n : ℕ) (st : coded.Open) (at k : ℕ) : Type 0 where
  pub within : at ≤ length s
  pub short : length s ≤ 65536
  pub numbered : k ≤ at + 1
  pub same : verdict_from n k at (meant st) (lines (drop at s)) ≡ verdict n s

abbrev pub invariant-loop-found : goal.invariant-loop-found
invariant-loop-found l = Judging l.reply l.n l.st l.at l.k

abbrev pub decreases-loop-found : goal.decreases-loop-found
decreases-loop-found l = length l.reply - l.at
