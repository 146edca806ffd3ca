-- `package::walk` goes through the parts: what is still to come of it is the whole's. Assumes nothing.
use lib.ListN.{length}
use mathlib.Core.List.{List}
use mathlib.Core.Path.{◌≡◌}
use Prim.Native.Nat.{ℕ, ◌≤◌}
use Rattle.package.proofs.Packages.{from}
use Rattle.package.specs.Code.{walk_from}
use Rattle.package.specs.declared.Part.{Part}
use Rattle.package.specs.Package.{package_of, parts_from}
use Rattle.package.proofs.walk.Given as goal

-- with k parts kept in x, of a walk that began with start
pub record Walking {K : Type 0} (keep : K → ℕ → Part → K) (start : K) (s : List ℕ) (x : K) (k at : ℕ) : Type 0 where
  pub within : at ≤ length s
  pub same : walk_from keep k x (parts_from k (from s at)) ≡ walk_from keep 0 start (package_of s)

abbrev pub invariant-loop-k : goal.invariant-loop-k
invariant-loop-k g l = Walking g.K.Keep.kept l.fn.start l.s l.kept l.k l.at
