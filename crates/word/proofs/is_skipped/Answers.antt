use lib.Dec.{eqb}
use mathlib.Core.Path.{◌∙◌, ap}
use Prim.Native.Nat.{ℕ}
use Rattle.word.proofs.Runs as L
use Rattle.word.proofs.is_skipped.Goals as goal

pub returns-in-Some : goal.returns-in-Some
returns-in-Some c =
    ap (λ (x : ℕ). eqb x 35) (c.in-Some.ensures.lookup.3.1 0)
    ∙ L.skip_some _ _ c.run_from-at.ensures c.in-Some.ensures.lookup.3.0

pub returns-in-None : goal.returns-in-None
returns-in-None c = L.skip_none _ _ c.run_from-at.ensures c.in-None.ensures.lookup.3
