-- The last sign stands for every row past it. Assumes nothing.
use mathlib.Core.Path.{◌≡◌, refl, ◌∙◌, ap}
use mathlib.Core.List.{[], ◌∷◌}
use Prim.Native.Nat.{ℕ, zero, suc, ◌+◌, ◌-◌, ◌≤◌}
use native.Mathlib.Omega.{arith}
use lib.ListN.{get_or}
use lib.Seq.{get_or-drop}
use Rattle.value.specs.declared.Comparison.{Comparison}
use Rattle.argument.specs.Argument.{comparison_at, comparisons}

same_tail : (d : Comparison) (m : ℕ) → d ≡ get_or (d ∷ []) m d
same_tail d zero = refl
same_tail d (suc m) = refl

pub last_comparison : (k : ℕ) → 5 ≤ k → Comparison.AtLeast ≡ comparison_at k
unfolding comparison_at
last_comparison k h =
    let e : 5 + (k - 5) ≡ k = omega arith in
    same_tail Comparison.AtLeast (k - 5)
    ∙ get_or-drop 5 comparisons (k - 5) Comparison.AtLeast
    ∙ ap comparison_at e
