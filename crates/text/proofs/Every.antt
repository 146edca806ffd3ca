-- One test of every number below another, which is computed. Assumes nothing.
use borrow.Author.Tests.{eqb-false, eqb-true}
use lib.Dec.{eqb}
use mathlib.Core.Bool.{Bool, ◌&&◌, and-eq-true_iff, false, true}
use mathlib.Core.Path.{◌≡◌, ◌∙◌, ap, refl}
use native.Mathlib.Omega.{arith}
use Prim.Native.Nat.{ℕ, zero, suc, ◌<◌}

abbrev pub every : (ℕ → Bool) → ℕ → Bool
every p zero = true
every p (suc n) = p n && every p n

pub at_each : (p : ℕ → Bool) (n c : ℕ) → every p n ≡ true → c < n → p c ≡ true
at_each p zero c t h = absurd (omega arith)
at_each p (suc n) c t h =
    let both : (p n ≡ true) × (every p n ≡ true) = (and-eq-true_iff (p n) (every p n)).0 t in
    by_test (eqb c n) refl both.0 (at_each p n c both.1)
  where
    by_test : (b : Bool) → eqb c n ≡ b → p n ≡ true → (c < n → p c ≡ true) → p c ≡ true
    by_test true e last before = ap p (eqb-true c n e) ∙ last
    by_test false e last before = before (let other : c ≡ n → ⊥ = eqb-false c n e in omega arith)
