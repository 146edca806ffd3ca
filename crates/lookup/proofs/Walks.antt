-- A walk over the open boxes, from the innermost outwards.
use Prim.Native.Nat.{ℕ, ◌-◌, ◌≤◌, ◌<◌, min}
use mathlib.Core.Path.{◌≡◌, refl, ap, ◌∙◌}
use mathlib.Core.List.{List, [], ◌∷◌}
use native.Mathlib.Omega.{arith}
use lib.ListN.{get_or}
use Rattle.laws.specs.Least.{least}
use Rattle.laws.proofs.Least.{least_most, least_min}
use Rattle.state.specs.Meaning.{tops}
use Rattle.state.proofs.Boxes.{tops_top, at_zero}

-- what f says of all n open boxes, it says of the k that are left to walk
pub record Walk {X : Type 0} (f : List ℕ → X) (l : List ℕ) (n k : ℕ) : Type 0 where
  pub within : k ≤ 8
  pub same : f (tops l n) ≡ f (tops l k)

module _ {X : Type 0} {f : List ℕ → X} {l : List ℕ} where
  pub walk_starts : (n : ℕ) → n ≤ 8 → Walk f l n n
  walk_starts n h = record { within = h; same = refl }

  -- the boxes of a row of eight
  pub walk_row : (d k : ℕ) → k ≡ min d 8 → Walk f l (least d 8) k
  walk_row d k e = rw (e, least_min) (walk_starts (least d 8) (least_most d 8))

  module _ {n k : ℕ} (w : Walk f l n k) where
    -- the innermost box that is left tells what f says
    pub walk_stops : 0 < k → (x : X) → f (get_or l (k - 1) 0 ∷ tops l (k - 1)) ≡ x → f (tops l n) ≡ x
    walk_stops h x e = w.same ∙ ap f (tops_top l k (λ z. omega arith)) ∙ e

    -- it says what the boxes outside it do
    pub walk_on : 0 < k → f (get_or l (k - 1) 0 ∷ tops l (k - 1)) ≡ f (tops l (k - 1)) → Walk f l n (k - 1)
    walk_on h e = record { within = omega (arith, w.within); same = walk_stops h _ e }

    -- no box is left
    pub walk_ends : k ≤ 0 → f (tops l n) ≡ f []
    walk_ends h = w.same ∙ ap (λ (j : ℕ). f (tops l j)) (at_zero k h)
