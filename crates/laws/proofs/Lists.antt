-- Laws of lists that several crates cite and the kit's libraries do not have. Assumes nothing.
use mathlib.Core.List.{List, [], ◌∷◌}
use mathlib.Core.Path.{◌≡◌}
use Prim.Native.Nat.{ℕ, zero, suc}
use lib.ListN.{get_or, drop}

module _ {A : Type 0} where
  -- what is left at a place, by its first element: that element, and what is left behind it
  pub drop-get_or : (i : ℕ) (l : List A) (d x : A) (xs : List A) → drop i l ≡ x ∷ xs → get_or l i d ≡ x
  drop-get_or zero [] d x xs e = cc
  drop-get_or zero (y ∷ l) d x xs e = cc
  drop-get_or (suc i) [] d x xs e = cc
  drop-get_or (suc i) (y ∷ l) d x xs e = drop-get_or i l d x xs e

  pub drop-step : (i : ℕ) (l : List A) (x : A) (xs : List A) → drop i l ≡ x ∷ xs → drop (suc i) l ≡ xs
  drop-step zero [] x xs e = cc
  drop-step zero (y ∷ l) x xs e = cc
  drop-step (suc i) [] x xs e = cc
  drop-step (suc i) (y ∷ l) x xs e = drop-step i l x xs e
