-- What only the code's shape needs: one walk over the parts, whatever is kept of them. Assumes nothing.
use Rattle.std.specs.Prelude.{Result, Ok, Err, List, [], ◌∷◌, ℕ, ◌+◌, length}
use Rattle.package.specs.declared.Part.{Part}
use Rattle.package.specs.declared.Refusal.{Refusal}
use Rattle.package.specs.Package.{number_of, Reading, parts, refused}

-- what a walk comes to: how many parts, and what was kept of them; or a refusal's number and part
pub data Walk (K : Type 0) : Type 0 where
  walked : ℕ → K → Walk K
  stopped : ℕ → ℕ → Walk K

module _ {K : Type 0} where
  unfoldable pub walk_meaning : Result (ℕ × K) (Refusal × ℕ) → Walk K
  unfolding number_of
  walk_meaning (Ok (n, x)) = walked n x
  walk_meaning (Err (why, k)) = stopped (number_of why) k

  module _ (keep : K → ℕ → Part → K) where
    -- with the parts kept one after the other, from place k on
    unfoldable pub kept_from : ℕ → K → List Part → K
    kept_from k x [] = x
    kept_from k x (p ∷ ps) = kept_from (k + 1) (keep x k p) ps

    -- with k parts kept already
    unfoldable pub walk_from : ℕ → K → Reading → Walk K
    unfolding kept_from
    walk_from k x (parts ps) = walked (k + length ps) (kept_from k x ps)
    walk_from k x (refused n j) = stopped n j
