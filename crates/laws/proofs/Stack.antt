-- Laws of a stack as an array and a depth. Assumes nothing.
use mathlib.Core.List.{List, [], ◌∷◌}
use mathlib.Core.Path.{◌≡◌, refl, ap, ◌∙◌}
use native.Mathlib.Numerals.{add-one}
use native.Mathlib.Omega.{arith}
use Prim.Native.Nat.{ℕ, zero, suc, ◌+◌, ◌-◌, ◌≤◌, ◌<◌}
use lib.ListN.{length, get_or, set}
use lib.Seq.{get_or-set_same, get_or-set_other, sets}
use Rattle.laws.specs.Stack.{stack}

module _ {A : Type 0} (none : A) where
  -- as deep as the depth
  pub stack-length : (l : List A) (n : ℕ) → length (stack none l n) ≡ n
  stack-length l zero = refl
  stack-length l (suc n) = ap suc (stack-length l n)

  -- what is laid past the depth is not on the stack: one element, or a row of them
  pub stack_set : (l : List A) (i : ℕ) (x : A) (n : ℕ) → n ≤ i → stack none (set l i x) n ≡ stack none l n
  stack_set l i x zero h = refl
  stack_set l i x (suc n) h = rw (get_or-set_other l i n x none (λ e. omega arith), stack_set l i x n (omega arith))

  pub stack_sets : (l : List A) (i : ℕ) (xs : List A) (n : ℕ) → n ≤ i → stack none (sets l i xs) n ≡ stack none l n
  stack_sets l i [] n h = refl
  stack_sets l i (x ∷ xs) n h = stack_sets (set l i x) (suc i) xs n (omega arith) ∙ stack_set l i x n h

  -- an element laid at the depth is pushed
  pub pushed : (l : List A) (n : ℕ) (x : A) → n < length l → stack none (set l n x) (n + 1) ≡ x ∷ stack none l n
  pushed l n x h = rw (add-one, get_or-set_same l n x none h, stack_set l n x n (omega arith))

  -- the innermost, and what it stands in
  pub topmost : (l : List A) (n : ℕ) → (n ≡ 0 → ⊥) → stack none l n ≡ get_or l (n - 1) none ∷ stack none l (n - 1)
  topmost l zero h = absurd (h refl)
  topmost l (suc n) h =
      let e : suc n - 1 ≡ n = omega arith in
      rw e

  -- the innermost anew
  pub renewed : (l : List A) (n : ℕ) (x : A) → (n ≡ 0 → ⊥) → n ≤ length l
      → stack none (set l (n - 1) x) n ≡ x ∷ stack none l (n - 1)
  renewed l zero x h k = absurd (h refl)
  renewed l (suc n) x h k =
      let e : suc n - 1 ≡ n = omega arith in
      ap (λ (k : ℕ). stack none (set l k x) (suc n)) e
      ∙ rw (get_or-set_same l n x none k, stack_set l n x n (omega arith), e)
