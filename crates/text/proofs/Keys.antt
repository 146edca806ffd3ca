-- What the last arm of a match on a number is told: that it is none of the keys before. Assumes nothing.
use mathlib.Core.List.{List, [], ◌∷◌, ◌++◌}
use mathlib.Core.Path.{◌≡◌}
use Prim.Native.Nat.{ℕ}

-- c is none of the keys
pub data Apart (c : ℕ) : List ℕ → Type 0 where
  none : Apart c []
  also : {k : ℕ} {ks : List ℕ} → (c ≡ k → ⊥) → Apart c ks → Apart c (k ∷ ks)

-- as it is told: t, and then of each key in the order of the arms
abbrev pub Told : ℕ → List ℕ → Type 0 → Type 0
Told c [] t = t
Told c (k ∷ ks) t = Told c ks (t × (c ≡ k → ⊥))

before : (c : ℕ) (ks : List ℕ) (t : Type 0) → Told c ks t → t
before c [] t h = h
before c (k ∷ ks) t h = (before c ks (t × (c ≡ k → ⊥)) h).0

pub apart : (c : ℕ) (ks : List ℕ) (t : Type 0) → Told c ks t → Apart c ks
apart c [] t h = none
apart c (k ∷ ks) t h = also (before c ks (t × (c ≡ k → ⊥)) h).1 (apart c ks (t × (c ≡ k → ⊥)) h)

-- of two runs of keys
pub both : {c : ℕ} {ks ls : List ℕ} → Apart c ks → Apart c ls → Apart c (ks ++ ls)
both none b = b
both (also n a) b = also n (both a b)

pub front : {c : ℕ} (ks ls : List ℕ) → Apart c (ks ++ ls) → Apart c ks
front [] ls a = none
front (k ∷ ks) ls (also n a) = also n (front ks ls a)

pub back : {c : ℕ} (ks ls : List ℕ) → Apart c (ks ++ ls) → Apart c ls
back [] ls a = a
back (k ∷ ks) ls (also n a) = back ks ls a
