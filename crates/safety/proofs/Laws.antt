-- Small laws that the proofs share.
use Prim.Native.Nat.{ℕ, zero, suc}
use mathlib.Core.Path.{◌≡◌, refl, sym, ap, ◌∙◌}
use mathlib.Core.Logic.{◌⊎◌, inl, inr}
use mathlib.Core.Bool.{Bool, true, false, cond}
use mathlib.Core.List.{List, [], ◌∷◌}
use native.Mathlib.Omega.{arith}
use lib.ListN.{get_or, set, replicate}
pub use Rattle.laws.proofs.Bools.{no, no', or_l, or_r, or_f, and_l, and_r, and_t}
use Rattle.table.specs.ReadWrite.{Names, has}
use Rattle.sets.specs.Names.{nothing, both}

-- the first of a row of tests says false, and so do the others
pub skip : (n : ℕ) (b : Bool) (r : ℕ) → cond b (suc n) r ≡ 0 → (b ≡ false) × (r ≡ 0)
skip n true r e = absurd (suc≢0 e)
  where
    suc≢0 : {m : ℕ} → suc m ≡ 0 → ⊥
    suc≢0 p = omega arith
skip n false r e = (refl, e)

module _ {A : Type 0} where
  -- what is read at n after v was set at i: v, or what was there
  abbrev pub AfterSet : List A → ℕ → A → ℕ → A → Type 0
  AfterSet l i v n d = ((n ≡ i) × (get_or (set l i v) n d ≡ v)) ⊎ (get_or (set l i v) n d ≡ get_or l n d)

  pub get_d_set : (l : List A) (i : ℕ) (v : A) (n : ℕ) (d : A) → AfterSet l i v n d
  get_d_set [] i v n d = inr refl
  get_d_set (x ∷ xs) zero v zero d = inl (refl, refl)
  get_d_set (x ∷ xs) zero v (suc n) d = inr refl
  get_d_set (x ∷ xs) (suc i) v zero d = inr refl
  get_d_set (x ∷ xs) (suc i) v (suc n) d = go (get_d_set xs i v n d)
    where
      go : AfterSet xs i v n d → AfterSet (x ∷ xs) (suc i) v (suc n) d
      go (inl p) = inl (ap suc p.0, p.1)
      go (inr p) = inr p

  pub get_or-rep : (m n : ℕ) (a : A) → get_or (replicate m a) n a ≡ a
  get_or-rep zero n a = refl
  get_or-rep (suc m) zero a = refl
  get_or-rep (suc m) (suc n) a = get_or-rep m n a

-- ---- sets
abbrev pub Sub : Names → Names → Type 0
Sub s t = (n : ℕ) → has s n ≡ true → has t n ≡ true

pub both_l : (s t : Names) → Sub (both s t) s
both_l [] t n e = e
both_l (a ∷ s) [] n e = no' e
both_l (a ∷ s) (b ∷ t) zero e = and_l a b e
both_l (a ∷ s) (b ∷ t) (suc n) e = both_l s t n e

pub both_r : (s t : Names) → Sub (both s t) t
both_r [] t n e = no' e
both_r (a ∷ s) [] n e = no' e
both_r (a ∷ s) (b ∷ t) zero e = and_r a b e
both_r (a ∷ s) (b ∷ t) (suc n) e = both_r s t n e

pub not_nothing : {X : Type 0} (n : ℕ) → has nothing n ≡ true → X
not_nothing n e = no (sym e ∙ get_or-rep 32 n false)
