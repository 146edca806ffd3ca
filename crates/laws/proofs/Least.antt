-- The lesser of two numbers. Assumes nothing.
use Prim.Native.Nat.{ℕ, ◌≤◌, ◌<◌, min}
use mathlib.Core.Bool.{Bool, true, false, cond}
use mathlib.Core.List.{List}
use mathlib.Core.Path.{◌≡◌, refl, sym}
use native.Mathlib.Omega.{arith}
use lib.Dec.{leb}
use lib.ListN.{take, length-take}
use lib.Seq.{take_all, take-take}
use borrow.Author.Tests.{leb-true, leb-false}
use Rattle.laws.specs.Least.{least}

-- the library's
pub least_min : (n k : ℕ) → min n k ≡ least n k
least_min n k = go (leb n k) refl
  where
    go : (b : Bool) → leb n k ≡ b → min n k ≡ cond b n k
    go true e = omega (arith, leb-true n k e)
    go false e = omega (arith, leb-false n k e)

pub least_most : (n k : ℕ) → least n k ≤ k
least_most n k = go (leb n k) refl
  where
    go : (b : Bool) → leb n k ≡ b → cond b n k ≤ k
    go true e = leb-true n k e
    go false e = omega arith

pub least_below : (j n k : ℕ) → j < least n k → (j < n) × (j < k)
least_below j n k h = go (leb n k) refl
  where
    go : (b : Bool) → leb n k ≡ b → (j < n) × (j < k)
    go true e =
        let z : j < n = rw e at h in
        (z, omega (arith, leb-true n k e))
    go false e =
        let z : j < k = rw e at h in
        (omega (arith, leb-false n k e), z)

pub least_takes : {A : Type 0} (n k : ℕ) (l : List A) → take (least n k) l ≡ take n (take k l)
least_takes {A} n k l = go (leb n k) refl
  where
    go : (b : Bool) → leb n k ≡ b → take (cond b n k) l ≡ take n (take k l)
    go true e = sym (take-take n k l (leb-true n k e))
    go false e = sym (take_all n (take k l) (omega (arith, length-take k l, leb-false n k e)))
