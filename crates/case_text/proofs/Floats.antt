-- Which patterns are no NaN's. Assumes nothing.
use borrow.Author.Tests.{le-ltb}
use lib.Dec.{T}
use lib.Ieee.Bits.{nan_bits_above}
use lib.Ieee.{binary64, nan_bits}
use mathlib.Core.Bool.{Bool, not}
use mathlib.Core.Path.{sym, ◌∙◌, subst}
use Prim.Native.Nat.{ℕ, ◌%◌, ◌≤◌}

pub no_pattern : (n : ℕ) → n % 9223372036854775808 ≤ 9218868437227405312 → T (not (nan_bits binary64 n))
no_pattern n h =
    subst (λ (b : Bool). T (not b))
    (sym (nan_bits_above binary64 n ∙ le-ltb 9218868437227405312 (n % 9223372036854775808) h)) tt
