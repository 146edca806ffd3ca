-- A whole number's size, by the number of its word. Assumes nothing.
use Prim.Native.Nat.{◌-◌, ◌^◌, ◌<◌}
use mathlib.Core.Path.{◌≡◌, sym}
use mathlib.Core.Bool.{true, false}
use native.Mathlib.Omega.{arith}
use lib.IntN.{ℤ, pos, negsuc, nat_abs}
use lib.Signed.{lt_z}
use mir.Syntax.{w32}
use mir.Val.{SFits}
use borrow.Author.Tests.{ltb-true}
use Rattle.value.specs.Arithmetic.{rest}
use Rattle.value.proofs.Wrap.{unturned}

pub size_below : (z : ℤ) → SFits w32 z → lt_z z (pos 0) ≡ true → 4294967296 - rest z 4294967296 ≡ nat_abs z
unfolding rest
size_below (pos n) f e = let h : n < 0 = ltb-true n 0 e in absurd (omega arith)
size_below (negsuc n) f e =
    let m : n < 2 ^ 31 = f.sfits in
    omega arith

pub size_above : (z : ℤ) → SFits w32 z → lt_z z (pos 0) ≡ false → rest z 4294967296 ≡ nat_abs z
size_above z f e = sym (unturned z f e).1
