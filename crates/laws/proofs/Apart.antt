-- Two constructors are never one: `apart cc` closes a case that would make them so. Assumes nothing.
use mathlib.Core.Path.{◌≡◌}
use native.Mathlib.Omega.{arith}
use Prim.Native.Nat.{ℕ}

pub apart : ◌≡◌ {A = ℕ} 0 1 → ⊥
apart z = omega arith
