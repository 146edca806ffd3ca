-- No second answer fits: two answers that both keep the contract of `crc16` are equal. Assumes nothing.
use mathlib.Core.List.{List}
use mathlib.Core.Path.{◌≡◌, sym, ◌∙◌}
use Prim.Native.Nat.{ℕ}
use Rattle.crc.specs.Crc.{crc}

pub only_crc16 : (s : List ℕ) (x y : ℕ) → x ≡ crc s → y ≡ crc s → x ≡ y
only_crc16 s x y h k = h ∙ sym k
