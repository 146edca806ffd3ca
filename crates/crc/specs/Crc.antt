-- 01, Frames: "CRC-16 with polynomial 1021 hex, start FFFF, most significant bit first, no final change". Assumes
-- nothing.
use Rattle.std.specs.Int.Bits.{bit_xor}
use Rattle.std.specs.Prelude.{leb, cond, List, [], ◌∷◌, ℕ, zero, suc, ◌*◌, ◌%◌}

-- the register of 16 bits, one bit to the left
abbrev pub moved : ℕ → ℕ
moved r = r * 2 % 0x10000

-- one bit: where it falls out, the polynomial goes in
unfoldable pub shift : ℕ → ℕ
shift r = cond (leb 0x8000 r) (bit_xor 0x1021 (moved r)) (moved r)

unfoldable pub shifts : ℕ → ℕ → ℕ
shifts zero r = r
shifts (suc n) r = shifts n (shift r)

-- a byte goes on top of the register, and then bit after bit falls out
unfoldable pub step : ℕ → ℕ → ℕ
step r b = shifts 8 (bit_xor (b * 0x100) r)

unfoldable pub crc_from : ℕ → List ℕ → ℕ
crc_from r [] = r
crc_from r (b ∷ bs) = crc_from (step r b) bs

unfoldable pub crc : List ℕ → ℕ
crc bs = crc_from 0xFFFF bs
