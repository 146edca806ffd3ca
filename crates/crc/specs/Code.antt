-- What only the code's shape needs: what its table holds, for each byte what eight shifts make of it on top of an empty
-- register. Assumes nothing.
use Rattle.std.specs.Prelude.{List, [], ◌∷◌, ℕ, zero, suc, ◌*◌}
use Rattle.crc.specs.Crc.{shifts}

-- n of them, from the byte b on
unfoldable pub entries : ℕ → ℕ → List ℕ
entries b zero = []
entries b (suc n) = shifts 8 (b * 0x100) ∷ entries (suc b) n
