-- The table has at each place what eight shifts make of that byte. Assumes nothing.
use lib.ListN.{get_or}
use mathlib.Core.Path.{◌≡◌, ◌∙◌, ap, sym}
use native.Mathlib.Nat.{add-zero, zero-add, add-suc, suc-add, le_of_suc-le-suc, not-suc-le-zero}
use Prim.Native.Nat.{ℕ, zero, suc, ◌+◌, ◌*◌, ◌<◌}
use Rattle.crc.specs.Code.{entries}
use Rattle.crc.specs.Crc.{shifts}

eight : ℕ → ℕ
eight b = shifts 8 (b * 0x100)

from : (b n k : ℕ) → k < n → get_or (entries b n) k 0 ≡ eight (b + k)
unfolding entries eight
from b zero k h = absurd (not-suc-le-zero h)
from b (suc n) zero h = ap eight (sym (add-zero b))
from b (suc n) (suc k) h = from (suc b) n k (le_of_suc-le-suc h) ∙ ap eight (suc-add b k ∙ sym (add-suc b k))

pub at : (n k : ℕ) → k < n → get_or (entries 0 n) k 0 ≡ shifts 8 (k * 0x100)
unfolding eight
at n k h = from 0 n k h ∙ ap eight (zero-add k)
