-- `crc::take_byte`: the table's entry, over what moves up. Assumes nothing.
use borrow.Author.Rules.{rules}
use lib.Bits.{bit_xor, xor_lt}
use lib.ListN.{get_or}
use mathlib.Core.List.{List}
use mathlib.Core.Path.{◌≡◌, ◌∙◌, ap, ap₂, refl, sym}
use native.Mathlib.Omega.{arith}
use Prim.Native.Nat.{ℕ, ◌*◌, ◌/◌, ◌%◌, ◌^◌, ◌<◌}
use Rattle.crc.proofs.Linear.{by_table}
use Rattle.crc.proofs.Table.{at}
use Rattle.crc.specs.Code.{entries}
use Rattle.crc.specs.declared.TheConstants.{TABLE}
use Rattle.crc.specs.Crc.{shift, shifts, step}
use Rattle.crc.proofs.take_byte.Goals as goal

-- ---- the register r and the byte b
module _ (r b : ℕ) (h : r < 2 ^ 16) (k : b < 2 ^ 8) where
  -- the entry's place
  abbrev place : ℕ
  place = bit_xor b (r / 2 ^ 8)

  place_lt : place < 2 ^ 8
  place_lt = xor_lt 8 b (r / 2 ^ 8) k (omega arith)

  moved : r * 2 ^ 8 % 2 ^ 16 ≡ r % 0x100 * 0x100
  moved = omega arith

  stepped : (table : List ℕ) → table ≡ entries 0 256 → bit_xor (r * 2 ^ 8 % 2 ^ 16) (get_or table place 0) ≡ step r b
  stepped table e =
      ap₂ bit_xor moved (ap (λ (t : List ℕ). get_or t place 0) e ∙ at 256 place place_lt) ∙ sym (by_table r b h)

laid : TABLE ≡ entries 0 256
unfolding entries shifts shift
laid = refl

pub returns : goal.returns
returns c = stepped c.args.r c.args.b (search rules) (search rules) _ laid
