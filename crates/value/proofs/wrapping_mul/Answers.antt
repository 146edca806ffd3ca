-- `value::wrapping_mul`: the low 32 bits of the exact product. Assumes nothing.
use Rattle.std.proofs.Common.{◌%◌, ℕ, ap, ◌∙◌, w32, to_z, to_z-of_z}
use Rattle.value.proofs.Wrap.{back32, product_is}
use Rattle.value.proofs.wrapping_mul.Goals as goal

pub returns : goal.returns
returns c =
    back32 _ c.cast_signed.type_inv ∙ c.cast_signed.ensures
    ∙ ap (λ (n : ℕ). to_z w32 (n % 4294967296)) c.cast_unsigned.ensures
    ∙ product_is _ _ c.ranges.a c.ranges.b _ _ (c.from.ensures ∙ to_z-of_z c.ranges.a)
    (c.from-2.ensures ∙ to_z-of_z c.ranges.b)
