-- `value::calculate_wholes`, operation by operation. Assumes nothing.
use Rattle.std.proofs.Common.{ap, ap₂, ◌∙◌, ℤ, ◌*ℤ◌, w32, to_z-of_z}
use Rattle.value.proofs.Wrap.{back32, sum_is, difference_is, whole}
use Rattle.value.specs.Arithmetic.{wholes, wrap}
use Rattle.value.proofs.calculate_wholes.Goals as goal

pub returns-in-Add : goal.returns-in-Add
returns-in-Add c = rw c.in-Add.is (sum_is _ _ c.ranges.a c.ranges.b)

pub returns-in-Sub : goal.returns-in-Sub
returns-in-Sub c = rw c.in-Sub.is (difference_is _ _ c.ranges.a c.ranges.b)

pub returns-in-Mul : goal.returns-in-Mul
unfolding wholes
returns-in-Mul c =
    rw c.in-Mul.is
    (ap whole (back32 _ c.wrapping_mul.type_inv ∙ c.wrapping_mul.ensures)
    ∙ ap₂ (λ (x y : ℤ). whole (wrap (x *ℤ y))) (to_z-of_z c.ranges.a) (to_z-of_z c.ranges.b))
