-- `value::calculate_reals`, operation by operation. Assumes nothing.
use Rattle.std.proofs.Common.{sym, ◌∙◌}
use Rattle.value.specs.Arithmetic.{reals}
use Rattle.value.proofs.calculate_reals.Goals as goal

pub returns-then-is_zero : goal.returns-then-is_zero
unfolding reals
returns-then-is_zero c = simp (sym c.is_zero.ensures ∙ c.if-is_zero.true, c.in-Div.is)

pub returns-in-Add : goal.returns-in-Add
unfolding reals
returns-in-Add c = simp (c.check.ensures, c.in-Add.is)

pub returns-in-Sub : goal.returns-in-Sub
unfolding reals
returns-in-Sub c = simp (c.check-in-Sub.ensures, c.in-Sub.is)

pub returns-in-Mul : goal.returns-in-Mul
unfolding reals
returns-in-Mul c = simp (c.check-in-Mul.ensures, c.in-Mul.is)

pub returns-else-is_zero : goal.returns-else-is_zero
unfolding reals
returns-else-is_zero c =
    simp (c.check-in-Div.ensures, sym c.is_zero.ensures ∙ c.if-is_zero.false, c.in-Div.is)
