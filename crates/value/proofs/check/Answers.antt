-- `value::check`: what is finite is a value. Assumes nothing.
use Rattle.std.proofs.Common.{sym, ◌∙◌}
use Rattle.value.specs.Arithmetic.{checked}
use Rattle.value.proofs.check.Goals as goal

pub returns-then-finite_float : goal.returns-then-finite_float
unfolding checked
returns-then-finite_float c = simp (sym c.finite_float.ensures ∙ c.if-finite_float.true)

pub returns : goal.returns
unfolding checked
returns c = simp (sym c.finite_float.ensures ∙ c.if-finite_float.false)
