-- `value::is_finite`: a whole number is, a float may be. Assumes nothing.
use Rattle.value.specs.Arithmetic.{finite}
use Rattle.value.proofs.is_finite.Goals as goal

pub returns-in-Whole : goal.returns-in-Whole
unfolding finite
returns-in-Whole c = simp c.in-Whole.is

pub returns-in-Real : goal.returns-in-Real
unfolding finite
returns-in-Real c = simp (c.finite_float.ensures, c.in-Real.is)
