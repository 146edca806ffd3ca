-- `value::compare_reals`, comparison by comparison. Assumes nothing.
use Rattle.value.specs.Arithmetic.{compare_reals}
use Rattle.value.proofs.compare_reals.Goals as goal

pub returns-in-Equal : goal.returns-in-Equal
unfolding compare_reals
returns-in-Equal c = simp c.in-Equal.is

pub returns-in-Unequal : goal.returns-in-Unequal
unfolding compare_reals
returns-in-Unequal c = simp c.in-Unequal.is

pub returns-in-Less : goal.returns-in-Less
unfolding compare_reals
returns-in-Less c = simp c.in-Less.is

pub returns-in-AtMost : goal.returns-in-AtMost
unfolding compare_reals
returns-in-AtMost c = simp c.in-AtMost.is

pub returns-in-Greater : goal.returns-in-Greater
unfolding compare_reals
returns-in-Greater c = simp c.in-Greater.is

pub returns-in-AtLeast : goal.returns-in-AtLeast
unfolding compare_reals
returns-in-AtLeast c = simp c.in-AtLeast.is
