-- `value::compare_wholes`, comparison by comparison. Assumes nothing.
use Rattle.std.proofs.Common.{to_z-of_z}
use Rattle.value.proofs.Wrap.{same_words}
use Rattle.value.specs.Arithmetic.{compare_wholes}
use Rattle.value.proofs.compare_wholes.Goals as goal

pub returns-in-Equal : goal.returns-in-Equal
unfolding compare_wholes
returns-in-Equal c = simp (c.in-Equal.is, same_words _ _ c.ranges.a c.ranges.b)

pub returns-in-Unequal : goal.returns-in-Unequal
unfolding compare_wholes
returns-in-Unequal c = simp (c.in-Unequal.is, same_words _ _ c.ranges.a c.ranges.b)

pub returns-in-Less : goal.returns-in-Less
unfolding compare_wholes
returns-in-Less c = simp (c.in-Less.is, to_z-of_z c.ranges.a, to_z-of_z c.ranges.b)

pub returns-in-AtMost : goal.returns-in-AtMost
unfolding compare_wholes
returns-in-AtMost c = simp (c.in-AtMost.is, to_z-of_z c.ranges.a, to_z-of_z c.ranges.b)

pub returns-in-Greater : goal.returns-in-Greater
unfolding compare_wholes
returns-in-Greater c = simp (c.in-Greater.is, to_z-of_z c.ranges.a, to_z-of_z c.ranges.b)

pub returns-in-AtLeast : goal.returns-in-AtLeast
unfolding compare_wholes
returns-in-AtLeast c = simp (c.in-AtLeast.is, to_z-of_z c.ranges.a, to_z-of_z c.ranges.b)
