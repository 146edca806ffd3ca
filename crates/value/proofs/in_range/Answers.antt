-- `value::in_range`: a negative number may be one further from zero. Assumes nothing.
use Rattle.std.proofs.Common.{refl}
use Rattle.value.proofs.Literals.{negative_in_range}
use Rattle.value.proofs.in_range.Goals as goal

pub returns-then-neg : goal.returns-then-neg
returns-then-neg c = rw c.if-neg.true (negative_in_range c.args.v)

pub returns-else-neg : goal.returns-else-neg
returns-else-neg c = rw c.if-neg.false refl
