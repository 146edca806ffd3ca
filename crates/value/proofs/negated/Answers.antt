-- `value::negated`: -1 less one less than the number. Assumes nothing.
use Rattle.std.proofs.Common.{◌∙◌, to_z-of_z}
use Rattle.value.proofs.Literals.{negative, negative_fits, zero_negative}
use Rattle.value.proofs.negated.Goals as goal

pub returns-then-v-eq0 : goal.returns-then-v-eq0
returns-then-v-eq0 c = zero_negative _ c.if-v-eq0.true

pub overflow_sub-result : goal.overflow_sub-result
overflow_sub-result c = negative_fits c.args.v c.if-v-eq0.false c.requires

pub returns : goal.returns
returns c = to_z-of_z (overflow_sub-result c) ∙ negative c.args.v c.if-v-eq0.false c.requires
