-- `value::is_zero`: a float that is equal to zero is zero. Assumes nothing.
use Rattle.value.proofs.Floats.{by_zero}
use Rattle.value.proofs.is_zero.Goals as goal

pub returns : goal.returns
returns c = by_zero c.args.x
