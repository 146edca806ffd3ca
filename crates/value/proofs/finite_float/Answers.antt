use Rattle.value.proofs.Floats.{by_difference}
use Rattle.value.proofs.finite_float.Goals as goal

pub returns : goal.returns
returns c = by_difference c.args.x
