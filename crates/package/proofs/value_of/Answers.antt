-- `package::value_of`: less 8000000 hex, in 32 signed bits. Assumes nothing.
use Rattle.package.proofs.Amounts.{value_fits, is_value}
use Rattle.package.proofs.value_of.Goals as goal

pub overflow_sub-result : goal.overflow_sub-result
overflow_sub-result c = value_fits c.args.v c.requires

pub returns : goal.returns
returns c = is_value c.args.v c.requires
