-- `argument::comparison_at` has the last sign for every row past the others. Assumes nothing.
use borrow.Author.Rules.{rules}
use Rattle.argument.proofs.Signs.{last_comparison}
use Rattle.argument.proofs.comparison_at.Goals as goal

pub returns-in_default : goal.returns-in_default
returns-in_default c = last_comparison c.args.i (search rules)
