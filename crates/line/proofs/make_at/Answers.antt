-- `line::make_at` has the tag for every row past the others. Assumes nothing.
use borrow.Author.Rules.{rules}
use Rattle.line.proofs.Rows.{last_make}
use Rattle.line.proofs.make_at.Goals as goal

pub returns-in_default : goal.returns-in_default
returns-in_default c = last_make c.args.k (search rules)
