-- `line::shape_at` asks for nothing in the last rows. Assumes nothing.
use borrow.Author.Rules.{rules}
use Rattle.line.proofs.Rows.{last_shape}
use Rattle.line.proofs.shape_at.Goals as goal

pub returns-in_default : goal.returns-in_default
returns-in_default c = last_shape c.args.k (search rules)
