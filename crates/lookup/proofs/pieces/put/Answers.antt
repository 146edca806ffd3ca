-- `put` writes into the row of names. Assumes nothing.
use Rattle.std.proofs.Common.{rules}
use Rattle.steps.proofs.Lookups.{stored}
use Rattle.lookup.proofs.pieces.put.Goals as goal

pub returns : goal.returns
returns c = rw (c.write_over.ensures, c.write_place-p.ensures) (stored c.args.vars.now (search rules) c.args.w)
