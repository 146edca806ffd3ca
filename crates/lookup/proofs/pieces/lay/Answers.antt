-- A row that is full stays as it is. Assumes nothing.
use Rattle.lookup.proofs.Laying.{stays_full}
use Rattle.lookup.proofs.pieces.lay.Goals as goal

pub returns-else-n-things : goal.returns-else-n-things
returns-else-n-things c = stays_full c.args.things.now c.args.n c.args.w c.if-n-things.false
