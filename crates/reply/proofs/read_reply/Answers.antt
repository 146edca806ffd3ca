-- `read_reply`: a reply read into rows. Assumes nothing.
use Rattle.reply.proofs.Over.{read_rows}
use Rattle.reply.proofs.read_reply.Goals as goal

pub returns : goal.returns
returns c = read_rows _ _ c.read_into.ensures
