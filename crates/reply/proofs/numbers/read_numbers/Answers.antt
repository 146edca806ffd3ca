-- `read_numbers`: a reply read into numbers. Assumes nothing.
use Rattle.reply.proofs.Listed.{read_listed}
use Rattle.reply.proofs.numbers.read_numbers.Goals as goal

pub returns : goal.returns
returns c = read_listed _ _ c.read_into.ensures
