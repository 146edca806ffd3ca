-- `word::pad` lays the word over spaces. Assumes nothing.
use Rattle.word.proofs.Rows.{laid}
use Rattle.word.proofs.pad.Goals as goal

pub returns : goal.returns
returns c = laid _ _ _ c.min-n.ensures c.copy_from_slice.ensures.after
