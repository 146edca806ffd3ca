-- `frame::has_newline`: as the library tells it. Assumes nothing.
use Rattle.std.proofs.Common.{◌∙◌}
use Rattle.frame.proofs.Newline.{is_any}
use Rattle.frame.proofs.has_newline.Goals as goal

pub returns : goal.returns
returns c = c.contains.ensures.value ∙ is_any _ _
