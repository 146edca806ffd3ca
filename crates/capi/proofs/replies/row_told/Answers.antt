use Rattle.capi.specs.Replies.{row_fields}
use Rattle.capi.proofs.replies.row_told.Goals as goal

pub returns : goal.returns
unfolding row_fields
returns c = rw c.from.ensures
