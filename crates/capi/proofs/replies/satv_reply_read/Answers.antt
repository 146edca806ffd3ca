use mathlib.Core.Path.{◌∙◌, ap}
use Rattle.capi.specs.Replies.{reply_numbers}
use Rattle.capi.proofs.replies.satv_reply_read.Goals as goal

pub returns : goal.returns
returns c = c.told.ensures ∙ ap reply_numbers c.judge_reply.ensures
