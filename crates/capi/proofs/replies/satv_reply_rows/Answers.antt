use mathlib.Core.Path.{◌∙◌, ap}
use Rattle.capi.specs.Replies.{reply_numbers}
use Rattle.capi.proofs.replies.satv_reply_rows.Goals as goal

pub returns : goal.returns
returns c =
    record {
      result = c.told.ensures ∙ ap reply_numbers c.read_numbers.ensures.says;
      numbers = c.read_numbers.ensures.numbers;
    }
