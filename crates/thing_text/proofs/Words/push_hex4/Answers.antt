-- `thing_text::Words::push_hex4`: the four digits that the text's writer gives. Assumes nothing.
use mathlib.Core.Path.{◌∙◌}
use Rattle.thing_text.proofs.Bytes.{four_put}
use Rattle.thing_text.proofs.Words.push_hex4.Goals as goal

pub returns-clause-bytes : goal.returns-clause-bytes
returns-clause-bytes c = rw (c.put_hex4.ensures ∙ four_put c.args.n) at c.push_all.ensures.bytes
