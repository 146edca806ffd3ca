-- `line::say_next` knows a line that is over before it looks for a word. Assumes nothing.
use mathlib.Core.Path.{sym, ◌∙◌}
use Rattle.line.proofs.All.{says_nothing}
use Rattle.line.proofs.say_next.Goals as goal

pub returns-then-is_over : goal.returns-then-is_over
returns-then-is_over c = says_nothing _ _ _ _ (sym c.is_over.ensures ∙ c.if-is_over.true)

pub returns : goal.returns
returns c = rw c.form_of.ensures at c.say_at.ensures.says
