-- `argument::comparison_said` looks for the word among the signs. Assumes nothing.
use Rattle.word.specs.Word.{padded}
use mathlib.Core.Path.{sym, ◌∙◌}
use Rattle.argument.specs.Argument.{signs, comparison_said}
use Rattle.argument.proofs.comparison_said.Goals as goal

pub returns-in-Some : goal.returns-in-Some
unfolding comparison_said signs padded
returns-in-Some c =
    simp (c.comparison_at.ensures, sym c.seek_word.ensures ∙ c.in-Some.is)

pub returns-in-None : goal.returns-in-None
unfolding comparison_said signs padded
returns-in-None c = simp (sym c.seek_word.ensures ∙ c.in-None.is)
