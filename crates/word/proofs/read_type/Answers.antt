-- `word::read_type`: two bytes, both of them small letters. Assumes nothing.
use borrow.Author.Tests.{eq-eqb}
use mathlib.Core.Path.{sym, ◌∙◌}
use Rattle.word.specs.Word.{read_type}
use Rattle.word.proofs.read_type.Goals as goal

pub returns-then-is_lower-2 : goal.returns-then-is_lower-2
unfolding read_type
returns-then-is_lower-2 c =
    simp (
      eq-eqb _ _ c.if-word-eq2.true,
      sym c.is_lower.ensures ∙ c.if-is_lower.true,
      sym c.is_lower-then-is_lower.ensures ∙ c.if-is_lower-2.true,
    )
