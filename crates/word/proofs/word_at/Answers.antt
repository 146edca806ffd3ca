use mathlib.Core.Path.{refl}
use Rattle.word.specs.Word.{word_at}
use Rattle.word.proofs.word_at.Goals as goal

pub returns : goal.returns
unfolding word_at
returns c = rw (c.run_from-end.ensures, c.run_from-start.ensures) refl
