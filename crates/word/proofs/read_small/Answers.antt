-- `word::read_small`: all bytes are digits, and their number is small. Assumes nothing.
use Rattle.word.proofs.Numbers.{none, other_bytes, as_small}
use mathlib.Core.Path.{◌∙◌}
use Rattle.word.proofs.read_small.Goals as goal
use Rattle.word.proofs.read_small.Goals.{then-word-eq0-via-then-word-eq0}
use Rattle.word.proofs.read_small.Goals.{then-word-eq0-via-else-word-eq0+then-read-word}

pub returns-then-word-eq0 : goal.returns-then-word-eq0
returns-then-word-eq0 c =
    elim c.then-word-eq0.branch [
      | then-word-eq0-via-then-word-eq0 w ↦ none _ w.if-word-eq0.true
      | then-word-eq0-via-else-word-eq0+then-read-word w ↦
          other_bytes _ w.if-word-eq0.false c.decimal_at-read.ensures w.if-read-word.true
    ]

pub returns : goal.returns
returns c =
    c.ok.ensures.value
    ∙ as_small _ c.if-word-eq0.false c.decimal_at-read.ensures c.if-read-word.false c.try_from.result c.try_from.ensures
