use mathlib.Core.Path.{sym}
use borrow.Author.Tests.{lt-leb, le-leb}
use Rattle.word.specs.Word.{seek}
use Rattle.word.proofs.seek_word.Goals as goal

pub returns-then-word-le-WIDTH : goal.returns-then-word-le-WIDTH
unfolding seek
returns-then-word-le-WIDTH c =
    let found = c.find.ensures.first _ c.word_key.ensures in
    simp (le-leb _ _ c.if-word-le-WIDTH.true, sym found)

pub returns-else-word-le-WIDTH : goal.returns-else-word-le-WIDTH
unfolding seek
returns-else-word-le-WIDTH c = simp (lt-leb _ _ c.if-word-le-WIDTH.false)
