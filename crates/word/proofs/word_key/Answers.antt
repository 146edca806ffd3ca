use Rattle.word.proofs.Keyed.{key_of_word}
use Rattle.word.proofs.word_key.Goals as goal

pub returns : goal.returns
returns c = key_of_word _ _ c.requires c.eight_from.ensures c.eight_from-2.ensures
