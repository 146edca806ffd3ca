-- `word::eight_from` puts the bytes of a word in front of spaces, the last one first. Assumes nothing.
use Rattle.word.proofs.Keyed.{no_more, filled_one, filled_all}
use Rattle.word.proofs.eight_from.Goals as goal

pub loop-i-init : goal.loop-i-init
loop-i-init c = no_more _ _

pub loop-i-preserved : goal.loop-i-preserved
loop-i-preserved c = filled_one c.loop-i.invariant c.loop-i-test.true c.push-eight.ensures

pub returns : goal.returns
returns c = filled_all c.loop-i.invariant c.loop-i-test.false
