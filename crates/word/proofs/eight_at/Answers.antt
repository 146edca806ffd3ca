-- `word::eight_at` gathers eight bytes of a row, the last one first. Assumes nothing.
use borrow.Author.Rules.{rules}
use Rattle.word.proofs.Keyed.{none_yet, gathered_one, gathered}
use Rattle.word.proofs.eight_at.Goals as goal

pub loop-i-init : goal.loop-i-init
loop-i-init c = none_yet (search rules)

pub loop-i-preserved : goal.loop-i-preserved
loop-i-preserved c = gathered_one c.loop-i.invariant c.requires c.loop-i-test.true c.push-eight.ensures

pub returns : goal.returns
returns c = gathered c.loop-i.invariant c.loop-i-test.false
