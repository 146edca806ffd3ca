-- `text::decimal_of` lays the digits from the last to the first. Assumes nothing.
use Rattle.text.proofs.Decimals.{laid_first, laid_more}
use Rattle.text.proofs.decimal_of.Goals as goal

pub loop-rest-init : goal.loop-rest-init
loop-rest-init c = laid_first c.args.n c.ranges.n.fits

pub loop-rest-preserved : goal.loop-rest-preserved
loop-rest-preserved c = laid_more c.loop-rest.invariant c.loop-rest-test.true c.last_digit.ensures
