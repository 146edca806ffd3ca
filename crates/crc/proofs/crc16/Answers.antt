-- `crc::crc16` goes through the bytes in order. Assumes nothing.
use borrow.Author.Rules.{rules}
use mathlib.Core.Path.{refl}
use Rattle.crc.proofs.Run.{again, end}
use Rattle.crc.specs.Crc.{crc, crc_from}
use Rattle.crc.proofs.crc16.Goals as goal

pub loop-b-init : goal.loop-b-init
unfolding crc_from crc
loop-b-init c = record { within = search rules; same = refl }

pub loop-b-preserved : goal.loop-b-preserved
loop-b-preserved c = again c.loop-b.invariant c.loop-b-test.true c.take_byte-r.ensures

pub returns : goal.returns
returns c = end c.loop-b.invariant c.loop-b-test.false
