-- `crc::crc16` goes through the bytes in order. Assumes nothing.
use Rattle.crc.proofs.Run.{Running}
use Rattle.crc.proofs.crc16.Given as goal

abbrev pub invariant-loop-b : goal.invariant-loop-b
invariant-loop-b l = Running l.s l.r l.b-index
