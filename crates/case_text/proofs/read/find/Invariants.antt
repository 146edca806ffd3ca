use Rattle.std.proofs.Common.{◌≡◌, ◌-◌, drop, length}
use Rattle.case_text.proofs.read.find.Given as goal

-- What is left is an end of the case.
abbrev pub invariant-loop : goal.invariant-loop
invariant-loop l = l.rest ≡ drop (length l.case - length l.rest) l.case
