-- `text::hex_at`: too many, too far, or digits, seven and four by arithmetic. Assumes nothing.
use lib.ListN.{length}
use mathlib.Core.Bool.{not}
use mathlib.Core.Path.{ap}
use native.Mathlib.Omega.{arith}
use Prim.Native.Nat.{◌+◌, ◌≤◌}
use Rattle.text.proofs.Digits.{too_many, too_far}
use Rattle.text.proofs.Put.{lacks, suffices}
use Rattle.text.proofs.hex_at.Goals as goal
use Rattle.text.proofs.hex_at.Goals.{Else-not-has_room}
use Rattle.text.proofs.hex_at.Goals.{then-n-gt-MOST_DIGITS-via-then-n-gt-MOST_DIGITS}
use Rattle.text.proofs.hex_at.Goals.{then-n-gt-MOST_DIGITS-via-else-n-gt-MOST_DIGITS+then-not-has_room}

-- where the digits are all there
module _ (c : Else-not-has_room) where
  there : (c.args.n ≤ 7) × (c.args.at + c.args.n ≤ length c.args.s.now)
  there = (c.if-n-gt-MOST_DIGITS.false, suffices _ _ _ c.has_room.ensures (ap not c.if-not-has_room.false))

pub returns-then-n-gt-MOST_DIGITS : goal.returns-then-n-gt-MOST_DIGITS
returns-then-n-gt-MOST_DIGITS c =
    elim c.then-n-gt-MOST_DIGITS.branch [
      | then-n-gt-MOST_DIGITS-via-then-n-gt-MOST_DIGITS w ↦ too_many _ _ _ w.if-n-gt-MOST_DIGITS.true
      | then-n-gt-MOST_DIGITS-via-else-n-gt-MOST_DIGITS+then-not-has_room w ↦
          too_far _ _ _ w.if-n-gt-MOST_DIGITS.false (lacks _ _ _ w.has_room.ensures (ap not w.if-not-has_room.true))
    ]

pub digits_at_once-requires : goal.digits_at_once-requires
digits_at_once-requires c =
    let t = there (goal.at.digits_at_once-requires c).Else-not-has_room in
    (omega arith, omega (arith, t.1, c.in-7.is))

pub digits_at_once-requires-in-4 : goal.digits_at_once-requires-in-4
digits_at_once-requires-in-4 c =
    let t = there (goal.at.digits_at_once-requires-in-4 c).Else-not-has_room in
    (omega arith, omega (arith, t.1, c.in-4.is))

pub digits_at-requires : goal.digits_at-requires
digits_at-requires c = there (goal.at.digits_at-requires c).Else-not-has_room
