-- `text::put_digits` puts the digits from the last to the first. Assumes nothing.
use lib.ListN.{length}
use mathlib.Core.Path.{sym, ◌∙◌}
use native.Mathlib.Omega.{arith}
use Prim.Native.Nat.{ℕ, ◌+◌, ◌≤◌}
use Rattle.text.proofs.Digits.{length-hex}
use Rattle.text.proofs.Put.{fitting, lacks, not_fitting, put_end, put_start, put_turn, suffices}
use mathlib.Core.Path.{ap}
use mathlib.Core.Bool.{not}
use Rattle.text.proofs.put_digits.Goals as goal
use Rattle.text.proofs.put_digits.Goals.{Else-not-has_room}

-- where there is room
module _ (c : Else-not-has_room) where
  abbrev at : ℕ
  at = c.args.at

  abbrev n : ℕ
  n = c.args.n

  room : at + n ≤ length c.args.buf.now
  room = suffices _ _ _ c.has_room.ensures (ap not c.if-not-has_room.false)

pub returns-then-not-has_room : goal.returns-then-not-has_room
returns-then-not-has_room c =
    let a = c.args in
    let short = lacks _ _ _ c.has_room.ensures (ap not c.if-not-has_room.true) in
    sym (not_fitting _ _ _ (omega (arith, short, length-hex a.n a.v)))

pub loop-left-init : goal.loop-left-init
loop-left-init c = put_start _ _ _ _ (room c)

pub loop-left-preserved : goal.loop-left-preserved
loop-left-preserved c = put_turn c.loop-left.invariant _ _ (omega arith) c.low_digit.ensures

pub returns : goal.returns
returns c =
    let a = c.args in
    put_end c.loop-left.invariant (omega arith)
    ∙ sym (fitting _ _ _ (omega (arith, room (goal.at.returns c).Else-not-has_room, length-hex a.n a.v)))
