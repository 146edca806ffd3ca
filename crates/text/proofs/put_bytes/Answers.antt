-- `text::put_bytes` copies where there is room. Assumes nothing.
use lib.ListN.{length}
use mathlib.Core.Bool.{not}
use mathlib.Core.Path.{ap, sym, ◌∙◌}
use native.Mathlib.Omega.{arith}
use Prim.Native.Nat.{◌+◌, ◌≤◌}
use Rattle.text.proofs.Put.{copied, fitting, lacks, not_fitting, suffices}
use Rattle.text.proofs.put_bytes.Goals as goal
use Rattle.text.proofs.put_bytes.Goals.{Else-not-has_room}

-- where there is room
module _ (c : Else-not-has_room) where
  room : c.args.at + length c.args.src.now ≤ length c.args.buf.now
  room = suffices _ _ _ c.has_room.ensures (ap not c.if-not-has_room.false)

pub returns-then-not-has_room : goal.returns-then-not-has_room
returns-then-not-has_room c = sym (not_fitting _ _ _ (lacks _ _ _ c.has_room.ensures (ap not c.if-not-has_room.true)))

pub overflow_add-end : goal.overflow_add-end
overflow_add-end c = omega (arith, room (goal.at.overflow_add-end c).Else-not-has_room)

pub slice_bounds-copy_from_slice-end : goal.slice_bounds-copy_from_slice-end
slice_bounds-copy_from_slice-end c = omega (arith, room (goal.at.slice_bounds-copy_from_slice-end c).Else-not-has_room)

pub returns : goal.returns
returns c =
    let a = c.args in
    let h = room (goal.at.returns c).Else-not-has_room in
    copied a.buf.now a.src.now _ a.at _ (omega arith) c.copy_from_slice.ensures.after
    ∙ sym (fitting _ _ _ h)
