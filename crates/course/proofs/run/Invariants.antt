-- `course::run`: the steps that are told, one after the other. Table and state are judged once; each turn is that of
-- `machine::step`, and its things are laid behind those of the turns before.
use Prim.Native.Nat.{◌-◌}
use lib.ListN.{length, take}
use Rattle.course.specs.Course.{steps_of}
use Rattle.lookup.proofs.Laying.{Leaves}
use Rattle.lookup.proofs.Looking.{stage, Trying}
use Rattle.course.proofs.Turns.{Within, Rounds}
use Rattle.course.proofs.run.Given as goal

-- the turns
abbrev pub invariant-loop-i : goal.invariant-loop-i
invariant-loop-i l =
    Rounds (take l.budget (steps_of l.steps)) l.n l.steps.at l.state l.i l.answers l.things l.handed l.stayed
    (stage (length l.text) l.table l.marks.at l.count l.tag l.shaped l.vars l.spot l.status)

-- the mates that a false condition tries
abbrev pub invariant-loop-found : goal.invariant-loop-found
invariant-loop-found l =
    Within
    (Trying (stage (length l.text) l.table l.marks.at l.count l.tag l.shaped l.vars l.spot l.status) l.told.control
    l.told.offer l.item l.cells l.found l.j)
    (Rounds (take l.budget (steps_of l.steps)) l.n l.steps.at l.state l.i l.answers l.things l.handed l.stayed
    (stage (length l.text) l.table l.marks.at l.count l.tag l.shaped l.vars l.spot l.status))
    l.i l.n l.things l.handed

abbrev pub decreases-loop-found : goal.decreases-loop-found
decreases-loop-found l = l.count - l.j

-- the marks of the boxes that are left
abbrev pub invariant-loop-k : goal.invariant-loop-k
invariant-loop-k l =
    Leaves 512 l.marks.at l.spot.boxes l.initial.things l.initial.handed l.left l.from l.things l.handed l.k
