-- `machine::step`: one step. The table is surveyed and the state judged, the item and the mates of an if are looked up,
-- the effect is made, its names are written and its things laid.
use Prim.Native.Nat.{◌-◌}
use lib.ListN.{length}
use Rattle.state.specs.Meaning.{cells_of}
use Rattle.steps.specs.Code.{state_with}
use Rattle.lookup.proofs.Laying.{Leaves}
use Rattle.lookup.proofs.Looking.{stage, Trying}
use Rattle.machine.proofs.Turn.{From}
use Rattle.machine.proofs.step.Given as goal

-- the mates that a false condition tries
abbrev pub invariant-loop-found : goal.invariant-loop-found
invariant-loop-found l =
    From
    (Trying (stage (length l.text) l.table l.marks.at l.count l.tag l.shaped l.vars l.spot l.status) l.control l.offer
    l.item l.cells l.found l.j)
    (state_with (cells_of l.vars) l.spot l.status) l.state

abbrev pub decreases-loop-found : goal.decreases-loop-found
decreases-loop-found l = l.count - l.j

-- the marks of the boxes that are left
abbrev pub invariant-loop-k : goal.invariant-loop-k
invariant-loop-k l =
    Leaves 8 l.marks.at l.spot.boxes l.initial.things l.initial.handed l.left l.from l.things l.handed l.k
