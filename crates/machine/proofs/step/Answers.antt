-- `machine::step`: one step. The table is surveyed and the state judged, the item and the mates of an if are looked up,
-- the effect is made, its names are written and its things laid.
use mathlib.Core.Path.{◌≡◌, ◌∙◌}
use lib.ListN.{length}
use Rattle.laws.proofs.Least.{least_min}
use Rattle.lookup.proofs.Laying.{none_yet, two_laid, leaves_start, leaves_on}
use Rattle.lookup.proofs.Looking.{stands_at, turning_by, trying_starts, trying_on, effected}
use Rattle.lookup.proofs.Making.{made}
use Rattle.lookup.proofs.Passing.{surveyed}
use Rattle.steps.proofs.Lookups.{both_written}
use Rattle.machine.proofs.Turn.{one_turn}
use Rattle.machine.proofs.step.Goals as goal

-- table and state are judged, and the spot is taken out of the state: the turn begins
pub loop-found-init : goal.loop-found-init
loop-found-init c =
    let full : length c.args.table.items ≡ 128 = c.well_formed.1.0.1.1.0.1.0.1 in
    let names : length c.args.state.vars ≡ 32 = c.well_formed.1.1.0.1.1.1.1.1.0.1.0.1 in
    let boxes : length c.args.state.boxes ≡ 8 = c.well_formed.1.1.0.1.1.1.0.1.0.1 in
    record {
      trying =
          trying_starts
          (turning_by c.args.state c.spot_of-spot.result c.state_ok.result
          (surveyed c.survey_of-count.ensures full)
          full names boxes c.survey_of-count.ensures.count c.state_ok.ensures c.survey_of-count.ensures.tag
          c.spot_of-spot.ensures)
          (c.min-here.ensures ∙ least_min _ _) c.cells_at-cells.ensures
          c.try_first-found.ensures;
      stands = stands_at c.args.state c.spot_of-spot.ensures;
    }

pub loop-found-preserved : goal.loop-found-preserved
loop-found-preserved c =
    record {
      trying =
          trying_on c.loop-found.invariant.trying c.tries_on.ensures c.loop-found-test.true c.cells_at-tested.ensures
          c.try_at-found.ensures;
      stands = c.loop-found.invariant.stands;
    }

-- no mate is left to try, and the effect is made: it is the step
pub loop-k-init : goal.loop-k-init
loop-k-init c =
    let effect =
    effected c.loop-found.invariant.trying c.tries_on.ensures c.loop-found-test.false c.chosen_by.ensures
    c.around_of.result c.around_of.ensures c.effect_of-e.ensures
    in
    leaves_start
    (two_laid {e = c.effect_of-e.result} (none_yet c.no_things-things.ensures) c.lay-handed.ensures
    c.lay-handed-2.ensures)
    c.spot_of-spot.result c.boxes_left-left.ensures effect.deep _

pub loop-k-preserved : goal.loop-k-preserved
loop-k-preserved c =
    leaves_on c.loop-k.invariant c.loop-k-test.true c.leave_mark-w.ensures c.lay-handed-in-loop-k.ensures

pub returns : goal.returns
returns c =
    let effect =
    effected c.loop-found.invariant.trying c.tries_on.ensures c.loop-found-test.false c.chosen_by.ensures
    c.around_of.result c.around_of.ensures c.effect_of-e.ensures
    in
    one_turn effect.head c.loop-found.invariant.stands
    (made effect
    (both_written {e = c.effect_of-e.result} effect.head.row c.put.ensures c.put-2.ensures)
    (two_laid {e = c.effect_of-e.result} (none_yet c.no_things-things.ensures) c.lay-handed.ensures
    c.lay-handed-2.ensures)
    c.boxes_left-left.ensures c.loop-k.invariant c.loop-k-test.false)
    c.stays-stayed.ensures c.state_after.ensures
