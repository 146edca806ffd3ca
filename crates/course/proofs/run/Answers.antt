-- `course::run`: the steps that are told, one after the other. Table and state are judged once; each turn is that of
-- `machine::step`, and its things are laid behind those of the turns before.
use mathlib.Core.Path.{◌≡◌, ◌∙◌}
use lib.ListN.{length}
use Rattle.laws.proofs.Least.{least_min}
use Rattle.lookup.proofs.Laying.{two_laid, leaves_start, leaves_on}
use Rattle.lookup.proofs.Looking.{stands_at, turning_by, trying_starts, trying_on, effected}
use Rattle.lookup.proofs.Making.{made}
use Rattle.lookup.proofs.Passing.{surveyed}
use Rattle.steps.proofs.Lookups.{both_written}
use Rattle.course.proofs.Turns.{rounds_start, rounds_ready, rounds_on, rounds_end}
use Rattle.course.proofs.run.Goals as goal

-- table and state are judged, and the spot is taken out of the state: the first turn may begin
pub loop-i-init : goal.loop-i-init
loop-i-init c =
    let full : length c.args.table.items ≡ 128 = c.well_formed.1.0.1.1.0.1.0.1 in
    let names : length c.args.state.vars ≡ 32 = c.well_formed.1.1.0.1.1.1.1.1.0.1.0.1 in
    let boxes : length c.args.state.boxes ≡ 8 = c.well_formed.1.1.0.1.1.1.0.1.0.1 in
    let long : length c.args.steps.at ≡ 64 = c.well_formed.1.1.1.0.1.1.0.1.0.1 in
    rounds_start c.args.budget c.args.steps
    (turning_by c.args.state c.spot_of-spot.result c.state_ok.result
    (surveyed c.survey_of-count.ensures full)
    full names boxes c.survey_of-count.ensures.count c.state_ok.ensures c.survey_of-count.ensures.tag
    c.spot_of-spot.ensures)
    (stands_at c.args.state c.spot_of-spot.ensures) (c.min.ensures ∙ least_min _ _)
    (c.min-n.ensures ∙ least_min _ _) long

pub loop-found-init : goal.loop-found-init
loop-found-init c =
    let round = c.loop-i.invariant in
    record {
      trying =
          trying_starts round.head (c.min-here.ensures ∙ least_min _ _) c.cells_at-cells.ensures
          c.try_first-found.ensures;
      round = round;
      more = c.loop-i-test.true;
      few = round.come.few;
      ready = rounds_ready round c.loop-i-test.true;
    }

pub loop-found-preserved : goal.loop-found-preserved
loop-found-preserved c =
    let w = c.loop-found.invariant in
    record {
      trying =
          trying_on w.trying c.tries_on.ensures c.loop-found-test.true c.cells_at-tested.ensures c.try_at-found.ensures;
      round = w.round;
      more = w.more;
      few = w.few;
      ready = w.ready;
    }

-- no mate is left to try, and the effect is made: it is the step
pub loop-k-init : goal.loop-k-init
loop-k-init c =
    let effect =
    effected c.loop-found.invariant.trying c.tries_on.ensures c.loop-found-test.false c.chosen_by.ensures
    c.around_of.result c.around_of.ensures c.effect_of-e.ensures
    in
    leaves_start
    (two_laid {e = c.effect_of-e.result} c.loop-found.invariant.ready c.lay-handed.ensures
    c.lay-handed-in-loop-i.ensures)
    c.loop-i.spot c.boxes_left-left.ensures effect.deep _

pub loop-k-preserved : goal.loop-k-preserved
loop-k-preserved c =
    leaves_on c.loop-k.invariant c.loop-k-test.true c.leave_mark-w.ensures c.lay-handed-in-loop-k.ensures

-- all things of the turn are laid
pub loop-i-preserved : goal.loop-i-preserved
loop-i-preserved c =
    let effect =
    effected c.loop-found.invariant.trying c.tries_on.ensures c.loop-found-test.false c.chosen_by.ensures
    c.around_of.result c.around_of.ensures c.effect_of-e.ensures
    in
    let wide : length c.effect_of-e.result.spot.boxes ≡ 8 = c.effect_of-e.type_inv.1.1.0.1.1.1.0.1.0.1 in
    rounds_on c.loop-found.invariant.round c.loop-found.invariant.more
    (made effect
    (both_written {e = c.effect_of-e.result} effect.head.row c.put.ensures c.put-in-loop-i.ensures)
    (two_laid {e = c.effect_of-e.result} c.loop-found.invariant.ready c.lay-handed.ensures
    c.lay-handed-in-loop-i.ensures)
    c.boxes_left-left.ensures c.loop-k.invariant c.loop-k-test.false)
    wide c.stays-stayed.ensures

pub returns : goal.returns
returns c = rounds_end c.loop-i.invariant c.loop-i-test.false c.state_after.ensures
