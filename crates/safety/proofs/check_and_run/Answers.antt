-- `safety::check_and_run` meets its contract: what the checker says, and what the run comes to where it accepts.
use Rattle.course.specs.Course.{steps_of}
use Rattle.safety.proofs.Report.{rules_yes, rules_no, from_fresh, fixed}
use Rattle.safety.proofs.check_and_run.Goals as goal

pub returns-in-Ok : goal.returns-in-Ok
returns-in-Ok c = (
  rules_yes _ _ (steps_of c.args.steps) c.in-Ok.ensures (from_fresh c.args.steps c.fresh.ensures.says c.run.ensures),
  fixed c.fresh.ensures.neat c.run.ensures,
)

pub returns-in-Err : goal.returns-in-Err
returns-in-Err c = (rules_no _ _ (steps_of c.args.steps) _ _ c.in-Err.ensures, tt)
