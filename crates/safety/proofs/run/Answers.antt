-- `safety::run` meets its contract: what the loader says, and then what the checker and the run come to, with the
-- promise of demand 3.
use mathlib.Core.Path.{◌∙◌}
use Rattle.course.specs.Course.{steps_of}
use Rattle.safety.proofs.Report.{form_yes, form_no, exact}
use Rattle.safety.proofs.run.Goals as goal

pub returns-in-Ok : goal.returns-in-Ok
returns-in-Ok c =
    let said = c.check_and_run.ensures in
    exact (said.0 ∙ form_yes _ (steps_of c.args.steps) c.in-Ok.ensures) said.1

pub returns-in-Err : goal.returns-in-Err
returns-in-Err c = exact (form_no _ (steps_of c.args.steps) _ _ c.in-Err.ensures) tt
