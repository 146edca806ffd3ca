use mathlib.Core.Path.{◌∙◌, ap}
use Rattle.capi.specs.Scripts.{verdict_numbers}
use Rattle.capi.proofs.scripts.satv_script_check.Goals as goal

pub returns-in-Ok : goal.returns-in-Ok
unfolding verdict_numbers
returns-in-Ok c = ap verdict_numbers c.in-Ok.ensures

pub returns-in-Err : goal.returns-in-Err
unfolding verdict_numbers
returns-in-Err c = rw c.from.ensures (ap verdict_numbers c.in-Err.ensures)
