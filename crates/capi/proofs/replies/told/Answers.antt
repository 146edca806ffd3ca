use Rattle.capi.proofs.Numbers.{told_read, told_refused}
use Rattle.capi.proofs.replies.told.Goals as goal

pub returns-in-Ok : goal.returns-in-Ok
returns-in-Ok c = told_read _ _ c.in-Ok.is

pub returns-in-Err : goal.returns-in-Err
returns-in-Err c = told_refused _ _ _ _ c.in-Err.is c.from.ensures
