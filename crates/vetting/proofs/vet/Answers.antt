-- `vetting::vet` tells what the loader refuses, else what the rules do. Assumes nothing.
use Rattle.std.proofs.Common.{Ok, Err, sym, ap, ◌∙◌}
use Rattle.rules.specs.Verdict.{meaning}
use Rattle.vetting.proofs.Vetted.{by_rules, by_loader}
use Rattle.vetting.proofs.vet.Goals as goal

pub returns-in-Ok-check : goal.returns-in-Ok-check
returns-in-Ok-check c =
    by_rules _ c.in-Ok.table c.load.result (Ok c.in-Ok-check.field-0) c.load.ensures c.in-Ok.is
    (ap meaning (sym c.in-Ok-check.is) ∙ c.check.ensures)

pub returns-in-Err-check : goal.returns-in-Err-check
returns-in-Err-check c =
    rw c.from.ensures
    (by_rules _ c.in-Ok.table c.load.result (Err (c.in-Err-check.why, c.in-Err-check.line)) c.load.ensures c.in-Ok.is
    (ap meaning (sym c.in-Err-check.is) ∙ c.check.ensures))

pub returns-in-Err : goal.returns-in-Err
returns-in-Err c =
    rw c.from-in-Err.ensures
    (by_loader _ c.load.result c.in-Err.why c.in-Err.line c.load.ensures c.in-Err.is)
