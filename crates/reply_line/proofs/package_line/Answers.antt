-- `reply_line::package_line`: the package's answer, at the line. Assumes nothing.
use mathlib.Core.Path.{◌∙◌, ap}
use Rattle.package.specs.Package.{meaning}
use Rattle.reply_line.proofs.Lines.{refused_package}
use Rattle.reply_line.specs.declared.Line.{Line}
use Rattle.reply_line.specs.Line.{package_line}
use Rattle.reply_line.proofs.package_line.Goals as goal

pub returns-in-Ok : goal.returns-in-Ok
unfolding package_line meaning
returns-in-Ok c = ap package_line c.in-Ok.ensures

pub returns-in-Err : goal.returns-in-Err
returns-in-Err c = ap Line.Refused c.from.ensures ∙ refused_package _ _ ∙ ap package_line c.in-Err.ensures
