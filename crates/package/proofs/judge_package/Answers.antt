-- `package::judge_package`: a walk that keeps no part. Assumes nothing.
use Rattle.std.proofs.Common.{Err}
use borrow.Author.Rules.{rules}
use mathlib.Core.Path.{◌≡◌, ◌∙◌, ap}
use Rattle.package.proofs.Packages.{judged}
use Rattle.package.specs.Code.{walk_meaning}
use Rattle.package.specs.Package.{meaning, package_of}
use Rattle.package.proofs.judge_package.Goals as goal

pub returns : goal.returns
unfolding meaning walk_meaning
returns c = judged _ 0 tt (package_of c.args.s.now) c.in_ok-walk.ensures

pub returns-in_err-walk : goal.returns-in_err-walk
unfolding meaning walk_meaning
returns-in_err-walk c =
    let e : c.from_residual.result ≡ Err c.in_err-walk.field-0.0 = search rules in
    ap meaning e ∙ judged _ 0 tt (package_of c.args.s.now) c.in_err-walk.ensures
