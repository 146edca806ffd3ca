-- `package::read_package`: a walk that puts each part in its place. Assumes nothing.
use Rattle.std.proofs.Common.{Err}
use borrow.Author.Rules.{rules}
use mathlib.Core.Path.{◌≡◌, ◌∙◌, ap}
use Rattle.package.proofs.Packages.{handed_over}
use Rattle.package.specs.Code.{walk_meaning}
use Rattle.package.specs.Package.{package_meaning, package_of}
use Rattle.package.proofs.read_package.Goals as goal

pub returns : goal.returns
unfolding package_meaning walk_meaning
returns c = handed_over (package_of c.args.s.now) (rw c.in_ok-count.was at c.walk.ensures)

pub returns-in_err-count : goal.returns-in_err-count
unfolding package_meaning walk_meaning
returns-in_err-count c =
    let e : c.from_residual.result ≡ Err c.in_err-count.field-0.0 = search rules in
    ap package_meaning e ∙ handed_over (package_of c.args.s.now) (rw c.in_err-count.was at c.walk.ensures)
