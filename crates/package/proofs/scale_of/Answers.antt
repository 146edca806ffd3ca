-- `package::scale_of`: a space, or a prefix. Assumes nothing.
use borrow.Author.Tests.{ne_eqb}
use mathlib.Core.Path.{sym, ap}
use Rattle.package.specs.Package.{scale_of}
use Rattle.package.proofs.scale_of.Goals as goal

pub returns-then-c-eq32 : goal.returns-then-c-eq32
unfolding scale_of
returns-then-c-eq32 c = ap scale_of (sym c.if-c-eq32.true)

pub returns : goal.returns
unfolding scale_of
returns c = simp (ne_eqb c.args.c 32 c.if-c-eq32.false) c.prefix_of.ensures
