-- `word::run_from` goes byte by byte. Assumes nothing.
use mathlib.Core.Path.{refl, sym, ◌∙◌}
use native.Mathlib.Omega.{arith}
use Rattle.word.proofs.Runs.{goes_on, stops, at_end}
use Rattle.word.proofs.run_from.Goals as goal

pub loop-i-init : goal.loop-i-init
loop-i-init c = record { same = refl }

pub returns-then-not-of_class : goal.returns-then-not-of_class
returns-then-not-of_class c =
    stops c.loop-i.invariant (omega arith) (sym c.of_class.ensures ∙ c.if-not-of_class.true)

pub loop-i-preserved : goal.loop-i-preserved
loop-i-preserved c =
    goes_on c.loop-i.invariant (omega arith) (sym c.of_class.ensures ∙ c.if-not-of_class.false)

pub returns : goal.returns
returns c = at_end c.loop-i.invariant c.max.ensures c.loop-i-test.false c.loop-i.auto.i-end
