-- `value::digits`: what the text's reader of decimals finds, at most ten digits of it. Assumes nothing.
use Rattle.std.proofs.Common.{◌∙◌, arith}
use Rattle.value.proofs.Literals as Literals
use Rattle.value.proofs.digits.Goals as goal

pub overflow_sub-k : goal.overflow_sub-k
overflow_sub-k c = omega (arith, Literals.next_is c.args.s.now c.args.at c.requires c.decimal_at-read.ensures)

pub returns-then-k-gt-MOST_DIGITS : goal.returns-then-k-gt-MOST_DIGITS
returns-then-k-gt-MOST_DIGITS c =
    Literals.eleventh c.args.s.now c.args.at c.requires c.decimal_at-read.ensures c.args.neg c.if-k-gt-MOST_DIGITS.true

pub finished-requires : goal.finished-requires
finished-requires c = Literals.next_within c.args.s.now c.args.at c.requires c.decimal_at-read.ensures

pub returns : goal.returns
returns c =
    c.finished.ensures
    ∙ Literals.at_most_ten c.args.s.now c.args.at c.requires c.decimal_at-read.ensures c.args.neg
    c.if-k-gt-MOST_DIGITS.false
