-- `text::number_of` judges eight digits at once, and weighs what they are worth. Assumes nothing.
use mathlib.Core.Path.{◌∙◌, sym}
use native.Mathlib.Omega.{arith}
use Rattle.text.proofs.Eight.{Weighed, reads, refuses, short, weighed_below}
use Rattle.text.proofs.number_of.Goals as goal
use Rattle.text.proofs.number_of.Goals.{After-weigh-2}

-- with both numbers of four
module _ (c : After-weigh-2) where
  number : Weighed c.args.w c.worths-worth.result c.weigh.result
      c.weigh-2.result
  number =
      record {
        digits = sym c.all_digits.ensures ∙ c.if-not-all_digits.false;
        worth = c.worths-worth.ensures;
        first = c.weigh.ensures;
        last = c.weigh-2.ensures;
      }

pub returns-then-not-all_digits : goal.returns-then-not-all_digits
returns-then-not-all_digits c = refuses _ (sym c.all_digits.ensures ∙ c.if-not-all_digits.true)

pub overflow_mul-number : goal.overflow_mul-number
overflow_mul-number c = record { fits = omega (arith, c.weigh.ensures, weighed_below c.worths-worth.result) }

pub overflow_add-number : goal.overflow_add-number
overflow_add-number c = record { fits = omega (arith, short (number c)) }

pub overflow_cast-number : goal.overflow_cast-number
overflow_cast-number c = record { fits = short (number c) }

pub returns : goal.returns
returns c = reads (number c)
