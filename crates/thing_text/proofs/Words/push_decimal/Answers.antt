-- `thing_text::Words::push_decimal`: the digits that the text's writer of decimals gives. Assumes nothing.
use mathlib.Core.Path.{◌∙◌}
use Rattle.text.proofs.Decimals.{digits_are}
use Rattle.thing_text.proofs.Words.push_decimal.Goals as goal

pub returns-clause-bytes : goal.returns-clause-bytes
returns-clause-bytes c =
    rw (c.digits.ensures ∙ digits_are _ c.ranges.n.fits c.decimal_of.ensures) at c.push_all.ensures.bytes
