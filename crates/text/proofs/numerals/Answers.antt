-- `text::numerals` marks the digits from 0 to 9. Assumes nothing.
use mathlib.Core.Path.{refl}
use Rattle.text.proofs.Ranges.{range_marks}
use Rattle.text.specs.Bytes.{byte, digit}
use Rattle.text.proofs.numerals.Goals as goal

pub returns : goal.returns
unfolding digit
returns c =
    range_marks c.args.w c.ranges.w.fits (byte "0") (byte ":") c.plain.result digit
    c.plain.ensures refl
