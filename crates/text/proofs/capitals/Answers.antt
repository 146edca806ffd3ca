-- `text::capitals` marks the digits from A to F. Assumes nothing.
use mathlib.Core.Path.{refl}
use Rattle.text.proofs.Ranges.{range_marks}
use Rattle.text.specs.Bytes.{byte}
use Rattle.text.specs.Code.{capital}
use Rattle.text.proofs.capitals.Goals as goal

pub returns : goal.returns
unfolding capital
returns c =
    range_marks c.args.w c.ranges.w.fits (byte "A") (byte "G") c.plain.result capital
    c.plain.ensures refl
