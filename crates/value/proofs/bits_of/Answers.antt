-- `value::bits_of`: a NaN apart. Assumes nothing.
use Rattle.value.proofs.Floats.{no_nan, is_nan_lem}
use Rattle.value.proofs.bits_of.Goals as goal

pub float_to_bits-result : goal.float_to_bits-result
float_to_bits-result c = no_nan _ c.if-x.false

pub returns-then-x : goal.returns-then-x
returns-then-x c = is_nan_lem _ c.if-x.true
