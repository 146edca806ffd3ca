use Rattle.case_text.proofs.Floats.{no_pattern}
use Rattle.case_text.proofs.read.float_of.Goals as goal

pub float_from_bits-result : goal.float_from_bits-result
float_from_bits-result c = no_pattern _ c.if-n-gt-INFINITE.false
