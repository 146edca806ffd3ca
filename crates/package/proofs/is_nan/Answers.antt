-- `package::is_nan`: eight bytes, compared as one. Assumes nothing.
use mathlib.Core.Path.{◌∙◌}
use Rattle.package.proofs.Nan.{nan_is}
use Rattle.package.proofs.is_nan.Goals as goal

pub returns : goal.returns
returns c = c.starts_with.ensures.value ∙ nan_is c.args.s.now c.requires
