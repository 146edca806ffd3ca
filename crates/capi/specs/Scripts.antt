-- 01, The checker, for C: a script's number and line, both 0 where it is accepted. Assumes nothing.
use Rattle.vetting.specs.Vet.{Told}
pub use Rattle.capi.specs.declared.scripts.SatvVerdict.{SatvVerdict}

unfoldable pub verdict_numbers : Told → SatvVerdict
verdict_numbers told = record { result = told.number; line = told.line }
