-- The lesser of two numbers. Assumes nothing.
use Rattle.std.specs.Prelude.{ℕ, cond, leb}

abbrev pub least : ℕ → ℕ → ℕ
least n k = cond (leb n k) n k
