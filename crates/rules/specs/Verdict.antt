-- What the code's answers mean: 01's numbers, and the verdict with its place.
use Rattle.std.specs.Prelude.{ℕ, Option, Some, None, Result, Ok, Err}
use Rattle.rules.specs.Check.{Verdict, accepted, refused}
use Rattle.rules.specs.declared.Refusal.{Refusal}

abbrev pub number_of : Refusal → ℕ
number_of Refusal.Kinds = 19
number_of Refusal.Unwritten = 20
number_of Refusal.Mark = 21
number_of Refusal.Ninth = 22
number_of Refusal.Package = 23
number_of Refusal.Tag = 24
number_of Refusal.SameName = 25
number_of Refusal.Nested = 26
number_of Refusal.Shape = 30

-- 0: no rule is broken
abbrev pub found : Option Refusal → ℕ
found None = 0
found (Some r) = number_of r

abbrev pub meaning : Result (Unit {0}) (Refusal × ℕ) → Verdict
meaning (Ok done) = accepted
meaning (Err (r, line)) = refused (number_of r) line
