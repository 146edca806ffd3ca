-- What vet says of a script (01, The checker: "First form (10 to 18) .. Then rules (19 to 26)"): the number and line of
-- the loader's refusal, else of the rules'; both 0 where it is accepted.
use Rattle.std.specs.Prelude.{ℕ, cond, List, eqb, length, Result, Ok, Err}
use Rattle.argument.specs.Refusal.{number_of as form_number}
use Rattle.rules.specs.Check.{Verdict, accepted, refused, verdict}
use Rattle.rules.specs.Verdict.{number_of as rule_number}
use Rattle.loader.specs.Load.{Outcome, loaded}
pub use Rattle.vetting.specs.declared.Refusal.{Refusal}

pub record Told : Type 0 where
  pub number : ℕ
  pub line : ℕ

abbrev pub of_verdict : Verdict → Told
of_verdict accepted = record { number = 0; line = 0 }
of_verdict (refused n line) = record { number = n; line = line }

abbrev pub told_of : List ℕ → Outcome → Told
told_of s o =
    cond (eqb o.number 0) (of_verdict (verdict (length s) o.table)) (record { number = o.number; line = o.line })

unfoldable pub vetted : List ℕ → Told
vetted s = told_of s (loaded s)

-- ---- what the code's answer means

abbrev pub number_of : Refusal → ℕ
number_of (Refusal.Form r) = form_number r
number_of (Refusal.Rules r) = rule_number r

abbrev pub told : Result (Unit {0}) (Refusal × ℕ) → Told
told (Ok x) = record { number = 0; line = 0 }
told (Err (r, line)) = record { number = number_of r; line = line }
