-- No second answer fits a public function's contract.
use Rattle.std.proofs.Common.{Result, Ok, Err}
use mathlib.Core.Path.{◌≡◌, sym, ◌∙◌, ap}
use mathlib.Core.List.{List}
use Prim.Native.Nat.{ℕ}
use native.Mathlib.Omega.{arith}
use Rattle.table.specs.declared.Item.{Item}
use Rattle.argument.specs.declared.Refusal.{Refusal}
use Rattle.argument.specs.Refusal.{number_of}
use Rattle.argument.proofs.Refusals.{same_number}
use Rattle.line.specs.Line.{meaning, judged}

same_meaning : (r r' : Result Item Refusal) → meaning r ≡ meaning r' → r ≡ r'
unfolding meaning
same_meaning (Ok a) (Ok b) e = let q : a ≡ b = cc in ap Ok q
same_meaning (Ok a) (Err b) e = let z : ◌≡◌ {A = ℕ} 0 1 = cc in absurd (omega arith)
same_meaning (Err a) (Ok b) e = let z : ◌≡◌ {A = ℕ} 0 1 = cc in absurd (omega arith)
same_meaning (Err a) (Err b) e =
    let q : number_of a ≡ number_of b = cc in ap Err (same_number a b q)

pub only_judge_line : (script : List ℕ) (i : ℕ) (names : List (List ℕ)) (r r' : Result Item Refusal)
    → meaning r ≡ judged names script i → meaning r' ≡ judged names script i → r ≡ r'
only_judge_line script i names r r' e e' = same_meaning r r' (e ∙ sym e')
