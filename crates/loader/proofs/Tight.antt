-- No second answer fits a public function's contract.
use Rattle.std.proofs.Common.{Result, Ok, Err}
use mathlib.Core.Path.{◌≡◌, sym, ◌∙◌, ap, ap₂}
use mathlib.Core.List.{List}
use Prim.Native.Nat.{ℕ}
use Rattle.table.specs.declared.Table.{Table}
use Rattle.argument.specs.declared.Refusal.{Refusal}
use Rattle.argument.proofs.Refusals.{same_number}
use Rattle.loader.specs.Load.{Outcome, meaning, loaded}
use Rattle.loader.proofs.Walk.{not_zero}

abbrev Answer : Type 0
Answer = Result Table (Refusal × ℕ)

same_meaning : (r r' : Answer) → meaning r ≡ meaning r' → r ≡ r'
same_meaning (Ok p) (Ok q) e = ap Ok (ap (λ (o : Outcome). o.table) e)
same_meaning (Ok p) (Err (r, n)) e = absurd (not_zero r (sym (ap (λ (o : Outcome). o.number) e)))
same_meaning (Err (r, n)) (Ok q) e = absurd (not_zero r (ap (λ (o : Outcome). o.number) e))
same_meaning (Err (r, n)) (Err (q, m)) e =
    ap₂ (λ (x : Refusal) (y : ℕ). Err (x, y))
    (same_number r q (ap (λ (o : Outcome). o.number) e)) (ap (λ (o : Outcome). o.line) e)

pub only_load : (text : List ℕ) (r r' : Answer) → meaning r ≡ loaded text → meaning r' ≡ loaded text → r ≡ r'
only_load text r r' e e' = same_meaning r r' (e ∙ sym e')
