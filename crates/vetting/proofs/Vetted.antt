-- What vet says, from the loader's answer and the rules' verdict. Assumes nothing.
use Prim.Native.Nat.{ℕ}
use Rattle.std.proofs.Common.{Result, Ok, Err}
use mathlib.Core.Path.{◌≡◌, refl, sym, ap, ◌∙◌}
use mathlib.Core.Bool.{false}
use mathlib.Core.List.{List}
use lib.Dec.{eqb}
use lib.ListN.{length}
use Rattle.argument.specs.declared.Refusal.{Refusal as Form}
use Rattle.argument.specs.Refusal.{number_of as form_number}
use Rattle.loader.specs.Load.{meaning as loaded_meaning, loaded}
use Rattle.rules.specs.Check.{verdict}
use Rattle.rules.specs.declared.Refusal.{Refusal as Rule}
use Rattle.rules.specs.Verdict.{meaning as rules_meaning}
use Rattle.table.specs.declared.Table.{Table}
use Rattle.vetting.specs.declared.Refusal.{Refusal}
use Rattle.vetting.specs.Vet.{Told, of_verdict, told, vetted}

positive : (q : Form) → eqb (form_number q) 0 ≡ false
unfolding form_number
positive Form.TooLong = refl
positive Form.NoEnd = refl
positive Form.LongLine = refl
positive Form.TooManyItems = refl
positive Form.UnknownCommand = refl
positive Form.BadArguments = refl
positive Form.Undeclared = refl
positive Form.DeclaredTwice = refl
positive Form.TooManyNames = refl

-- what the rules say of a table, as vet's answer
abbrev as_answer : Result (Unit {0}) (Rule × ℕ) → Result (Unit {0}) (Refusal × ℕ)
as_answer (Ok x) = Ok x
as_answer (Err (r, n)) = Err (Refusal.Rules r, n)

same_told : (v : Result (Unit {0}) (Rule × ℕ)) → told (as_answer v) ≡ of_verdict (rules_meaning v)
same_told (Ok x) = refl
same_told (Err (r, n)) = refl

pub by_rules : (s : List ℕ) (t : Table) (l : Result Table (Form × ℕ)) (v : Result (Unit {0}) (Rule × ℕ))
    → loaded_meaning l ≡ loaded s → l ≡ Ok t → rules_meaning v ≡ verdict (length s) t
    → told (as_answer v) ≡ vetted s
unfolding vetted
by_rules s t l v loads e h =
    same_told v ∙ ap of_verdict h ∙ rw (← loads, e) refl

pub by_loader : (s : List ℕ) (l : Result Table (Form × ℕ)) (q : Form) (n : ℕ) → loaded_meaning l ≡ loaded s
    → l ≡ Err (q, n) → told (Err (Refusal.Form q, n)) ≡ vetted s
unfolding vetted
by_loader s l q n loads e = rw (← loads, e, positive q) refl
