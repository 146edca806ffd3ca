-- No second answer fits: for each public function, two answers that both keep its contract are equal. Assumes nothing.
use Rattle.std.proofs.Common.{Result, Ok, Err}
use Prim.Native.Nat.{ℕ}
use mathlib.Core.Path.{◌≡◌, refl, sym, ap, ◌∙◌}
use mathlib.Core.Bool.{cond}
use mathlib.Core.List.{List}
use lib.Dec.{eqb}
use lib.ListN.{length}
use Rattle.table.specs.declared.Table.{Table}
use Rattle.rules.specs.Check.{verdict}
use Rattle.rules.specs.declared.Refusal.{Refusal}
use Rattle.rules.specs.Verdict.{number_of, meaning}

-- the rule of a number
abbrev pub rule_of : ℕ → Refusal
rule_of n =
    cond (eqb n 19) Refusal.Kinds
    (cond (eqb n 20) Refusal.Unwritten
    (cond (eqb n 21) Refusal.Mark
    (cond (eqb n 22) Refusal.Ninth
    (cond (eqb n 23) Refusal.Package
    (cond (eqb n 24) Refusal.Tag
    (cond (eqb n 25) Refusal.SameName
    (cond (eqb n 26) Refusal.Nested Refusal.Shape)))))))

rule_back : (r : Refusal) → rule_of (number_of r) ≡ r
rule_back Refusal.Kinds = refl
rule_back Refusal.Unwritten = refl
rule_back Refusal.Mark = refl
rule_back Refusal.Ninth = refl
rule_back Refusal.Package = refl
rule_back Refusal.Tag = refl
rule_back Refusal.SameName = refl
rule_back Refusal.Nested = refl
rule_back Refusal.Shape = refl

-- no two rules have one number
pub one_rule : (x y : Refusal) → number_of x ≡ number_of y → x ≡ y
one_rule x y e = sym (rule_back x) ∙ ap rule_of e ∙ rule_back y

abbrev Answer : Type 0
Answer = Result (Unit {0}) (Refusal × ℕ)

-- no two answers have one meaning
pub one_meaning : (x y : Answer) → meaning x ≡ meaning y → x ≡ y
one_meaning (Ok x) (Ok y) e = refl
one_meaning (Ok x) (Err (r, l)) e = cc
one_meaning (Err (r, l)) (Ok y) e = cc
one_meaning (Err (r, l)) (Err (q, k)) e =
    let f : r ≡ q = one_rule r q (cc) in
    let g : l ≡ k = cc in
    cc

pub only_check : (s : List ℕ) (t : Table) (x y : Answer) → meaning x ≡ verdict (length s) t
    → meaning y ≡ verdict (length s) t → x ≡ y
only_check s t x y p q = one_meaning x y (p ∙ sym q)

pub only_u8_from_refusal : (r : Refusal) (x y : ℕ) → x ≡ number_of r → y ≡ number_of r → x ≡ y
only_u8_from_refusal r x y p q = p ∙ sym q
