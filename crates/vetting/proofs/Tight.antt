-- No second answer fits: for each public function, two answers that both keep its contract are equal.
use Rattle.std.proofs.Common.{Result, Ok, Err}
use mathlib.Core.Path.{◌≡◌, refl, sym, ◌∙◌, ap, ap₂}
use mathlib.Core.List.{List}
use Prim.Native.Nat.{ℕ, ◌<◌, ◌≤◌}
use native.Mathlib.Omega.{arith}
use Rattle.argument.specs.declared.Refusal.{Refusal as Form}
use Rattle.argument.specs.Refusal.{number_of as form_number}
use Rattle.argument.proofs.Refusals.{same_number}
use Rattle.rules.specs.declared.Refusal.{Refusal as Rule}
use Rattle.rules.specs.Verdict.{number_of as rule_number}
use Rattle.rules.proofs.Tight.{one_rule}
use Rattle.vetting.specs.Vet.{Told, Refusal, number_of, told, vetted}

pub only_refusal_from_argument_refusal : (why : Form) (x y : Refusal)
    → x ≡ Refusal.Form why → y ≡ Refusal.Form why → x ≡ y
only_refusal_from_argument_refusal why x y p q = p ∙ sym q

pub only_refusal_from_rules_refusal : (why : Rule) (x y : Refusal)
    → x ≡ Refusal.Rules why → y ≡ Refusal.Rules why → x ≡ y
only_refusal_from_rules_refusal why x y p q = p ∙ sym q

pub only_u8_from_refusal : (why : Refusal) (x y : ℕ) → x ≡ number_of why → y ≡ number_of why → x ≡ y
only_u8_from_refusal why x y p q = p ∙ sym q

-- ---- the numbers of form lie below those of the rules

form_below : (r : Form) → form_number r < 19
unfolding form_number
form_below Form.TooLong = omega arith
form_below Form.NoEnd = omega arith
form_below Form.LongLine = omega arith
form_below Form.TooManyItems = omega arith
form_below Form.UnknownCommand = omega arith
form_below Form.BadArguments = omega arith
form_below Form.Undeclared = omega arith
form_below Form.DeclaredTwice = omega arith
form_below Form.TooManyNames = omega arith

rule_above : (r : Rule) → 19 ≤ rule_number r
rule_above Rule.Kinds = omega arith
rule_above Rule.Unwritten = omega arith
rule_above Rule.Mark = omega arith
rule_above Rule.Ninth = omega arith
rule_above Rule.Package = omega arith
rule_above Rule.Tag = omega arith
rule_above Rule.SameName = omega arith
rule_above Rule.Nested = omega arith
rule_above Rule.Shape = omega arith

same_refusal : (x y : Refusal) → number_of x ≡ number_of y → x ≡ y
same_refusal (Refusal.Form r) (Refusal.Form q) e = ap Refusal.Form (same_number r q e)
same_refusal (Refusal.Form r) (Refusal.Rules q) e = absurd (omega (arith, form_below r, rule_above q, e))
same_refusal (Refusal.Rules r) (Refusal.Form q) e = absurd (omega (arith, form_below q, rule_above r, e))
same_refusal (Refusal.Rules r) (Refusal.Rules q) e = ap Refusal.Rules (one_rule r q e)

above_zero : (x : Refusal) → 0 < number_of x
unfolding form_number
above_zero (Refusal.Form Form.TooLong) = omega arith
above_zero (Refusal.Form Form.NoEnd) = omega arith
above_zero (Refusal.Form Form.LongLine) = omega arith
above_zero (Refusal.Form Form.TooManyItems) = omega arith
above_zero (Refusal.Form Form.UnknownCommand) = omega arith
above_zero (Refusal.Form Form.BadArguments) = omega arith
above_zero (Refusal.Form Form.Undeclared) = omega arith
above_zero (Refusal.Form Form.DeclaredTwice) = omega arith
above_zero (Refusal.Form Form.TooManyNames) = omega arith
above_zero (Refusal.Rules r) = omega (arith, rule_above r)

abbrev Answer : Type 0
Answer = Result (Unit {0}) (Refusal × ℕ)

same_told : (x y : Answer) → told x ≡ told y → x ≡ y
same_told (Ok x) (Ok y) e = refl
same_told (Ok x) (Err (r, n)) e = absurd (omega (arith, above_zero r, ap (λ (t : Told). t.number) e))
same_told (Err (r, n)) (Ok y) e = absurd (omega (arith, above_zero r, ap (λ (t : Told). t.number) e))
same_told (Err (r, n)) (Err (q, m)) e =
    ap₂ (λ (x : Refusal) (y : ℕ). Err (x, y))
    (same_refusal r q (ap (λ (t : Told). t.number) e)) (ap (λ (t : Told). t.line) e)

pub only_vet : (text : List ℕ) (x y : Answer) → told x ≡ vetted text → told y ≡ vetted text → x ≡ y
only_vet text x y p q = same_told x y (p ∙ sym q)
