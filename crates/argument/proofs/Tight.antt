-- No second answer fits a public function's contract.
use Rattle.std.proofs.Common.{Option, Some, None}
use mathlib.Core.Path.{◌≡◌, refl, sym, ◌∙◌, ap}
use mathlib.Core.List.{List}
use Prim.Native.Nat.{ℕ}
use Rattle.value.specs.declared.Value.{Value}
use Rattle.value.specs.declared.Comparison.{Comparison}
use Rattle.table.specs.declared.Operand.{Operand}
use Rattle.table.specs.declared.Text.{Text}
use Rattle.argument.specs.declared.Refusal.{Refusal}
use Rattle.argument.specs.declared.Form.{Form}
use Rattle.argument.specs.declared.Argument.{Argument}
use Rattle.argument.specs.declared.Said.{Said}
use Rattle.argument.specs.Refusal.{number_of}
use Rattle.argument.specs.Argument.{SaysAt}
use Rattle.argument.specs.Holds.{name_of, operand_of, value_of, letters_of, small_of, comparison_of, text_of, wrong_of}
use Rattle.argument.specs.Code.{numbered}
use Rattle.argument.proofs.Refusals.{same_number}

pub only_u8_from_refusal : (refusal : Refusal) (r r' : ℕ) → r ≡ number_of refusal → r' ≡ number_of refusal → r ≡ r'
only_u8_from_refusal refusal r r' e e' = e ∙ sym e'

pub only_name_of : (x : Argument) (r r' : ℕ) → r ≡ name_of x → r' ≡ name_of x → r ≡ r'
only_name_of x r r' e e' = e ∙ sym e'

pub only_operand_of : (x : Argument) (r r' : Operand) → r ≡ operand_of x → r' ≡ operand_of x → r ≡ r'
only_operand_of x r r' e e' = e ∙ sym e'

pub only_value_of : (x : Argument) (r r' : Value) → r ≡ value_of x → r' ≡ value_of x → r ≡ r'
only_value_of x r r' e e' = e ∙ sym e'

pub only_letters_of : (x : Argument) (r r' : ℕ) → r ≡ letters_of x → r' ≡ letters_of x → r ≡ r'
only_letters_of x r r' e e' = e ∙ sym e'

pub only_small_of : (x : Argument) (r r' : ℕ) → r ≡ small_of x → r' ≡ small_of x → r ≡ r'
only_small_of x r r' e e' = e ∙ sym e'

pub only_comparison_of : (x : Argument) (r r' : Comparison) → r ≡ comparison_of x → r' ≡ comparison_of x → r ≡ r'
only_comparison_of x r r' e e' = e ∙ sym e'

pub only_text_of : (x : Argument) (r r' : Text) → r ≡ text_of x → r' ≡ text_of x → r ≡ r'
only_text_of x r r' e e' = e ∙ sym e'

same_refusal : (r r' : Option Refusal) → numbered r ≡ numbered r' → r ≡ r'
same_refusal None None e = refl
same_refusal None (Some b) e = cc
same_refusal (Some a) None e = cc
same_refusal (Some a) (Some b) e = let q : number_of a ≡ number_of b = cc in ap Some (same_number a b q)

pub only_wrong_of : (x : Argument) (r r' : Option Refusal)
    → numbered r ≡ wrong_of x → numbered r' ≡ wrong_of x → r ≡ r'
only_wrong_of x r r' e e' = same_refusal r r' (e ∙ sym e')

pub only_say_at : (names : List (List ℕ)) (line : List ℕ) (form : Form) (i : ℕ) (r r' : Said)
    → SaysAt names line form i r → SaysAt names line form i r' → r ≡ r'
only_say_at names line form i r r' e e' = e.says ∙ sym e'.says
