-- What `_` leaves of a match on an argument: where a function says d of each variant whose tag is left, it says d.
-- Assumes nothing.
use mathlib.Core.Path.{◌≡◌}
use mathlib.Core.List.{List}
use Prim.Native.Nat.{ℕ}
use types.Run.{OneOf}
use denote.Enum.Declared.{tag_of}
use Rattle.value.specs.declared.Value.{Value}
use Rattle.value.specs.declared.Comparison.{Comparison}
use Rattle.table.specs.declared.Operand.{Operand}
use Rattle.table.specs.declared.Text.{Text}
use Rattle.argument.specs.declared.Refusal.{Refusal}
use Rattle.argument.specs.declared.Argument.{Argument}
use Rattle.argument.specs.declared.Argument.TheVariants as Argument
use Rattle.argument.specs.contracts.Argument.{the_type}

module _ {X : Type 0} (f : Argument → X) (d : X) (tags : List ℕ) where
  abbrev pub Each : Type 0
  Each =
      (OneOf tags 0 → d ≡ f Argument.Nothing)
      × ((y : ℕ) → OneOf tags 1 → d ≡ f (Argument.Name y))
      × ((y : Operand) → OneOf tags 2 → d ≡ f (Argument.Operand y))
      × ((y : Value) → OneOf tags 3 → d ≡ f (Argument.Literal y))
      × ((y : ℕ) → OneOf tags 4 → d ≡ f (Argument.Letters y))
      × ((y : ℕ) → OneOf tags 5 → d ≡ f (Argument.Number y))
      × ((y : Comparison) → OneOf tags 6 → d ≡ f (Argument.Comparison y))
      × ((y : Text) → OneOf tags 7 → d ≡ f (Argument.Text y))
      × ((y : Refusal) → OneOf tags 8 → d ≡ f (Argument.Wrong y))

  pub by_tag : Each → (x : Argument) → OneOf tags (tag_of the_type x) → d ≡ f x
  by_tag e Argument.Nothing k = e.0 k
  by_tag e (Argument.Name y) k = e.1 y k
  by_tag e (Argument.Operand y) k = e.2 y k
  by_tag e (Argument.Literal y) k = e.3 y k
  by_tag e (Argument.Letters y) k = e.4 y k
  by_tag e (Argument.Number y) k = e.5 y k
  by_tag e (Argument.Comparison y) k = e.6 y k
  by_tag e (Argument.Text y) k = e.7 y k
  by_tag e (Argument.Wrong y) k = e.8 y k
