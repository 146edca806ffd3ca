-- What an argument says, by its sort: an item is made of these. Where it says nothing of the sort they say nothing of
-- meaning; an item is made only where every argument is of the sort that its place asks for.
use Rattle.std.specs.Prelude.{ℕ, pos, Option, Some, None}
use Rattle.value.specs.declared.Value.{Value}
use Rattle.value.specs.declared.Comparison.{Comparison}
use Rattle.table.specs.declared.Operand.{Operand}
use Rattle.table.specs.declared.Text.{Text}
use Rattle.argument.specs.Refusal.{number_of}
use Rattle.argument.specs.declared.Argument.{Argument}

abbrev pub name_of : Argument → ℕ
name_of Argument.Nothing = 0
name_of (Argument.Name y) = y
name_of (Argument.Operand y) = 0
name_of (Argument.Literal y) = 0
name_of (Argument.Letters y) = 0
name_of (Argument.Number y) = 0
name_of (Argument.Comparison y) = 0
name_of (Argument.Text y) = 0
name_of (Argument.Wrong y) = 0

abbrev pub operand_of : Argument → Operand
operand_of Argument.Nothing = Operand.Literal (Value.Whole (pos 0))
operand_of (Argument.Name y) = Operand.Literal (Value.Whole (pos 0))
operand_of (Argument.Operand y) = y
operand_of (Argument.Literal y) = Operand.Literal (Value.Whole (pos 0))
operand_of (Argument.Letters y) = Operand.Literal (Value.Whole (pos 0))
operand_of (Argument.Number y) = Operand.Literal (Value.Whole (pos 0))
operand_of (Argument.Comparison y) = Operand.Literal (Value.Whole (pos 0))
operand_of (Argument.Text y) = Operand.Literal (Value.Whole (pos 0))
operand_of (Argument.Wrong y) = Operand.Literal (Value.Whole (pos 0))

abbrev pub value_of : Argument → Value
value_of Argument.Nothing = Value.Whole (pos 0)
value_of (Argument.Name y) = Value.Whole (pos 0)
value_of (Argument.Operand y) = Value.Whole (pos 0)
value_of (Argument.Literal y) = y
value_of (Argument.Letters y) = Value.Whole (pos 0)
value_of (Argument.Number y) = Value.Whole (pos 0)
value_of (Argument.Comparison y) = Value.Whole (pos 0)
value_of (Argument.Text y) = Value.Whole (pos 0)
value_of (Argument.Wrong y) = Value.Whole (pos 0)

abbrev pub letters_of : Argument → ℕ
letters_of Argument.Nothing = 0
letters_of (Argument.Name y) = 0
letters_of (Argument.Operand y) = 0
letters_of (Argument.Literal y) = 0
letters_of (Argument.Letters y) = y
letters_of (Argument.Number y) = 0
letters_of (Argument.Comparison y) = 0
letters_of (Argument.Text y) = 0
letters_of (Argument.Wrong y) = 0

abbrev pub small_of : Argument → ℕ
small_of Argument.Nothing = 0
small_of (Argument.Name y) = 0
small_of (Argument.Operand y) = 0
small_of (Argument.Literal y) = 0
small_of (Argument.Letters y) = 0
small_of (Argument.Number y) = y
small_of (Argument.Comparison y) = 0
small_of (Argument.Text y) = 0
small_of (Argument.Wrong y) = 0

abbrev pub comparison_of : Argument → Comparison
comparison_of Argument.Nothing = Comparison.Equal
comparison_of (Argument.Name y) = Comparison.Equal
comparison_of (Argument.Operand y) = Comparison.Equal
comparison_of (Argument.Literal y) = Comparison.Equal
comparison_of (Argument.Letters y) = Comparison.Equal
comparison_of (Argument.Number y) = Comparison.Equal
comparison_of (Argument.Comparison y) = y
comparison_of (Argument.Text y) = Comparison.Equal
comparison_of (Argument.Wrong y) = Comparison.Equal

abbrev pub text_of : Argument → Text
text_of Argument.Nothing = record { start = 0; end = 0 }
text_of (Argument.Name y) = record { start = 0; end = 0 }
text_of (Argument.Operand y) = record { start = 0; end = 0 }
text_of (Argument.Literal y) = record { start = 0; end = 0 }
text_of (Argument.Letters y) = record { start = 0; end = 0 }
text_of (Argument.Number y) = record { start = 0; end = 0 }
text_of (Argument.Comparison y) = record { start = 0; end = 0 }
text_of (Argument.Text y) = y
text_of (Argument.Wrong y) = record { start = 0; end = 0 }

-- the number of what is wrong, if something is
abbrev pub wrong_of : Argument → Option ℕ
wrong_of Argument.Nothing = None
wrong_of (Argument.Name y) = None
wrong_of (Argument.Operand y) = None
wrong_of (Argument.Literal y) = None
wrong_of (Argument.Letters y) = None
wrong_of (Argument.Number y) = None
wrong_of (Argument.Comparison y) = None
wrong_of (Argument.Text y) = None
wrong_of (Argument.Wrong y) = Some (number_of y)
