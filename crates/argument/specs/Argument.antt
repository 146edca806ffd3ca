-- 01, "Script text": what an argument's word says where a form is asked, and what is wrong with it.
-- v is a name, x a name or literal, f a float x (its kind is judged later), t a type, n digits 0 to 255.
use Rattle.std.specs.Prelude.{Option, Some, None, Ok, Err}
use Rattle.std.specs.Prelude.{◌≡◌, Bool, true, false, cond, List, [], ◌∷◌, ℕ, ◌+◌, ◌≤◌, ltb, eqb, length, drop, get_or}
use Rattle.text.specs.Cut.{before}
use Rattle.value.specs.declared.Comparison.{Comparison}
use Rattle.value.specs.Literal.{Literal, literal as read_literal}
use Rattle.table.specs.declared.Operand.TheVariants as Operand
use Rattle.word.specs.declared.Class.TheVariants as Class
use Rattle.text.specs.Bytes.{byte, ascii}
use Rattle.word.specs.Word.{run, word_at, part, name_form, read_type, small_of as read_number, padded, seek}
use Rattle.argument.specs.declared.Refusal.TheVariants as Refusal
pub use Rattle.argument.specs.declared.Form.{Form}
pub use Rattle.argument.specs.declared.Form.TheVariants as Form
pub use Rattle.argument.specs.declared.Argument.{Argument}
pub use Rattle.argument.specs.declared.Argument.TheVariants as Argument
pub use Rattle.argument.specs.declared.Said.{Said}

-- ---- what a word says where a form is asked; a missing word is an empty one

unfoldable pub empty_said : List ℕ → Argument
empty_said w = cond (eqb (length w) 0) Argument.Nothing (Argument.Wrong Refusal.BadArguments)

abbrev pub known : Option ℕ → Argument
known (Some i) = Argument.Name i
known None = Argument.Wrong Refusal.Undeclared

-- a name that was declared on an earlier line
unfoldable pub name_said : List (List ℕ) → List ℕ → Argument
name_said names w = cond (name_form w) (known (seek names w)) (Argument.Wrong Refusal.BadArguments)

abbrev pub fresh : ℕ → Option ℕ → Argument
fresh n (Some i) = Argument.Wrong Refusal.DeclaredTwice
fresh n None = cond (ltb n 32) (Argument.Name n) (Argument.Wrong Refusal.TooManyNames)

-- a name that is new, with its number
unfoldable pub new_said : List (List ℕ) → List ℕ → Argument
new_said names w = cond (name_form w) (fresh (length names) (seek names w)) (Argument.Wrong Refusal.BadArguments)

abbrev pub valued_by : Literal → Argument
valued_by (Ok (v, i)) = Argument.Literal v
valued_by (Err i) = Argument.Wrong Refusal.BadArguments

unfoldable pub literal_said : List ℕ → Argument
literal_said w = valued_by (read_literal w)

abbrev pub known_operand : Option ℕ → Argument
known_operand (Some i) = Argument.Operand (Operand.Name i)
known_operand None = Argument.Wrong Refusal.Undeclared

abbrev pub literal_operand : Literal → Argument
literal_operand (Ok (v, i)) = Argument.Operand (Operand.Literal v)
literal_operand (Err i) = Argument.Wrong Refusal.BadArguments

unfoldable pub operand_said : List (List ℕ) → List ℕ → Argument
operand_said names w = cond (name_form w) (known_operand (seek names w)) (literal_operand (read_literal w))

abbrev pub lettered_by : Option ℕ → Argument
lettered_by (Some t) = Argument.Letters t
lettered_by None = Argument.Wrong Refusal.BadArguments

unfoldable pub type_said : List ℕ → Argument
type_said w = lettered_by (read_type w)

abbrev pub numbered_by : Option ℕ → Argument
numbered_by (Some n) = Argument.Number n
numbered_by None = Argument.Wrong Refusal.BadArguments

unfoldable pub number_said : List ℕ → Argument
number_said w = numbered_by (read_number w)

unfoldable pub signs : List (List ℕ)
signs =
    padded (ascii "==") ∷ padded (ascii "!=") ∷ padded (ascii "<") ∷ padded (ascii "<=")
    ∷ padded (ascii ">") ∷ padded (ascii ">=") ∷ []

abbrev pub comparisons : List Comparison
comparisons =
    Comparison.Equal ∷ Comparison.Unequal ∷ Comparison.Less ∷ Comparison.AtMost ∷ Comparison.Greater
    ∷ Comparison.AtLeast ∷ []

unfoldable pub comparison_at : ℕ → Comparison
comparison_at i = get_or comparisons i Comparison.AtLeast

abbrev pub compared_by : Option ℕ → Argument
compared_by (Some i) = Argument.Comparison (comparison_at i)
compared_by None = Argument.Wrong Refusal.BadArguments

unfoldable pub comparison_said : List ℕ → Argument
comparison_said w = compared_by (seek signs w)

unfoldable pub said : Form → List (List ℕ) → List ℕ → Argument
said Form.Nothing names w = empty_said w
said Form.New names w = new_said names w
said Form.Name names w = name_said names w
said Form.Operand names w = operand_said names w
said Form.Literal names w = literal_said w
said Form.Letters names w = type_said w
said Form.Number names w = number_said w
said Form.Comparison names w = comparison_said w
said Form.Text names w = Argument.Wrong Refusal.BadArguments

-- ---- the text of send_string: a quote, bytes without quote, a quote

abbrev pub stopped : Argument → ℕ → Said
stopped x n = record { argument = x; stop = n }

-- a text that begins at f and whose quote is at q
abbrev pub closed_at : List ℕ → ℕ → ℕ → Said
closed_at line f q =
    cond (ltb q (length line))
    (stopped (Argument.Text (record { start = f; end = q })) (q + 1))
    (stopped (Argument.Wrong Refusal.BadArguments) (length line))

abbrev pub after_quote : List ℕ → ℕ → Said
after_quote line f = closed_at line f (f + before (byte "\"") (drop f line))

abbrev pub text_from : List ℕ → ℕ → Said
text_from line f =
    cond (eqb (get_or line f 0) (byte "\"")) (after_quote line (f + 1))
    (stopped (Argument.Wrong Refusal.BadArguments) (length line))

unfoldable pub text_at : List ℕ → ℕ → Said
text_at line i = text_from line (i + run Class.Blank (drop i line))

abbrev pub is_text : Form → Bool
is_text Form.Nothing = false
is_text Form.New = false
is_text Form.Name = false
is_text Form.Operand = false
is_text Form.Literal = false
is_text Form.Letters = false
is_text Form.Number = false
is_text Form.Comparison = false
is_text Form.Text = true

-- ---- the argument that begins at a place, and where it stops

unfoldable pub said_at : List (List ℕ) → List ℕ → Form → ℕ → Said
said_at names line form i =
    cond (is_text form) (text_at line i) (stopped (said form names (part line (word_at line i))) (word_at line i).end)

-- r is that argument, and one that begins within the line stops within it
pub record SaysAt (names : List (List ℕ)) (line : List ℕ) (form : Form) (i : ℕ) (r : Said) : Type 0 where
  pub says : r ≡ said_at names line form i
  pub inside : i ≤ length line → r.stop ≤ length line
