-- Laws of the judgement of a line. Assumes nothing.
use Rattle.std.proofs.Common.{Option, Some, None}
use mathlib.Core.Path.{◌≡◌, refl, sym, ◌∙◌, ap}
use mathlib.Core.List.{List}
use Prim.Native.Nat.{ℕ, ◌<◌}
use native.Mathlib.Omega.{arith}
use Rattle.table.specs.declared.Item.{Item}
use Rattle.word.specs.declared.Span.{Span}
use Rattle.word.specs.Word.{word_at, part, seek}
use Rattle.argument.specs.declared.Refusal.{Refusal}
use Rattle.argument.specs.Refusal.{number_of}
use Rattle.argument.specs.declared.Argument.{Argument}
use Rattle.argument.specs.Holds.{wrong_of}
use Rattle.line.specs.Command.{Arguments, item_of, command_words, command_at}
use Rattle.line.specs.Line.{item, refused, arguments_at, lowest, verdict, judged}

-- ---- what an argument says is wrong with it

below : (r : Refusal) → number_of r < 19
unfolding number_of
below Refusal.TooLong = omega arith
below Refusal.NoEnd = omega arith
below Refusal.LongLine = omega arith
below Refusal.TooManyItems = omega arith
below Refusal.UnknownCommand = omega arith
below Refusal.BadArguments = omega arith
below Refusal.Undeclared = omega arith
below Refusal.DeclaredTwice = omega arith
below Refusal.TooManyNames = omega arith

-- a number of form, if there is one
abbrev OfForm : Option ℕ → Type 0
OfForm None = Unit {0}
OfForm (Some n) = n < 19

of_form : (x : Argument) → OfForm (wrong_of x)
of_form Argument.Nothing = tt
of_form (Argument.Name y) = tt
of_form (Argument.Operand y) = tt
of_form (Argument.Literal y) = tt
of_form (Argument.Letters y) = tt
of_form (Argument.Number y) = tt
of_form (Argument.Comparison y) = tt
of_form (Argument.Text y) = tt
of_form (Argument.Wrong y) = below y

not_wrong : (y : Argument) → ((r : Refusal) → y ≡ Argument.Wrong r → ⊥) → wrong_of y ≡ None
not_wrong Argument.Nothing k = refl
not_wrong (Argument.Name y) k = refl
not_wrong (Argument.Operand y) k = refl
not_wrong (Argument.Literal y) k = refl
not_wrong (Argument.Letters y) k = refl
not_wrong (Argument.Number y) k = refl
not_wrong (Argument.Comparison y) k = refl
not_wrong (Argument.Text y) k = refl
not_wrong (Argument.Wrong y) k = absurd (k y refl)

-- ---- the judgement

pub unknown : (names : List (List ℕ)) (line : List ℕ) (i : ℕ) (w : Span)
    → w ≡ word_at line i → seek command_words (part line w) ≡ None → refused 14 ≡ judged names line i
unfolding judged
unknown names line i w e f = rw (← e, f) refl

-- a line whose word w is the command of row k, with what its arguments say
pub record Asked (names : List (List ℕ)) (line : List ℕ) (i : ℕ) (w : Span) (k : ℕ) (x : Arguments) : Type 0 where
  pub word : w ≡ word_at line i
  pub row : seek command_words (part line w) ≡ Some k
  pub says : x ≡ arguments_at names line (command_at k).shape w.end

known : {names : List (List ℕ)} {line : List ℕ} {i k : ℕ} {w : Span} {x : Arguments}
    → Asked names line i w k x → judged names line i ≡ verdict (command_at k) x
unfolding judged
known q = rw (← q.word, q.row, q.says) refl

-- something is wrong with an argument
pub faulty : {names : List (List ℕ)} {line : List ℕ} {i k : ℕ} {w : Span} {x : Arguments}
    → Asked names line i w k x → (r : Refusal) → Some (number_of r) ≡ lowest x
    → refused (number_of r) ≡ judged names line i
faulty q r e = sym (known q ∙ rw (sym e) refl)

-- nothing is
pub good : {names : List (List ℕ)} {line : List ℕ} {i k : ℕ} {w : Span} {x : Arguments}
    → Asked names line i w k x → (it : Item) → None ≡ lowest x
    → it ≡ item_of (command_at k).make x → item it ≡ judged names line i
good q it e g = ap item g ∙ sym (known q ∙ rw (sym e) refl)
