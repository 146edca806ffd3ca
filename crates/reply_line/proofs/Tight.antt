-- No second answer fits a contract of this crate. Assumes nothing.
use mathlib.Core.Bool.{true}
use mathlib.Core.List.{List}
use mathlib.Core.Path.{◌≡◌, sym, ◌∙◌}
use Prim.Native.Nat.{ℕ}
use Rattle.package.specs.declared.Refusal as packages
use Rattle.reply_line.specs.Code.{later_by, of_package}
use Rattle.reply_line.specs.declared.RowKind.{RowKind}
use Rattle.reply_line.specs.declared.Line.{Line}
use Rattle.reply_line.specs.declared.Refusal.{Refusal}
use Rattle.reply_line.specs.Line.{number_of, letter_of, line_at}

pub only_u8_from_refusal : (why : Refusal) (a b : ℕ) → a ≡ number_of why → b ≡ number_of why → a ≡ b
only_u8_from_refusal why a b p q = p ∙ sym q

pub only_u8_from_row_kind : (kind : RowKind) (a b : ℕ) → a ≡ letter_of kind → b ≡ letter_of kind → a ≡ b
only_u8_from_row_kind kind a b p q = p ∙ sym q

pub only_refusal_from_package_refusal : (why : packages.Refusal) (a b : Refusal) → a ≡ of_package why
    → b ≡ of_package why → a ≡ b
only_refusal_from_package_refusal why a b p q = p ∙ sym q

pub only_line_at : (s : List ℕ) (k n : ℕ) (a b : Line) → a ≡ line_at n k s → b ≡ line_at n k s → a ≡ b
only_line_at s k n a b p q = p ∙ sym q

pub only_known_line : (s : List ℕ) (a b : Line) → a ≡ later_by true s → b ≡ later_by true s → a ≡ b
only_known_line s a b p q = p ∙ sym q
