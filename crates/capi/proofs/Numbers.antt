-- Laws of the reply's numbers: what the code puts together from an answer and from lent numbers is the definition.
-- Assumes nothing.
use Rattle.std.proofs.Common.{Ok}
use mathlib.Core.Path.{◌≡◌, sym, ◌∙◌, ap}
use mathlib.Core.Bool.{Bool, cond}
use mathlib.Core.List.{List}
use Prim.Native.Nat.{ℕ, ◌/◌, ◌<◌, ◌≤◌}
use lib.ListN.{get_or, replicate, length-replicate}
use borrow.Author.Tests.{lt-ltb, le-ltb}
use Rattle.reply_line.specs.declared.Refusal.{Refusal}
use Rattle.reply_line.specs.Line.{number_of}
use Rattle.reply.specs.declared.Read.{Read}
use Rattle.reply.specs.declared.Row.{Row}
use Rattle.reply.specs.Reply.{Answer, Outcome, answered, meaning, outcome_of, refused_at}
use Rattle.reply.specs.Rows.{script_row, rows_of}
use Rattle.reply.specs.Numbers.{room_in, numbers_of, row_in}
use Rattle.reply.proofs.Listing.{row_listed}
use Rattle.capi.specs.declared.replies.SatvRow.{SatvRow}
use Rattle.capi.specs.Replies.{reply_numbers, no_row, row_fields, row_of, row_numbers}

-- ---- a reply's result

pub told_read : (v : Answer) (r : Read) → v ≡ Ok r
    → record { result = 0; code = r.code; line = 0; used = r.used; rows = r.rows } ≡ reply_numbers (meaning v)
unfolding reply_numbers meaning
told_read v r e = sym (ap (λ (a : Answer). reply_numbers (meaning a)) e)

pub told_refused : (v : Answer) (w : Refusal) (k m : ℕ) → v ≡ refused_at w k → m ≡ number_of w
    → record { result = m; code = 0; line = k; used = 0; rows = 0 } ≡ reply_numbers (meaning v)
unfolding reply_numbers meaning
told_refused v w k m e p =
    ap (λ (z : ℕ). record { result = z; code = 0; line = k; used = 0; rows = 0 }) p
    ∙ sym (ap (λ (a : Answer). reply_numbers (meaning a)) e)

-- ---- one row of it, from numbers that have room for 1,024

abbrev pub zeros : List ℕ
zeros = replicate 4096 0

pub room_for_rows : room_in zeros ≡ 1024
room_for_rows = ap (λ (n : ℕ). n / 4) (length-replicate {A = ℕ} 4096 0)

module _ (s lent : List ℕ) (v : Answer) (row : ℕ) (f : SatvRow) (room : room_in lent ≡ 1024)
    (says : meaning v ≡ outcome_of (room_in lent) s) where
  row_as : (w : Answer) → v ≡ w → row_of (meaning w) (rows_of 1024 s) row ≡ row_numbers s row
  unfolding row_numbers
  row_as w e =
      ap (λ (a : Answer). row_of (meaning a) (rows_of 1024 s) row) (sym e)
      ∙ ap (λ (o : Outcome). row_of o (rows_of 1024 s) row) (says ∙ ap (λ (n : ℕ). outcome_of n s) room)

  pub is_row : (c u n : ℕ) (out : List ℕ) (r : Row) → v ≡ answered c u n → row < n
      → out ≡ numbers_of s lent
      → r ≡ row_in out row → f ≡ row_fields r → f ≡ row_numbers s row
  unfolding row_of meaning
  is_row c u n out r e h left is told =
      told ∙ ap row_fields (is ∙ ap (λ (l : List ℕ). row_in l row) left ∙ row_listed s lent v c u n row says e h)
      ∙ ap (λ (m : ℕ). row_fields (get_or (rows_of m s) row script_row)) room
      ∙ sym
      (ap (λ (b : Bool). cond b (row_fields (get_or (rows_of 1024 s) row script_row)) (no_row 56 0)) (lt-ltb row n h))
      ∙ row_as (answered c u n) e

  pub is_no_row : (c u n : ℕ) → v ≡ answered c u n → n ≤ row → f ≡ no_row 56 0
      → f ≡ row_numbers s row
  unfolding row_of meaning
  is_no_row c u n e h told =
      told
      ∙ sym
      (ap (λ (b : Bool). cond b (row_fields (get_or (rows_of 1024 s) row script_row)) (no_row 56 0)) (le-ltb row n h))
      ∙ row_as (answered c u n) e

  pub is_row_refused : (w : Refusal) (k m : ℕ) → v ≡ refused_at w k → m ≡ number_of w → f ≡ no_row m k
      → f ≡ row_numbers s row
  unfolding row_of meaning
  is_row_refused w k m e p told = told ∙ ap (λ (z : ℕ). no_row z k) p ∙ row_as (refused_at w k) e
