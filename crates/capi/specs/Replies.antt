-- 01, Sources: "a reply's result, and one row by number (table of 1,024; 56 last)". Assumes nothing.
use Rattle.std.specs.Prelude.{◌≡◌, cond, List, ℕ, ltb, get_or}
use Rattle.reply_line.specs.Line.{letter_of}
use Rattle.reply.specs.declared.Row.{Row}
use Rattle.reply.specs.Reply.{Outcome, read, refusal, outcome_of}
use Rattle.reply.specs.Rows.{script_row, rows_of}
use Rattle.reply.specs.Numbers.{room_in, numbers_of}
use Rattle.capi.specs.declared.replies.SatvReply.{SatvReply}
use Rattle.capi.specs.declared.replies.SatvRow.{SatvRow}

-- result 0 and the values; or a refusal's number and line
unfoldable pub reply_numbers : Outcome → SatvReply
reply_numbers (read code used rows) = record { result = 0; code = code; line = 0; used = used; rows = rows }
reply_numbers (refusal number line) = record { result = number; code = 0; line = line; used = 0; rows = 0 }

-- all rows, four numbers each: r is the result, for as many rows as the lent numbers have room for, and out what these
-- then are
pub record RowsNumbered (s lent : List ℕ) (r : SatvReply) (out : List ℕ) : Type 0 where
  pub result : r ≡ reply_numbers (outcome_of (room_in lent) s)
  pub numbers : out ≡ numbers_of s lent

abbrev pub no_row : ℕ → ℕ → SatvRow
no_row number line = record { result = number; kind = 0; mark = 0; line = line; parent = 0; packages = 0 }

unfoldable pub row_fields : Row → SatvRow
unfolding letter_of
row_fields r =
    record {
      result = 0;
      kind = letter_of r.kind;
      mark = r.mark;
      line = 0;
      parent = r.parent;
      packages = r.packages;
    }

-- the reader's refusals first; 56, "no such row", last, at place 0
unfoldable pub row_of : Outcome → List Row → ℕ → SatvRow
unfolding row_fields
row_of (read code used count) rows row = cond (ltb row count) (row_fields (get_or rows row script_row)) (no_row 56 0)
row_of (refusal number line) rows row = no_row number line

-- with a table of 1,024 rows
unfoldable pub row_numbers : List ℕ → ℕ → SatvRow
unfolding row_of outcome_of rows_of
row_numbers s row = row_of (outcome_of 1024 s) (rows_of 1024 s) row
