-- 01, Packages and replies: the rows as numbers, four a row, for a caller who lends numbers and no rows. "Rows past
-- the last are unchanged". Assumes nothing.
use Rattle.std.proofs.Common.{ap}
use Rattle.std.specs.Prelude.{Ok, Err}
use Rattle.std.specs.Prelude.{◌≡◌, cond, List, [], ◌∷◌, ◌++◌, ℕ, ◌+◌, ◌*◌, ◌/◌, eqb, ltb, length, get_or}
use Rattle.text.specs.Put.{put}
use Rattle.reply_line.specs.declared.RowKind.{RowKind}
use Rattle.reply_line.specs.Line.{letter_of}
use Rattle.reply.specs.declared.Row.{Row}
use Rattle.reply.specs.Reply.{Answer, verdict, meaning, outcome_of}
use Rattle.reply.specs.Rows.{script_row, rows_of}

-- a row's numbers: the letter of its kind, its code, its parent row, its packages
unfoldable pub four_of : Row → List ℕ
four_of r = letter_of r.kind ∷ r.mark ∷ r.parent ∷ r.packages ∷ []

unfoldable pub listed : List Row → List ℕ
unfolding four_of
listed [] = []
listed (r ∷ rows) = four_of r ++ listed rows

-- so many rows have room in the lent numbers
abbrev pub room_in : List ℕ → ℕ
room_in lent = length lent / 4

pub same_room : (xs ys : List ℕ) → length xs ≡ length ys → room_in xs ≡ room_in ys
same_room xs ys same = ap (λ (n : ℕ). n / 4) same

-- what becomes of the lent numbers: read, the rows' in front and the others as they were; refused, all as they were
unfoldable pub numbers_after : Answer → List Row → List ℕ → List ℕ
unfolding listed
numbers_after (Ok read) rows lent = put lent 0 (listed rows)
numbers_after (Err refused) rows lent = lent

unfoldable pub numbers_of : List ℕ → List ℕ → List ℕ
unfolding numbers_after verdict rows_of
numbers_of s lent = numbers_after (verdict (room_in lent) s) (rows_of (room_in lent) s) lent

-- the reply s was read into the lent numbers: r is the answer, and out what they then are
pub record ReadNumbers (s lent : List ℕ) (r : Answer) (out : List ℕ) : Type 0 where
  pub says : meaning r ≡ outcome_of (room_in lent) s
  pub numbers : out ≡ numbers_of s lent

-- ---- a row read back from its numbers

unfoldable pub kind_of : ℕ → RowKind
unfolding letter_of
kind_of letter =
    cond (eqb letter (letter_of RowKind.Sweep)) RowKind.Sweep
    (cond (eqb letter (letter_of RowKind.Loop)) RowKind.Loop
    (cond (eqb letter (letter_of RowKind.Scan)) RowKind.Scan RowKind.Script))

unfoldable pub row_at : List ℕ → ℕ → Row
unfolding kind_of
row_at lent at =
    record {
      kind = kind_of (get_or lent (at * 4) 0);
      mark = get_or lent (at * 4 + 1) 0;
      parent = get_or lent (at * 4 + 2) 0;
      packages = get_or lent (at * 4 + 3) 0;
    }

-- where there is no such place, the script's empty row
unfoldable pub row_in : List ℕ → ℕ → Row
unfolding row_at
row_in lent at = cond (ltb at (room_in lent)) (row_at lent at) script_row
