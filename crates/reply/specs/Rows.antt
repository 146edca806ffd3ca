-- 01, Packages and replies: the rows. "row 0 is the script, then one row a loop in opening order, with kind, code,
-- parent row and packages directly inside"; and one row a scan, as 02 has it. Assumes nothing.
use Rattle.std.specs.Prelude.{Ok, Err}
use Rattle.std.specs.Prelude.{◌≡◌, List, [], ◌∷◌, ◌++◌, ℕ, ◌+◌, length, get_or, set, drop, replicate}
use Rattle.text.specs.Cut.{lines}
use Rattle.reply_line.specs.declared.RowKind.{RowKind}
use Rattle.reply_line.specs.declared.Line.{Line}
use Rattle.reply_line.specs.Line.{line_at}
use Rattle.reply_step.specs.Move.{Move}
use Rattle.reply_step.specs.Step.{Open, begun, step}
use Rattle.reply.specs.declared.Row.{Row}
use Rattle.reply.specs.declared.RowTable.{RowTable}
use Rattle.reply.specs.Reply.{Answer, verdict, Outcome, meaning, outcome_of}

-- the script's row, its own parent, "S and L have code 0000"
abbrev pub script_row : Row
script_row = record { kind = RowKind.Script; mark = 0; parent = 0; packages = 0 }

abbrev pub new_row : RowKind → ℕ → ℕ → Row
new_row k v up = record { kind = k; mark = v; parent = up; packages = 0 }

abbrev pub raised : Row → Row
raised r = record { kind = r.kind; mark = r.mark; parent = r.parent; packages = r.packages + 1 }

-- what a line makes of the rows, where `at` is the holder: an opening mark appends one, whose parent that is, and a
-- package is counted in it
unfoldable pub rows_after : Line → ℕ → List Row → List Row
rows_after Line.Quiet at rows = rows
rows_after Line.Empty at rows = rows
rows_after Line.Package at rows = set rows at (raised (get_or rows at script_row))
rows_after (Line.Opens k v) at rows = rows ++ (new_row k v at ∷ [])
rows_after (Line.Closes k) at rows = rows
rows_after (Line.Error v) at rows = rows
rows_after (Line.Refused r) at rows = rows

-- the holder, the row that the next line stands in: an opening mark leads into its own row, a closing mark back to the
-- parent
unfoldable pub holder_after : Line → ℕ → List Row → ℕ
holder_after Line.Quiet at rows = at
holder_after Line.Empty at rows = at
holder_after Line.Package at rows = at
holder_after (Line.Opens k v) at rows = length rows
holder_after (Line.Closes k) at rows = (get_or rows at script_row).parent
holder_after (Line.Error v) at rows = at
holder_after (Line.Refused r) at rows = at

-- up to the line that ends the reply
abbrev pub while_on : {X : Type 0} → Move → X → X → X
while_on Move.On more done = more
while_on (Move.Ends v) more done = done
while_on (Move.Refused r) more done = done

unfoldable pub rows_from : ℕ → ℕ → Open → ℕ → List Row → List (List ℕ) → List Row
unfolding rows_after holder_after
rows_from n k o at rows [] = rows
rows_from n k o at rows (l ∷ ls) =
    while_on (step n (line_at n k l) o).to
    (rows_from n (k + 1) (step n (line_at n k l) o).state (holder_after (line_at n k l) at rows)
    (rows_after (line_at n k l) at rows) ls) rows

-- the rows of a reply that is read: its first line makes the script's
unfoldable pub rows_of : ℕ → List ℕ → List Row
unfolding rows_from
rows_of n s = rows_from n 1 begun 0 (script_row ∷ []) (lines s)

-- ---- what becomes of the lent rows ys: "Rows past the last are unchanged"; refused, no row is changed

unfoldable pub over : List Row → List Row → List Row
over rows ys = rows ++ drop (length rows) ys

unfoldable pub lent_after : Answer → List Row → List Row → List Row
unfolding over
lent_after (Ok read) rows ys = over rows ys
lent_after (Err refused) rows ys = ys

unfoldable pub table_of : List ℕ → List Row → List Row
unfolding lent_after verdict rows_of
table_of s ys = lent_after (verdict (length ys) s) (rows_of (length ys) s) ys

-- the reply s was read into the lent rows ys: r is the answer, and out what they then are
pub record ReadRows (s : List ℕ) (ys : List Row) (r : Answer) (out : List Row) : Type 0 where
  pub says : meaning r ≡ outcome_of (length ys) s
  pub rows : out ≡ table_of s ys

-- ---- a table of 1,024 rows by value: what it holds, and the answer

pub record Tabled : Type 0 where
  pub outcome : Outcome
  pub rows : List Row

unfoldable pub table_meaning : RowTable → Tabled
unfolding meaning
table_meaning t = record { outcome = meaning t.answer; rows = t.rows }

unfoldable pub read_table : List ℕ → Tabled
unfolding outcome_of table_of
read_table s = record { outcome = outcome_of 1024 s; rows = table_of s (replicate 1024 script_row) }

-- ---- the lines that are read, up to the one that ends the reply, and how many are opening marks and packages

unfoldable pub seen_from : ℕ → ℕ → Open → List (List ℕ) → List Line
seen_from n k st [] = []
seen_from n k st (l ∷ ls) =
    while_on (step n (line_at n k l) st).to
    (line_at n k l ∷ seen_from n (k + 1) (step n (line_at n k l) st).state ls) []

unfoldable pub seen_in : ℕ → List ℕ → List Line
unfolding seen_from
seen_in n s = seen_from n 1 begun (lines s)

unfoldable pub is_opening : Line → ℕ
is_opening Line.Quiet = 0
is_opening Line.Empty = 0
is_opening Line.Package = 0
is_opening (Line.Opens k v) = 1
is_opening (Line.Closes k) = 0
is_opening (Line.Error v) = 0
is_opening (Line.Refused r) = 0

-- the kind and the code of an opening mark
unfoldable pub opens : Line → List (RowKind × ℕ)
opens Line.Quiet = []
opens Line.Empty = []
opens Line.Package = []
opens (Line.Opens k v) = (k, v) ∷ []
opens (Line.Closes k) = []
opens (Line.Error v) = []
opens (Line.Refused r) = []

unfoldable pub openings : List Line → List (RowKind × ℕ)
unfolding opens
openings [] = []
openings (l ∷ ls) = opens l ++ openings ls

unfoldable pub is_package : Line → ℕ
is_package Line.Quiet = 0
is_package Line.Empty = 0
is_package Line.Package = 1
is_package (Line.Opens k v) = 0
is_package (Line.Closes k) = 0
is_package (Line.Error v) = 0
is_package (Line.Refused r) = 0

unfoldable pub count_by : (Line → ℕ) → List Line → ℕ
count_by f [] = 0
count_by f (l ∷ ls) = f l + count_by f ls

unfoldable pub packages_of : List Row → ℕ
packages_of [] = 0
packages_of (r ∷ rs) = r.packages + packages_of rs
