-- What only the code's shape needs: the second pass over a reply that is known to be good, which row a line is about,
-- what becomes of it, and the pass turn by turn, over rows and over numbers. Assumes nothing.
use Rattle.std.specs.Prelude.{◌≡◌, Option, Some, None, Ok, Err}
use Rattle.std.specs.Prelude.{true, cond, List, [], ◌∷◌, ℕ, zero, suc, ◌+◌, ◌-◌, ◌*◌, ◌%◌, ltb, take, drop, get_or, set}
use Rattle.text.specs.Put.{put}
use Rattle.reply_line.specs.declared.RowKind.TheVariants as RowKind
use Rattle.reply_line.specs.declared.Line.{Line}
use Rattle.reply_line.specs.Line.{letter_of}
use Rattle.reply_line.specs.Code.{later_by}
use Rattle.reply.specs.declared.NextLine.{NextLine}
use Rattle.reply.specs.declared.Row.{Row}
use Rattle.reply.specs.declared.Seen.{Seen}
use Rattle.reply.specs.declared.Stand.{Stand}
use Rattle.reply.specs.declared.Change.{Change}
use Rattle.reply.specs.declared.Turn.{Turn}
use Rattle.reply.specs.Reply.{Answer, verdict}
use Rattle.reply.specs.Rows.{script_row, new_row}
use Rattle.reply.specs.Lines.{next_line}
use Rattle.reply.specs.Numbers.{row_in}

-- ---- a line of a reply that is known to be good

-- the line at a place, and where the next one starts; with no line left, the end
abbrev pub seen_of : List ℕ → ℕ → Option NextLine → Seen
seen_of s end (Some y) = record { line = later_by true (take (y.end - y.start) (drop y.start s)); next = y.next }
seen_of s end None = record { line = Line.Quiet; next = end }

unfoldable pub seen_at : List ℕ → ℕ → ℕ → Seen
unfolding next_line
seen_at s end at = seen_of s end (next_line s at)

-- ---- which row a line is about, and what becomes of it

unfoldable pub place_by : Line → ℕ → ℕ → ℕ
place_by (Line.Opens k v) holder rows = rows
place_by Line.Quiet holder rows = holder
place_by Line.Empty holder rows = holder
place_by Line.Package holder rows = holder
place_by (Line.Closes k) holder rows = holder
place_by (Line.Error v) holder rows = holder
place_by (Line.Refused r) holder rows = holder

unfoldable pub one_more : ℕ → ℕ
one_more count = cond (ltb count 65536) (count + 1) count

unfoldable pub raised_row : Row → Row
unfolding one_more
raised_row old = record { kind = old.kind; mark = old.mark; parent = old.parent; packages = one_more old.packages }

abbrev pub change : Row → ℕ → ℕ → Change
change row holder rows = record { row = row; holder = holder; rows = rows }

unfoldable pub change_by : Line → ℕ → ℕ → Row → Change
unfolding one_more raised_row
change_by (Line.Opens k v) holder rows old = change (new_row k v holder) rows (one_more rows)
change_by (Line.Closes k) holder rows old = change old old.parent rows
change_by Line.Package holder rows old = change (raised_row old) holder rows
change_by Line.Quiet holder rows old = change old holder rows
change_by Line.Empty holder rows old = change old holder rows
change_by (Line.Error v) holder rows old = change old holder rows
change_by (Line.Refused r) holder rows old = change old holder rows

-- one of n rows, always
abbrev pub clamp : ℕ → ℕ → ℕ
clamp n p = cond (ltb p n) p 0

-- ---- where the pass stands

-- at the first line, which opens the script's row, with so many bytes to read
abbrev pub begun_at : List ℕ → ℕ → Stand
begun_at s used =
    record {
      pos = 0;
      end = used;
      line = Line.Opens RowKind.Script 0;
      next = (seen_at s used 0).next;
      holder = 0;
      rows = 0;
    }

unfoldable pub place_in : Stand → ℕ → ℕ
unfolding place_by
place_in st n = clamp n (place_by st.line st.holder st.rows)

-- the row, and the stand, after a change, with the next line seen
abbrev pub turn_to : Stand → Change → Seen → Turn
turn_to st c x =
    record {
      row = c.row;
      next = record {
        pos = st.next;
        end = st.end;
        line = x.line;
        next = x.next;
        holder = c.holder;
        rows = c.rows;
      };
    }

unfoldable pub turned : List ℕ → Stand → Row → Turn
unfolding change_by seen_at
turned s st old = turn_to st (change_by st.line st.holder st.rows old) (seen_at s st.end st.next)

-- ---- the pass over a memory of rows: how a row is read from it, and how one is put

pub record Memory (X : Type 0) : Type 0 where
  pub get : X → ℕ → Row
  pub put : X → ℕ → Row → X

module _ {X : Type 0} (m : Memory X) where
  abbrev pub turn_in : List ℕ → ℕ → Stand → X → Turn
  turn_in s n st x = turned s st (m.get x (place_in st n))

  abbrev pub memory_after : List ℕ → ℕ → Stand → X → X
  memory_after s n st x = m.put x (place_in st n) (turn_in s n st x).row

  -- the memory after at most so many turns
  unfoldable pub pass_from : ℕ → List ℕ → ℕ → Stand → X → X
  pass_from zero s n st x = x
  pass_from (suc f) s n st x =
      cond (ltb st.pos st.end) (pass_from f s n (turn_in s n st x).next (memory_after s n st x)) x

  -- over a reply of which so many bytes are read
  abbrev pub whole : List ℕ → ℕ → ℕ → X → X
  whole s n used x = pass_from used s n (begun_at s used) x

  -- what becomes of the memory, by the verdict
  abbrev pub left_by : List ℕ → ℕ → Answer → X → X
  left_by s n (Ok read) x = whole s n read.used x
  left_by s n (Err refused) x = x

-- the reply s was read into the memory lent, with room for n rows: r is the verdict, and out what the memory then is
pub record Passed {X : Type 0} (m : Memory X) (n : ℕ) (s : List ℕ) (lent : X) (r : Answer) (out : X) : Type 0 where
  pub says : r ≡ verdict n s
  pub left : out ≡ left_by m s n r lent

abbrev pub memory : {X : Type 0} → (X → ℕ → Row) → (X → ℕ → Row → X) → Memory X
memory get put = record { get = get; put = put }

-- rows
abbrev pub table : Memory (List Row)
table = record { get = λ ys at. get_or ys at script_row; put = λ ys at r. set ys at r }

-- numbers, four a row; a count in 32 bits
abbrev pub low : ℕ → ℕ
low n = n % 4294967296

unfoldable pub cut_row : Row → List ℕ
cut_row r = letter_of r.kind ∷ r.mark ∷ low r.parent ∷ low r.packages ∷ []

unfoldable pub put_row : List ℕ → ℕ → Row → List ℕ
unfolding cut_row
put_row lent at r = put lent (at * 4) (cut_row r)

abbrev pub fours : Memory (List ℕ)
fours = record { get = row_in; put = put_row }
