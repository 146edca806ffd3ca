-- 01, Packages and replies, with 02's scans: what a line of a reply does. Assumes nothing.
use Rattle.std.specs.Prelude.{Bool, false, cond, not, List, [], ◌∷◌, ℕ, ◌+◌, leb, ltb, eqb, length}
use Rattle.reply_line.specs.declared.RowKind.{RowKind}
use Rattle.reply_line.specs.declared.Refusal.{Refusal}
use Rattle.reply_line.specs.declared.Line.{Line}
use Rattle.reply_line.specs.Line.{letter_of}
use Rattle.reply_step.specs.Move.{Move}

-- the kinds of what is open, innermost first, and how many rows there are
pub record Open : Type 0 where
  pub around : List RowKind
  pub rows : ℕ

-- before the first line: the script's row alone
abbrev pub begun : Open
begun = record { around = []; rows = 1 }

-- where a line leads, and what is open then
pub record Next : Type 0 where
  pub to : Move
  pub state : Open

abbrev pub goes : Move → Open → Next
goes m st = record { to = m; state = st }

abbrev pub refused : Refusal → Open → Next
refused r st = goes (Move.Refused r) st

abbrev pub same_kind : RowKind → RowKind → Bool
same_kind k l = eqb (letter_of k) (letter_of l)

-- where nothing is open, a line stands in the script
abbrev pub innermost : List RowKind → RowKind
innermost [] = RowKind.Script
innermost (l ∷ ls) = l

-- 02: "a scan stands only directly inside a measuring loop, holds no loop": what may open inside what
unfoldable pub may_open : RowKind → List RowKind → Bool
unfolding letter_of
may_open k ls =
    cond (same_kind k RowKind.Scan) (same_kind (innermost ls) RowKind.Sweep)
    (not (same_kind (innermost ls) RowKind.Scan))

-- "closing mark without its mate": the innermost that is open must be of the mark's kind
unfoldable pub closes : RowKind → List RowKind → Bool
unfolding letter_of
closes k [] = false
closes k (l ∷ ls) = same_kind l k

-- "ninth open loop", and 02: a scan "counts as open for 53"
abbrev pub most_open : ℕ
most_open = 8

abbrev pub outer : List RowKind → List RowKind
outer [] = []
outer (l ∷ ls) = ls

abbrev pub opened : RowKind → Open → Open
opened k st = record { around = k ∷ st.around; rows = st.rows + 1 }

abbrev pub closed : Open → Open
closed st = record { around = outer st.around; rows = st.rows }

-- "Within a line the tests run 51, 40, 41, 52, 53, 54": what the line is by itself comes first
unfoldable pub step : ℕ → Line → Open → Next
unfolding may_open closes
step n Line.Quiet st = goes Move.On st
step n Line.Empty st = cond (leb 1 (length st.around)) (refused Refusal.OutOfPlace st) (goes (Move.Ends 0) st)
step n Line.Package st = goes Move.On st
step n (Line.Opens k v) st =
    cond (may_open k st.around)
    (cond (ltb (length st.around) most_open)
    (cond (ltb st.rows n) (goes Move.On (opened k st)) (refused Refusal.ShortTable st))
    (refused Refusal.NinthOpen st))
    (refused Refusal.OutOfPlace st)
step n (Line.Closes k) st = cond (closes k st.around) (goes Move.On (closed st)) (refused Refusal.OutOfPlace st)
step n (Line.Error v) st = goes (Move.Ends v) st
step n (Line.Refused r) st = refused r st
