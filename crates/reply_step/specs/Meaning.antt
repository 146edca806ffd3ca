-- What the code's state and step stand for, and what a step leaves of the state to the last place of its array. Assumes
-- nothing.
use Rattle.std.specs.Prelude.{Result, Ok, Err}
use Rattle.std.specs.Prelude.{List, ◌≡◌, ℕ, set, replicate}
use Rattle.laws.specs.Stack.{stack}
use Rattle.reply_line.specs.declared.RowKind.{RowKind}
use Rattle.reply_line.specs.declared.Line.{Line}
use Rattle.reply_line.specs.declared.Refusal.{Refusal}
use Rattle.reply_step.specs.declared.Step.{Step}
use Rattle.reply_step.specs.Move as Move
use Rattle.reply_step.specs.Step.{Open, Next, goes, refused, most_open, step}
use Rattle.reply_step.specs.declared.Open as coded

-- what stands past the array
abbrev pub not_open : RowKind
not_open = RowKind.Script

-- what is open: the array up to the depth, the last in front
abbrev pub kinds : coded.Open → List RowKind
kinds st = stack not_open st.around st.depth

abbrev pub meant : coded.Open → Open
meant st = record { around = kinds st; rows = st.rows }

-- a line that does not lead on leaves open what was
abbrev pub stepped : coded.Open → Result Step Refusal → Next
stepped st (Ok (Step.On s)) = goes Move.On (meant s)
stepped st (Ok (Step.Ends v)) = goes (Move.Ends v) (meant st)
stepped st (Err r) = refused r (meant st)

-- before the first line
abbrev pub bare : coded.Open
bare = record { around = replicate most_open not_open; depth = 0; rows = 1 }

-- ---- the array

-- an opening mark lays its loop behind the others
unfoldable pub laid : Line → coded.Open → List RowKind
laid (Line.Opens k v) st = set st.around st.depth k
laid Line.Quiet st = st.around
laid Line.Empty st = st.around
laid Line.Package st = st.around
laid (Line.Closes k) st = st.around
laid (Line.Error v) st = st.around
laid (Line.Refused r) st = st.around

-- r is what the line l does from st, with n rows to write; where it leads on, to the last place of the array
pub record Steps (n : ℕ) (l : Line) (st : coded.Open) (r : Result Step Refusal) : Type 0 where
  pub means : stepped st r ≡ step n l (meant st)
  pub array : (s : coded.Open) → r ≡ Ok (Step.On s) → s.around ≡ laid l st
