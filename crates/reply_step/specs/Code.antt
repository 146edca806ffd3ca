-- What only the code's shape needs: the step on the array and the depth. Assumes nothing.
use Rattle.std.specs.Prelude.{Result, Ok, Err, cond, ℕ, ◌+◌, ◌-◌, leb, ltb, set}
use Rattle.reply_line.specs.declared.RowKind.{RowKind}
use Rattle.reply_line.specs.declared.Refusal.{Refusal}
use Rattle.reply_line.specs.declared.Line.{Line}
use Rattle.reply_step.specs.declared.Step.{Step}
use Rattle.reply_step.specs.Step.{may_open, closes, most_open}
use Rattle.reply_step.specs.Meaning.{kinds}
use Rattle.reply_step.specs.declared.Open as coded

abbrev pub push_in : RowKind → coded.Open → coded.Open
push_in k st = record { around = set st.around st.depth k; depth = st.depth + 1; rows = st.rows + 1 }

abbrev pub pop_in : coded.Open → coded.Open
pop_in st = record { around = st.around; depth = st.depth - 1; rows = st.rows }

abbrev pub end_in : coded.Open → Result Step Refusal
end_in st = cond (leb 1 st.depth) (Err Refusal.OutOfPlace) (Ok (Step.Ends 0))

abbrev pub open_in : ℕ → RowKind → coded.Open → Result Step Refusal
open_in n k st =
    cond (may_open k (kinds st))
    (cond (ltb st.depth most_open)
    (cond (ltb st.rows n) (Ok (Step.On (push_in k st))) (Err Refusal.ShortTable))
    (Err Refusal.NinthOpen))
    (Err Refusal.OutOfPlace)

abbrev pub close_in : RowKind → coded.Open → Result Step Refusal
close_in k st = cond (closes k (kinds st)) (Ok (Step.On (pop_in st))) (Err Refusal.OutOfPlace)

unfoldable pub step_in : ℕ → Line → coded.Open → Result Step Refusal
step_in n Line.Quiet st = Ok (Step.On st)
step_in n Line.Empty st = end_in st
step_in n Line.Package st = Ok (Step.On st)
step_in n (Line.Opens k v) st = open_in n k st
step_in n (Line.Closes k) st = close_in k st
step_in n (Line.Error v) st = Ok (Step.Ends v)
step_in n (Line.Refused r) st = Err r
