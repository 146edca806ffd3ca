-- 01, Packages and replies: the verdict on a whole reply. Assumes nothing.
use Rattle.std.specs.Prelude.{Result, Ok, Err}
use Rattle.std.specs.Prelude.{cond, List, [], ◌∷◌, ℕ, ◌+◌, leb, length}
use Rattle.text.specs.Cut.{lines}
use Rattle.reply_line.specs.declared.Refusal.{Refusal}
use Rattle.reply_line.specs.Line.{number_of, line_at}
use Rattle.reply_step.specs.Move.{Move}
use Rattle.reply_step.specs.Step.{Open, begun, step}
use Rattle.reply.specs.declared.Read.{Read}

-- ---- what an answer means: the values of a reply that is read, or a refusal's number and line

pub data Outcome : Type 0 where
  read : (code used rows : ℕ) → Outcome
  refusal : (number line : ℕ) → Outcome

abbrev pub Answer : Type 0
Answer = Result Read (Refusal × ℕ)

-- of a reply that is read
abbrev pub answered : ℕ → ℕ → ℕ → Answer
answered code used rows = Ok (record { code = code; used = used; rows = rows })

abbrev pub refused_at : Refusal → ℕ → Answer
refused_at why line = Err (why, line)

unfoldable pub meaning : Answer → Outcome
unfolding number_of
meaning (Ok r) = read r.code r.used r.rows
meaning (Err (why, line)) = refusal (number_of why) line

-- ---- the whole: "It ends at an empty line with nothing open (open: 52) or at an error line (loops may be open)"

abbrev pub by_move : Move → Answer → ℕ → ℕ → ℕ → Answer
by_move Move.On more k used rows = more
by_move (Move.Ends v) more k used rows = answered v used rows
by_move (Move.Refused r) more k used rows = Err (r, k)

-- from line k on, with so many bytes used before it
unfoldable pub verdict_from : ℕ → ℕ → ℕ → Open → List (List ℕ) → Answer
unfolding line_at step
verdict_from n k used st [] = Err (Refusal.NoEnding, k)
verdict_from n k used st (l ∷ ls) =
    by_move (step n (line_at n k l) st).to
    (verdict_from n (k + 1) (used + length l + 1) (step n (line_at n k l) st).state ls)
    k (used + length l + 1) st.rows

-- 55 is tested first
unfoldable pub verdict : ℕ → List ℕ → Answer
unfolding verdict_from
verdict n s = cond (leb (length s) 65536) (verdict_from n 1 0 begun (lines s)) (Err (Refusal.TooLong, 0))

-- for a table of n rows, in this paper's numbers
unfoldable pub outcome_of : ℕ → List ℕ → Outcome
unfolding meaning verdict
outcome_of n s = meaning (verdict n s)
