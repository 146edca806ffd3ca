-- A row that is counted is read back from the lent numbers. Assumes nothing.
use mathlib.Core.List.{List}
use mathlib.Core.Path.{◌≡◌, sym, ◌∙◌, ap}
use native.Mathlib.Omega.{arith}
use Prim.Native.Nat.{ℕ, ◌*◌, ◌≤◌, ◌<◌}
use lib.ListN.{length, get_or}
use Rattle.text.specs.Put.{put}
use Rattle.reply.specs.Numbers.{listed, room_in, numbers_after, numbers_of, row_in}
use Rattle.reply.specs.Reply.{Answer, answered, verdict, meaning, outcome_of}
use Rattle.reply.specs.Rows.{script_row, rows_of}
use Rattle.reply.proofs.Listed.{four_fit, row_back}
use Rattle.reply.proofs.Rows.{answer_counts}
use Rattle.reply.proofs.Tight.{meaning_injective}
use Rattle.reply.proofs.Whole.{Judged, judged, rows_fit}

module _ (s lent : List ℕ) (v : Answer) (c u r row : ℕ) (says : meaning v ≡ outcome_of (room_in lent) s)
    (read : v ≡ answered c u r) (h : row < r) where
  good : verdict (room_in lent) s ≡ answered c u r
  unfolding outcome_of
  good = sym (meaning_injective v (verdict (room_in lent) s) says) ∙ read

  known : Judged (room_in lent) s c u r
  known = judged good

  numbers : numbers_of s lent ≡ put lent 0 (listed (rows_of (room_in lent) s))
  unfolding numbers_of numbers_after
  numbers = ap (λ (a : Answer). numbers_after a (rows_of (room_in lent) s) lent) good

  counted : length (rows_of (room_in lent) s) ≡ r
  counted = answer_counts (room_in lent) s known.good

  fit : length (rows_of (room_in lent) s) * 4 ≤ length lent
  fit = omega (arith, counted, rows_fit known, four_fit (length lent))

  pub row_listed : row_in (numbers_of s lent) row ≡ get_or (rows_of (room_in lent) s) row script_row
  row_listed =
      ap (λ (l : List ℕ). row_in l row) numbers
      ∙ row_back lent (rows_of (room_in lent) s) row (omega (arith, counted)) fit
