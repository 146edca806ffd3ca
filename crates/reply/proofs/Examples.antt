-- 01's listing and 02's scans, computed. Assumes nothing.
use mathlib.Core.List.{List, [], ◌∷◌}
use mathlib.Core.Path.{◌≡◌, refl}
use Prim.Native.Nat.{ℕ}
use Rattle.text.specs.Cut.{cut}
use Rattle.text.specs.Hex.{digit_value, hex_from, read_hex}
use Rattle.reply_line.specs.declared.RowKind.TheVariants as RowKind
use Rattle.reply_line.specs.Line.{number_of, letter_of, alone_in, mark_of, mark_line, with_row, is_e, first_line}
use Rattle.reply_line.specs.Line.{has_cycle, scan_line, by_first, later_line, line_at}
use Rattle.reply_step.specs.Step.{may_open, closes, step}
use Rattle.reply.specs.Reply.{read, refusal, meaning, verdict_from, verdict, outcome_of}
use Rattle.reply.specs.Rows.{script_row, new_row, rows_after, holder_after, rows_from, rows_of}

-- lines `e`, `M0000`, `*`, empty: an empty loop is still a row
abbrev listed : List ℕ
listed = 0x65 ∷ 10 ∷ 0x4D ∷ 0x30 ∷ 0x30 ∷ 0x30 ∷ 0x30 ∷ 10 ∷ 0x2A ∷ 10 ∷ 10 ∷ []

pub listed_outcome : outcome_of 1024 listed ≡ read 0 11 2
unfolding outcome_of meaning verdict verdict_from step may_open closes letter_of line_at first_line later_line
    by_first is_e
    with_row alone_in mark_line mark_of read_hex hex_from digit_value cut
listed_outcome = refl

pub listed_rows : rows_of 1024 listed ≡ script_row ∷ new_row RowKind.Sweep 0 0 ∷ []
unfolding rows_of rows_from rows_after holder_after step may_open closes letter_of line_at first_line later_line
    by_first is_e
    with_row alone_in mark_line mark_of read_hex hex_from digit_value cut
listed_rows = refl

-- `e`, `L`, empty: open at the end, 52; without the empty line 50, one more than the lines read
pub left_open : outcome_of 1024 (0x65 ∷ 10 ∷ 0x4C ∷ 10 ∷ 10 ∷ []) ≡ refusal 52 3
unfolding outcome_of meaning number_of verdict verdict_from step may_open closes letter_of line_at first_line
    later_line by_first
    is_e with_row alone_in cut
left_open = refl

pub cut_short : outcome_of 1024 (0x65 ∷ 10 ∷ 0x4C ∷ 10 ∷ []) ≡ refusal 50 3
unfolding outcome_of meaning number_of verdict verdict_from step may_open closes letter_of line_at first_line
    later_line by_first
    is_e with_row alone_in cut
cut_short = refl

-- `e`, `M0005`, `C`, `-`, `*`, empty: an empty scan is still a row, inside its measuring loop
abbrev scanned : List ℕ
scanned =
    0x65 ∷ 10 ∷ 0x4D ∷ 0x30 ∷ 0x30 ∷ 0x30 ∷ 0x35 ∷ 10 ∷ 0x43 ∷ 10 ∷ 0x2D ∷ 10 ∷ 0x2A ∷ 10 ∷ 10 ∷ []

pub scanned_rows : rows_of 1024 scanned ≡ script_row ∷ new_row RowKind.Sweep 5 0 ∷ new_row RowKind.Scan 0 1 ∷ []
unfolding rows_of rows_from rows_after holder_after step may_open closes letter_of line_at first_line later_line
    by_first is_e
    with_row alone_in mark_line mark_of has_cycle scan_line read_hex hex_from digit_value cut
scanned_rows = refl

-- `e`, `C`, `-`, empty: a scan outside every measuring loop
pub scan_outside : outcome_of 1024 (0x65 ∷ 10 ∷ 0x43 ∷ 10 ∷ 0x2D ∷ 10 ∷ 10 ∷ []) ≡ refusal 52 2
unfolding outcome_of meaning number_of verdict verdict_from step may_open closes letter_of line_at first_line
    later_line by_first
    is_e with_row alone_in has_cycle scan_line cut
scan_outside = refl
