use Rattle.capi.proofs.Numbers.{zeros, room_for_rows, is_row, is_no_row, is_row_refused}
use Rattle.capi.proofs.replies.satv_reply_row.Goals as goal

pub returns-then-row-read : goal.returns-then-row-read
returns-then-row-read c =
    is_row _ zeros _ _ _ room_for_rows c.read_numbers.ensures.says _ _ _ _ _ c.in-Ok.is
    c.if-row-read.true c.read_numbers.ensures.numbers c.row_in.ensures
    c.row_told.ensures

pub returns-else-row-read : goal.returns-else-row-read
returns-else-row-read c =
    is_no_row _ zeros _ _ _ room_for_rows c.read_numbers.ensures.says _ _ _ c.in-Ok.is
    c.if-row-read.false c.no_row.ensures

pub returns-in-Err : goal.returns-in-Err
returns-in-Err c =
    is_row_refused _ zeros _ _ _ room_for_rows c.read_numbers.ensures.says _ _ _ c.in-Err.is
    c.from.ensures c.no_row-in-Err.ensures
