-- A round of the row goes on, is refused or leaves the box; an item is refused, opens a box or is passed. Assumes
-- nothing.
use mathlib.Core.Path.{◌≡◌, sym, ◌∙◌}
use Rattle.std.proofs.Common.{rules, Err}
use Rattle.rules.proofs.Way.{refused_at, passed, opened, opened_refused, again, out_refused, out_closed}
use Rattle.rules.proofs.Way.{end_refused, end_reached}
use Rattle.rules.proofs.boxes.+check_block_check_item.Goals as goal

-- ---- the row

pub check_block-returns-in_err-walk : goal.check_block-returns-in_err-walk
check_block-returns-in_err-walk t c =
    let e : c.from_residual.result ≡ Err c.in_err-walk.field-0.0 = search rules in
    rw e (out_refused c.loop-at.invariant c.in_err-walk.ensures)

pub check_block-returns-then-walk : goal.check_block-returns-then-walk
check_block-returns-then-walk t c =
    rw c.leave.ensures (out_closed c.loop-at.invariant c.in_ok-walk.ensures c.if-walk.true)

pub check_block-loop-at-preserved : goal.check_block-loop-at-preserved
check_block-loop-at-preserved t c =
    again c.loop-at.invariant c.in_ok-walk.ensures c.if-walk.false

pub check_block-returns-in-Some : goal.check_block-returns-in-Some
check_block-returns-in-Some t c =
    end_refused c.loop-at.invariant c.loop-at-test.false c.judge_end.result c.judge_end.ensures c.in-Some.is

pub check_block-returns-in-None : goal.check_block-returns-in-None
check_block-returns-in-None t c =
    end_reached c.loop-at.invariant c.loop-at-test.false c.judge_end.result c.judge_end.ensures c.in-None.is

-- ---- an item

pub check_item-returns-in-Some : goal.check_item-returns-in-Some
check_item-returns-in-Some t c = refused_at (record { there = c.requires; number = c.judge.ensures }) c.in-Some.is

pub check_item-returns-in_err-out : goal.check_item-returns-in_err-out
check_item-returns-in_err-out t c =
    let e : c.from_residual.result ≡ Err c.in_err-out.field-0.0 = search rules in
    rw e
    (opened_refused (record { there = c.requires; number = c.judge.ensures }) c.in_default.is
    (sym c.is_open.ensures ∙ c.if-is_open.true) c.deeper.result c.deeper.ensures c.enter.result c.enter.ensures
    c.in_err-out.ensures)

pub check_item-returns-then-is_open : goal.check_item-returns-then-is_open
check_item-returns-then-is_open t c =
    rw c.back.ensures
    (opened (record { there = c.requires; number = c.judge.ensures }) c.in_default.is
    (sym c.is_open.ensures ∙ c.if-is_open.true) c.deeper.result c.deeper.ensures c.enter.result c.enter.ensures
    c.in_ok-out.ensures)

pub check_item-returns : goal.check_item-returns
check_item-returns t c =
    passed (record { there = c.requires; number = c.judge.ensures }) c.in_default.is
    (sym c.is_open.ensures ∙ c.if-is_open.false) c.is_close.result c.is_close.ensures c.after_item.result
    c.after_item.ensures
