use Rattle.capi.proofs.Lines.{is_content, is_no_content}
use Rattle.capi.proofs.frames.satv_frame_read.Goals as goal

pub returns-in-Ok : goal.returns-in-Ok
returns-in-Ok c =
    is_content _ _ _ _ _ c.from_byte.ensures c.read_frame.ensures _ _ _
    c.in-Ok.is c.byte.ensures c.good.ensures

pub returns-in-Err : goal.returns-in-Err
returns-in-Err c =
    is_no_content _ _ _ _ _ c.from_byte.ensures c.read_frame.ensures _
    c.in-Err.is c.refused.ensures
