use Rattle.capi.proofs.Lines.{is_written_lem, is_not_written}
use Rattle.capi.proofs.frames.satv_frame_write.Goals as goal

pub returns-in-Ok : goal.returns-in-Ok
returns-in-Ok c =
    is_written_lem _ _ _ _ _ _ _ c.from_byte.ensures c.write_frame.ensures _ _ _
    c.in-Ok.is c.byte.ensures c.good.ensures

pub returns-in-Err : goal.returns-in-Err
returns-in-Err c =
    is_not_written _ _ _ _ _ _ _ c.from_byte.ensures c.write_frame.ensures _
    c.in-Err.is c.refused.ensures
