use Rattle.capi.proofs.frames.refused.Goals as goal

pub returns : goal.returns
returns c = rw c.from.ensures
