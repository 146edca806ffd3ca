-- What a step that takes no item leaves (01, The machine): the very state that went in, to its last unused place. "Only
-- the control is kept" by a wait, and nothing at all is changed by 30, by 31 and by a run that has ended.
use Rattle.std.specs.Prelude.{List}
use Rattle.table.specs.declared.Item.{Item}
use Rattle.state.specs.declared.Control.{Control}
use Rattle.state.specs.State as rules
use Rattle.state.specs.Meaning.{state_of}
use Rattle.state.specs.declared.State as coded
use Rattle.steps.specs.Machine.{told}

-- the state with the flags that the control sets
abbrev pub told_to : List Item → coded.State → Control → coded.State
told_to xs m c = record {
  at = m.at;
  boxes = m.boxes;
  depth = m.depth;
  vars = m.vars;
  pending = (told xs (state_of m) c).pending;
  skip = (told xs (state_of m) c).skip;
  packed = m.packed;
  status = m.status;
}

-- what a step that takes no item leaves: the state as it was, with the control where it waits
abbrev pub resting : List Item → coded.State → Control → rules.Answer → coded.State
resting xs m c rules.running = m
resting xs m c rules.waiting = told_to xs m c
resting xs m c rules.finished = m
resting xs m c (rules.stopped s) = m
resting xs m c (rules.fault n) = m
resting xs m c (rules.refuse n k) = m
