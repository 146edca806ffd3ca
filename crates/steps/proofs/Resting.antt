-- What steps that take no item leave of a state: all of it, with the controls of the waits.
use mathlib.Core.Path.{◌≡◌, refl}
use mathlib.Core.List.{List}
use Rattle.table.specs.declared.Item.{Item}
use Rattle.state.specs.declared.Control.{Control}
use Rattle.state.specs.State as rules
use Rattle.state.specs.Meaning.{state_of, Neat}
use Rattle.state.specs.declared.State as coded
use Rattle.steps.specs.Machine.{told}
use Rattle.steps.specs.Resting.{told_to, resting}
use Rattle.steps.proofs.Keeping.{left_of}

told_run : (xs : List Item) (m : coded.State) (c : Control) → state_of (told_to xs m c) ≡ told xs (state_of m) c
told_run xs m Control.None = refl
told_run xs m Control.Z = refl
told_run xs m Control.Y = refl

pub resting_run : (xs : List Item) (m : coded.State) (c : Control) (a : rules.Answer)
    → state_of (resting xs m c a) ≡ left_of (state_of m) (told xs (state_of m) c) a
resting_run xs m c rules.running = refl
resting_run xs m c rules.waiting = told_run xs m c
resting_run xs m c rules.finished = refl
resting_run xs m c (rules.stopped s) = refl
resting_run xs m c (rules.fault n) = refl
resting_run xs m c (rules.refuse n k) = refl

-- what a control does not touch
pub record Alike (a b : coded.State) : Type 0 where
  pub row : a.boxes ≡ b.boxes
  pub deep : a.depth ≡ b.depth
  pub stood : (state_of a).status ≡ (state_of b).status

pub same_alike : (m : coded.State) → Alike m m
same_alike m = record { row = refl; deep = refl; stood = refl }

told_alike : (xs : List Item) (m : coded.State) (c : Control) → Alike (told_to xs m c) m
told_alike xs m c = record { row = refl; deep = refl; stood = refl }

pub resting_alike : (xs : List Item) (m : coded.State) (c : Control) (a : rules.Answer) → Alike (resting xs m c a) m
resting_alike xs m c rules.running = same_alike m
resting_alike xs m c rules.waiting = told_alike xs m c
resting_alike xs m c rules.finished = same_alike m
resting_alike xs m c (rules.stopped s) = same_alike m
resting_alike xs m c (rules.fault n) = same_alike m
resting_alike xs m c (rules.refuse n k) = same_alike m

pub alike_neat : (a b : coded.State) → Alike a b → Neat b → Neat a
alike_neat a b e n = rw (e.row, e.deep) n
