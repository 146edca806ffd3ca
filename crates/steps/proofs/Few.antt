-- A step hands out at most 8 things.
use Prim.Native.Nat.{ℕ, zero, suc, ◌≤◌, zero-le}
use mathlib.Core.Path.{◌≡◌, refl}
use mathlib.Core.Bool.{Bool, true, false, not, ◌&&◌, cond}
use mathlib.Core.List.{List, [], ◌∷◌}
use mathlib.Core.Option.{Option, none, some}
use native.Mathlib.Omega.{arith}
use lib.ListN.{length, drop}
use Rattle.table.specs.declared.Item.{Item}
use Rattle.table.specs.declared.Table.{Table}
use Rattle.table.specs.ReadWrite.{lowest}
use Rattle.table.specs.Shape.{in_shape, items_of}
use Rattle.state.specs.declared.Control.{Control}
use Rattle.state.specs.declared.Offer.{Offer}
use Rattle.state.specs.State.{State, Status, live, finished_run, stopped_run}
use Rattle.state.specs.State.{fault_run, Step, Meets, ready, short, amiss}
use Rattle.state.specs.State.{wants_nothing, wanted_by, meets, cleared}
use Rattle.steps.specs.Machine as rules
use Rattle.steps.specs.Machine.{run, served, or_fault, finish, faults, tries, at_item, tag_from, ahead, abort_due}
use Rattle.steps.specs.Machine.{aborted, told, moved, again, is_empty, state_ok, step}
use Rattle.steps.proofs.Shapes.{ok_shaped}
use Rattle.steps.proofs.Taken.{few_leaves, run_taken}

abbrev Few : Step → Type 0
Few s = length s.outs ≤ 8

few_cond : (b : Bool) (s t : Step) → Few s → Few t → Few (cond b s t)
few_cond true s t p q = p
few_cond false s t p q = q

few_served : (m₀ m : State) (q : Meets) (s : Step) → Few s → Few (served m₀ m q s)
few_served m₀ m ready s p = p
few_served m₀ m short s p = zero-le
few_served m₀ m amiss s p = zero-le

few_fault : (n : ℕ) (m : State) (s : Step) → Few s → Few (or_fault n m s)
few_fault zero m s p = p
few_fault (suc n) m s p = zero-le

few_item : (xs : List Item) (m₀ m : State) (o : Offer) (rest : List Item) → Few (at_item xs m₀ m o rest)
few_item xs m₀ m o [] =
    few_fault (lowest ((62, not (is_empty m.boxes)) ∷ (64, m.packed) ∷ [])) m (finish m₀ m o [])
    (few_served m₀ m (meets wants_nothing o) _ zero-le)
few_item xs m₀ m o (x ∷ rest) =
    few_fault (lowest (faults xs m x)) m (or_fault (tries xs m x) m (served m₀ m (meets (wanted_by x) o)
    (run xs m x o)))
    (few_fault (tries xs m x) m (served m₀ m (meets (wanted_by x) o) (run xs m x o))
    (few_served m₀ m (meets (wanted_by x) o) (run xs m x o) (run_taken xs m x o).few))

few_aborted : (xs : List Item) (m₀ m : State) (o : Offer) (p : Option ℕ) → length m.boxes ≤ 8
    → Few (aborted xs m₀ m o p)
few_aborted xs m₀ m o none h =
    few_served m₀ (cleared m m.at) (meets wants_nothing o) _ (omega (arith, few_leaves xs m.boxes))
few_aborted xs m₀ m o (some i) h =
    few_served m₀ (cleared m i) (meets wants_nothing o) _ (omega (arith, few_leaves xs m.boxes))

few_moved : (xs : List Item) (m₀ m : State) (o : Offer) → length m.boxes ≤ 8 → Few (moved xs m₀ m o)
few_moved xs m₀ m o h =
    few_cond (abort_due xs m) _ _ (few_aborted xs m₀ m o (ahead m.at (tag_from 0 xs)) h)
    (few_item xs m₀ m o (drop m.at xs))

few_again : (t : Status) (m : State) (s : Step) → Few s → Few (again t m s)
few_again live m s p = p
few_again finished_run m s p = zero-le
few_again (stopped_run c) m s p = zero-le
few_again (fault_run n) m s p = zero-le

told_same : (xs : List Item) (m : State) (c : Control) → (told xs m c).boxes ≡ m.boxes
told_same xs m Control.None = refl
told_same xs m Control.Z = refl
told_same xs m Control.Y = refl

pub at_most_8 : (size : ℕ) (s : Table) (m : State) (c : Control) (o : Offer) → Few (step size s m c o)
unfolding step
at_most_8 size s m c o = go (in_shape size s) (state_ok (items_of s) m) refl
  where
    go : (a b : Bool) → state_ok (items_of s) m ≡ b
        → Few (cond (a && b) (again m.status m (moved (items_of s) m (told (items_of s) m c) o)) (rules.shapeless m))
    go false b e = zero-le
    go true false e = zero-le
    go true true e =
        few_again m.status m (moved (items_of s) m (told (items_of s) m c) o)
        (few_moved (items_of s) m (told (items_of s) m c) o
        (rw (told_same (items_of s) m c) (ok_shaped (items_of s) m e).few))
