-- Entering and leaving loops and boxes, over the run.
use Prim.Native.Nat.{ℕ}
use mathlib.Core.Path.{◌≡◌, refl}
use mathlib.Core.Bool.{Bool, true, false, false≢true}
use mathlib.Core.List.{List, [], ◌∷◌}
use borrow.Author.Tests.{eqb-true}
use Rattle.table.specs.declared.Condition.{Condition}
use Rattle.table.specs.declared.Head.TheVariants as Head
use Rattle.table.specs.declared.Item.{Item}
use Rattle.mates.specs.Mates.{close_of, past}
use Rattle.state.specs.declared.LoopSort.{LoopSort}
use Rattle.state.specs.declared.Offer.{Offer}
use Rattle.state.specs.State.{measures, State, enters, leaves, said, goto, unskip, holds, outer}
use Rattle.steps.specs.Machine.{next, inside, outside, enter, leave, chosen, run_head}
use Rattle.steps.specs.Code.{chosen_at}

-- ---- loops

inner : (i : ℕ) (ps : List ℕ) → inside i ps ≡ true → (i ∷ outside i ps ≡ ps) × (outside i ps ≡ outer ps)
inner i [] e = (absurd (false≢true e), refl)
inner i (p ∷ ps) e = (rw (e, eqb-true p i e), rw e)

outer_same : (i : ℕ) (ps : List ℕ) → inside i ps ≡ false → outside i ps ≡ ps
outer_same i [] e = refl
outer_same i (p ∷ ps) e = rw e

pub enter_again : (s : LoopSort) (m : State) → inside m.at m.boxes ≡ true → said [] (next m) ≡ enter s m
enter_again s m e = rw (e, (inner m.at m.boxes e).0)

pub enter_first : (s : LoopSort) (m : State) → inside m.at m.boxes ≡ false
    → said (enters s ∷ []) (next (goto m m.at (m.at ∷ m.boxes))) ≡ enter s m
enter_first s m e = rw (e, outer_same m.at m.boxes e)

module _ (xs : List Item) (s : LoopSort) (m : State) (b : Bool) (to : ℕ) (f : b ≡ measures s)
    (g : to ≡ past (close_of xs m.at)) where
  pub leave_again : inside m.at m.boxes ≡ true
      → said (leaves s ∷ []) (unskip b (goto m to (outer m.boxes))) ≡ leave xs s m
  leave_again e = rw (f, g, e, (inner m.at m.boxes e).1)

  pub leave_empty : inside m.at m.boxes ≡ false
      → said (enters s ∷ leaves s ∷ []) (unskip b (goto m to m.boxes)) ≡ leave xs s m
  leave_empty e = rw (f, g, e, outer_same m.at m.boxes e)

pub if_chosen : (xs : List Item) (m : State) (c : Condition) (o : Offer)
    → chosen m (chosen_at xs m (Item.Open (Head.If c))) ≡ run_head xs m (Head.If c) o
if_chosen xs m c o = go (holds m.vars c) refl
  where
    go : (b : Bool) → holds m.vars c ≡ b
        → chosen m (chosen_at xs m (Item.Open (Head.If c))) ≡ run_head xs m (Head.If c) o
    go true e = rw e
    go false e = rw e
