-- The two ways of a step, and what it leaves where it takes no item.
use Prim.Native.Nat.{ℕ}
use mathlib.Core.List.{List}
use mathlib.Core.Path.{◌≡◌, refl, sym, ◌∙◌}
use mathlib.Core.Bool.{Bool, true, false, ◌&&◌, true≢false}
use Rattle.table.specs.declared.Item.{Item}
use Rattle.table.specs.declared.Table.{Table}
use Rattle.table.specs.Shape.{in_shape, items_of}
use Rattle.state.specs.declared.Control.{Control}
use Rattle.state.specs.declared.Offer.{Offer}
use Rattle.state.specs.State.{State}
use Rattle.steps.specs.Machine.{state_ok, step}
use Rattle.steps.specs.Code.{Faithful, step_known}
use Rattle.steps.proofs.Keeping.{again_faithful}

pub known_step : (size : ℕ) (s : Table) (m : State) (c : Control) (o : Offer) (b : Bool)
    → b ≡ (in_shape size s && state_ok (items_of s) m) → step_known b (items_of s) m c o ≡ step size s m c o
unfolding step
known_step size s m c o b e = rw e

pub known_faithful : (b : Bool) (xs : List Item) (m : State) (c : Control) (o : Offer)
    → Faithful m (step_known b xs m c o)
known_faithful true xs m c o = again_faithful xs m c o
known_faithful false xs m c o = λ q. (refl, refl)

pub never : {X : Type 0} (b : Bool) → b ≡ true → b ≡ false → X
never b p q = absurd (true≢false (sym p ∙ q))
