-- No second answer fits a public function's contract.
use Rattle.std.proofs.Common.{Option}
use Prim.Native.Nat.{ℕ}
use mathlib.Core.Bool.{Bool}
use mathlib.Core.Path.{◌≡◌, sym, ◌∙◌}
use Rattle.table.specs.declared.Item.{Item}
use Rattle.state.specs.declared.Control.{Control}
use Rattle.state.specs.declared.Offer.{Offer}
use Rattle.state.specs.declared.Status.{Status}
use Rattle.effect.specs.Code.{boxes_left, try_mate}
use Rattle.effect.specs.Code.{try_first}
use Rattle.effect.specs.Code.{tries_on, chosen_by, effect_of}
use Rattle.operands.specs.Code.{Cells}
use Rattle.effect.specs.declared.Chosen.{Chosen}
use Rattle.effect.specs.declared.Effect.{Effect}
use Rattle.effect.specs.declared.Looked.{Looked}
use Rattle.effect.specs.declared.Spot.{Spot}

pub only_boxes_left : (b : Bool) (d h : ℕ) (r r' : ℕ) → r ≡ boxes_left b d h → r' ≡ boxes_left b d h → r ≡ r'
only_boxes_left b d h r r' e f = e ∙ sym f

pub only_try_mate : (x : Item) (k : Cells) (i : ℕ) (r r' : Option Chosen) → r ≡ try_mate x k i
    → r' ≡ try_mate x k i → r ≡ r'
only_try_mate x k i r r' e f = e ∙ sym f

pub only_try_first : (x : Item) (k : Cells) (i : ℕ) (r r' : Option Chosen) → r ≡ try_first x k i
    → r' ≡ try_first x k i → r ≡ r'
only_try_first x k i r r' e f = e ∙ sym f

pub only_tries_on : (t : Option Chosen) (i n : ℕ) (r r' : Bool) → r ≡ tries_on t i n → r' ≡ tries_on t i n → r ≡ r'
only_tries_on t i n r r' e f = e ∙ sym f

pub only_chosen_by : (t : Option Chosen) (r r' : Chosen) → r ≡ chosen_by t → r' ≡ chosen_by t → r ≡ r'
only_chosen_by t r r' e f = e ∙ sym f

pub only_effect_of : (b : Bool) (s : Spot) (t : Status) (k : Looked) (c : Control) (o : Offer) (r r' : Effect)
    → r ≡ effect_of b s t k c o → r' ≡ effect_of b s t k c o → r ≡ r'
only_effect_of b s t k c o r r' e f = e ∙ sym f
