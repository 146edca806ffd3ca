-- The mates that a false condition tries, one after the other.
use Prim.Native.Nat.{ℕ, zero, suc, ◌+◌, ◌≤◌, ◌<◌}
use mathlib.Core.Path.{◌≡◌, refl, ap}
use mathlib.Core.List.{List, [], ◌∷◌}
use native.Mathlib.Nat.{not-suc-le-zero, le_of_suc-le-suc}
use native.Mathlib.Numerals.{add-one}
use lib.ListN.{length, get_or, drop, drop_of_length-le}
use lib.Seq.{drop-cons}
use Rattle.table.specs.declared.Item.{Item}
use Rattle.table.specs.declared.Slot.{Slot}
use Rattle.table.specs.Shape.{items_in, no_slot}
use Rattle.mates.specs.Mates.{boxes_at}
use Rattle.mates.proofs.Placed.{boxes_suc}
use Rattle.state.specs.State.{Vars}
use Rattle.steps.specs.Machine.{bad, choose}
use Rattle.steps.specs.Code.{tried_at}

-- the item at a place of the table
pub item_is : (n j : ℕ) (ss : List Slot) → j < n → j < length ss
    → get_or (items_in n ss) j Item.Tag ≡ (get_or ss j no_slot).item
item_is zero j ss h k = absurd (not-suc-le-zero h)
item_is (suc n) j [] h k = absurd (not-suc-le-zero k)
item_is (suc n) zero (s ∷ ss) h k = refl
item_is (suc n) (suc j) (s ∷ ss) h k = item_is n j ss (le_of_suc-le-suc h) (le_of_suc-le-suc k)

pub count_items : (n : ℕ) (ss : List Slot) → n ≤ length ss → length (items_in n ss) ≡ n
count_items zero ss h = refl
count_items (suc n) [] h = absurd (not-suc-le-zero h)
count_items (suc n) (s ∷ ss) h = ap suc (count_items n ss (le_of_suc-le-suc h))

-- one mate further
pub choose_more : (xs : List Item) (vs : Vars) (p j : ℕ) → j < length xs
    → choose vs p j (boxes_at xs j) (drop j xs) ≡ tried_at xs vs p j
    (choose vs p (j + 1) (boxes_at xs (j + 1)) (drop (j + 1) xs))
choose_more xs vs p j h = rw (drop-cons xs j Item.Tag h, add-one, boxes_suc xs j h)

pub choose_none : (xs : List Item) (vs : Vars) (p j : ℕ) → length xs ≤ j
    → choose vs p j (boxes_at xs j) (drop j xs) ≡ bad 62
choose_none xs vs p j h = rw (drop_of_length-le xs {i = j} h)
