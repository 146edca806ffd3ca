-- Whether a table is in shape, found item by item. Assumes nothing.
use Prim.Native.Nat.{ℕ, zero, suc, ◌≤◌, ◌<◌}
use mathlib.Core.Path.{◌≡◌, refl, ap}
use mathlib.Core.Bool.{false, ◌&&◌, and-false}
use mathlib.Core.List.{List, [], ◌∷◌}
use lib.ListN.{take}
use borrow.Author.Tests.{le-leb, lt-leb}
use Rattle.std.specs.List.{list_all}
use Rattle.table.specs.Item.{Slot, Table}
use Rattle.table.specs.Shape.{items_in, item_ok, items_ok, in_shape}

-- every item of the first n slots is in shape
each_item : (names size n : ℕ) (ss : List Slot)
    → list_all (λ (s : Slot). item_ok names size s.item) (take n ss) ≡ items_ok names size (items_in n ss)
each_item names size zero ss = refl
each_item names size (suc n) [] = refl
each_item names size (suc n) (s ∷ ss) = ap (λ b. item_ok names size s.item && b) (each_item names size n ss)

module _ (size : ℕ) (s : Table) where
  pub too_many_items : 128 < s.count → in_shape size s ≡ false
  unfolding in_shape
  too_many_items h = rw (lt-leb _ _ h)

  pub too_many_names : 32 < s.names → in_shape size s ≡ false
  unfolding in_shape
  too_many_names h = rw (lt-leb _ _ h, and-false)

  pub shape_by_all : s.count ≤ 128 → s.names ≤ 32
      → list_all (λ (slot : Slot). item_ok s.names size slot.item) (take s.count s.items) ≡ in_shape size s
  unfolding in_shape
  shape_by_all h k = rw (le-leb _ _ h, le-leb _ _ k) (each_item s.names size s.count s.items)

-- what the test of a table's shape cites, for its attribute
pub ruleset judging = (too_many_items, too_many_names)
