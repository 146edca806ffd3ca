-- What "box mark without its box" and "box open at end" (01, The checker, 21) leave of an accepted table: every mark
-- has its mate.
use Rattle.std.specs.Prelude.{ℕ, ◌<◌, ◌≡◌, Bool, true, false, ◌||◌, List, length}
use Rattle.std.proofs.Math.Option.{Option, none, some}
use Rattle.table.specs.declared.Item.{Item}
use Rattle.table.specs.Item.{is_open, is_branch, is_close}
use Rattle.mates.specs.Mates.{fits_top, boxes_at, close_of, item_at}

abbrev pub is_found : Option ℕ → Bool
is_found none = false
is_found (some j) = true

-- a branch or closing mark belongs to the innermost open box; an opening mark has its closing mark
pub record Mated (xs : List Item) : Type 0 where
  pub inner : (i : ℕ) → i < length xs → (is_branch (item_at xs i) || is_close (item_at xs i)) ≡ true
      → fits_top (item_at xs i) (boxes_at xs i) ≡ true
  pub closing : (i : ℕ) → i < length xs → is_open (item_at xs i) ≡ true → is_found (close_of xs i) ≡ true
