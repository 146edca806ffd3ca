-- The checker's walk with a place beside each open box: that of the item which opens it. No rule reads it; by it the
-- open boxes of the text and of a run are told. Assumes nothing.
use Prim.Native.Nat.{ℕ, suc}
use mathlib.Core.Path.{◌≡◌, refl, ap}
use mathlib.Core.Bool.{Bool, true, false}
use mathlib.Core.List.{List, [], ◌∷◌}
use lib.ListN.{length}
use Rattle.table.specs.declared.Sort.{Sort}
use Rattle.table.specs.declared.Head.{Head}
use Rattle.table.specs.declared.Branch.{Branch}
use Rattle.table.specs.declared.Item.{Item}
use Rattle.table.specs.Item.{sort_of, is_else}
use Rattle.table.specs.ReadWrite.{Names, act_writes, head_writes, packs}
use Rattle.sets.specs.Names.{nothing, everything, both, put}
use Rattle.rules.specs.Check.{Box as Plain, Held, after_box, after as after_plain}

pub record Box : Type 0 where
  pub at : ℕ
  pub sort : Sort
  pub before : Names
  pub every_end : Names
  pub else_seen : Bool

-- the state of the walk with such boxes
pub record Placed : Type 0 where
  pub sure : Names
  pub boxes : List Box
  pub packed : Bool
  pub tagged : Bool

abbrev pub at_start : Placed
at_start = record { sure = nothing; boxes = []; packed = false; tagged = false }

-- ---- without the places

abbrev pub plain : Box → Plain
plain b = record { sort = b.sort; before = b.before; every_end = b.every_end; else_seen = b.else_seen }

abbrev pub plains : List Box → List Plain
plains [] = []
plains (b ∷ bs) = plain b ∷ plains bs

abbrev pub bare : Placed → Held
bare s = record { sure = s.sure; boxes = plains s.boxes; packed = s.packed; tagged = s.tagged }

pub length-plains : (bs : List Box) → length (plains bs) ≡ length bs
length-plains [] = refl
length-plains (b ∷ bs) = ap suc (length-plains bs)

-- ---- after item i

abbrev pub placed : Names → List Box → Placed → Placed
placed sure boxes s = record { sure = sure; boxes = boxes; packed = s.packed; tagged = s.tagged }

-- the box after a branch mark
abbrev pub renewed : Branch → Box → Names → Box
renewed x b s =
    record { at = b.at; sort = b.sort; before = b.before; every_end = both b.every_end s; else_seen = is_else x }

abbrev pub branched : Branch → Placed → List Box → Placed
branched x s [] = s
branched x s (b ∷ bs) = placed b.before (renewed x b s.sure ∷ bs) s

abbrev pub closed : Placed → List Box → Placed
closed s [] = s
closed s (b ∷ bs) = placed (after_box b.sort (plain b) s.sure) bs s

abbrev pub opened : ℕ → Head → Names → Box
opened i h s = record { at = i; sort = sort_of h; before = s; every_end = everything; else_seen = false }

abbrev pub after : ℕ → Placed → Item → Placed
after i s (Item.Act a) = placed (put s.sure (act_writes a)) s.boxes s
after i s (Item.Pack p) = record { sure = s.sure; boxes = s.boxes; packed = packs p s.packed; tagged = s.tagged }
after i s (Item.Open h) = placed (put s.sure (head_writes h)) (opened i h s.sure ∷ s.boxes) s
after i s (Item.Branch b) = branched b s s.boxes
after i s (Item.Close e) = closed s s.boxes
after i s Item.Break = s
after i s Item.Tag = record { sure = nothing; boxes = s.boxes; packed = s.packed; tagged = true }

-- it is the rules' own walk
pub same_walk : (i : ℕ) (s : Placed) (x : Item) → bare (after i s x) ≡ after_plain (bare s) x
same_walk i s (Item.Act a) = refl
same_walk i s (Item.Pack p) = refl
same_walk i s (Item.Open h) = refl
same_walk i s (Item.Branch b) = by s.boxes
  where
    by : (bs : List Box)
        → bare (after i (placed s.sure bs s) (Item.Branch b))
        ≡ after_plain (bare (placed s.sure bs s)) (Item.Branch b)
    by [] = refl
    by (x ∷ bs) = refl
same_walk i s (Item.Close e) = by s.boxes
  where
    by : (bs : List Box)
        → bare (after i (placed s.sure bs s) (Item.Close e))
        ≡ after_plain (bare (placed s.sure bs s)) (Item.Close e)
    by [] = refl
    by (x ∷ bs) = refl
same_walk i s Item.Break = refl
same_walk i s Item.Tag = refl
