-- What only the code's shape needs: what is looked up for one step, as the marks alone say it.
use Rattle.std.specs.Prelude.{Option, Some, None}
use Rattle.std.specs.Prelude.{ℕ, suc, ◌+◌, ◌≡◌, Bool, true, false, not, ◌&&◌, ◌||◌, cond, List, [], ◌∷◌, eqb, ltb}
use Rattle.std.specs.Prelude.{leb, length, set}
use Rattle.laws.specs.Least.{least}
use Rattle.table.specs.declared.Item.{Item}
use Rattle.table.specs.declared.Table.{Table}
use Rattle.table.specs.Item.{is_loop, is_sweep}
use Rattle.table.specs.Shape.{items_of, in_shape}
use Rattle.mates.specs.declared.Mark.{Mark}
use Rattle.mates.specs.Mates.{past}
use Rattle.mates.specs.Code.{roles_of, marks_of, always, opens_at, belongs_in, close_in, tag_in}
use Rattle.state.specs.declared.LoopSort.TheVariants as LoopSort
use Rattle.state.specs.declared.What.{What}
use Rattle.state.specs.State.{Cell, cell_at, cells_ok}
use Rattle.state.specs.Meaning.{cells_of, tops}
use Rattle.state.specs.declared.State as coded
use Rattle.operands.specs.Code.{Cells}
use Rattle.operands.specs.Code as operands
use Rattle.effect.specs.declared.Around.{Around}
use Rattle.effect.specs.declared.Chosen.{Chosen}
use Rattle.effect.specs.declared.Spot.{Spot}
use Rattle.effect.specs.Code.{try_mate}
use Rattle.lookup.specs.declared.Survey.{Survey}
use Rattle.steps.specs.Code.{count_of}

-- ---- the state's shape

-- a box at an opening item, one of n, with a closing mate
abbrev pub box_in : List Mark → ℕ → ℕ → Bool
box_in ms n p = ltb p n && opens_at always ms p && not (eqb (past (close_in ms p)) 0)

abbrev pub opens_in : List Mark → ℕ → List ℕ → Bool
opens_in ms n [] = true
opens_in ms n (p ∷ ps) = box_in ms n p && opens_in ms n ps

-- the state is in shape, for a text of n items
unfoldable pub state_in : List Mark → ℕ → coded.State → Bool
state_in ms n m =
    leb m.at n && leb m.depth 8 && opens_in ms n (tops m.boxes m.depth) && cells_ok (cells_of m.vars)

-- so many items and names are allowed
abbrev pub sizes_ok : ℕ → ℕ → Bool
sizes_ok items names = leb items 128 && leb names 32

-- what is known of a table before any step
pub record Surveys (size : ℕ) (t : Table) (r : Survey) : Type 0 where
  pub count : r.count ≡ least t.count 128
  pub marks : r.marks ≡ marks_of (roles_of (items_of t)) r.count
  pub tag : r.tag ≡ tag_in r.marks.at r.count
  pub sound : r.sound ≡ in_shape size t

-- ---- where a run stands

-- how many boxes are open up to one that was looked for, with it
abbrev pub up_to : Option ℕ → ℕ
up_to None = 0
up_to (Some k) = suc k

abbrev pub spot_of : coded.State → Spot
spot_of m = record {
  at = m.at;
  boxes = m.boxes;
  depth = m.depth;
  pending = m.pending;
  skip = m.skip;
  packed = m.packed;
}

-- the open boxes, as many as their row has places for, the innermost first
abbrev pub held_in : Spot → List ℕ
held_in s = tops s.boxes (least s.depth 8)

-- a measuring loop is among the boxes
abbrev pub sweeps : List Mark → List ℕ → Bool
sweeps ms [] = false
sweeps ms (p ∷ ps) = opens_at is_sweep ms p || sweeps ms ps

-- from the innermost loop outwards
abbrev pub to_loop : List Mark → List ℕ → List ℕ
to_loop ms [] = []
to_loop ms (p ∷ ps) = let r = to_loop ms ps in cond (opens_at is_loop ms p) (p ∷ ps) r

-- the mark that leaving the box at p hands out, where it is a loop's
unfoldable pub leave_of : List Mark → ℕ → What
leave_of ms p =
    cond (opens_at is_sweep ms p) (What.Leave LoopSort.Sweep)
    (cond (opens_at is_loop ms p) (What.Leave LoopSort.Loop) What.Nothing)

-- what an item reads of the row of names
abbrev pub cells_at : Item → List Cell → Cells
cells_at x vars =
    let o = operands.operands_of x in
    operands.cells_of o (cell_at vars (operands.place_of o.a)) (cell_at vars (operands.place_of o.b))
    (cell_at vars (operands.place_of o.c)) (cell_at vars (operands.place_of o.d))

-- a thing is laid behind the n that stand in a row, and counted if it is one; a full row stays as it is
pub record Lays (things : List What) (n : ℕ) (w : What) (after : List What) (count : ℕ) : Type 0 where
  pub laid : after ≡ set things n w
  pub counted : count ≡ n + cond (ltb n (length things)) (count_of w) 0

-- ---- around an item

-- about no box, or astray
abbrev pub alone : Bool → Bool → Around
alone sweeping stray = record { sweeping = sweeping; stray = stray; close = 0; sweep = false; outside = 0 }

abbrev pub around_open : List Mark → Bool → ℕ → Around
around_open ms sweeping i = record {
  sweeping = sweeping;
  stray = eqb (past (close_in ms i)) 0;
  close = past (close_in ms i);
  sweep = false;
  outside = 0;
}

-- a branch or closing mark at i, with these boxes open
abbrev pub around_mark : List Mark → Bool → ℕ → List ℕ → Around
around_mark ms sweeping i [] = alone sweeping true
around_mark ms sweeping i (p ∷ ps) = record {
  sweeping = sweeping;
  stray = not (belongs_in ms i p);
  close = past (close_in ms p);
  sweep = opens_at is_sweep ms p;
  outside = 0;
}

-- a breakloop, with these boxes open from the innermost loop outwards
abbrev pub around_break : List Mark → Bool → List ℕ → Around
around_break ms sweeping [] = alone sweeping true
around_break ms sweeping (p ∷ ps) = record {
  sweeping = sweeping;
  stray = false;
  close = past (close_in ms p);
  sweep = opens_at is_sweep ms p;
  outside = length ps;
}

abbrev pub around_with : List Mark → Bool → ℕ → List ℕ → Item → Around
around_with ms b i ps (Item.Act a) = alone b false
around_with ms b i ps (Item.Pack p) = alone b false
around_with ms b i ps (Item.Open h) = around_open ms b i
around_with ms b i ps (Item.Branch e) = around_mark ms b i ps
around_with ms b i ps (Item.Close e) = around_mark ms b i ps
around_with ms b i ps Item.Break = around_break ms b (to_loop ms ps)
around_with ms b i ps Item.Tag = alone b false

unfoldable pub around_in : List Mark → Spot → Item → Around
around_in ms s x = around_with ms (sweeps ms (held_in s)) s.at (held_in s) x

-- the item x at j, where it belongs to the box that opens at p
unfoldable pub tried_in : List Mark → Item → Cells → ℕ → ℕ → Option Chosen
tried_in ms x k p j = cond (belongs_in ms j p) (try_mate x k j) None
