-- What only the code's shape needs: what an effect makes of a run with its names, what is looked up for one step, and
-- where a run in shape stands.
use Rattle.std.specs.Prelude.{Some, None, Option as Maybe}
use Rattle.std.specs.Prelude.{ℕ, suc, ◌≤◌, ◌<◌, ◌≡◌, Bool, true, false, not, ◌&&◌, cond, List, [], ◌∷◌, ◌++◌, eqb, ltb}
use Rattle.std.specs.Prelude.{leb, length, set}
use Rattle.std.proofs.Math.Option.{Option, none, some}
use Rattle.table.specs.declared.Head.{Head}
use Rattle.table.specs.declared.Item.{Item}
use Rattle.table.specs.declared.Operand.{Operand}
use Rattle.table.specs.Item.{is_open, is_sweep, opens_a}
use Rattle.mates.specs.Mates.{boxes_at, belongs, close_of, item_at, past}
use Rattle.state.specs.State.{Cell}
use Rattle.state.specs.declared.Control.{Control}
use Rattle.state.specs.declared.Offer.{Offer}
use Rattle.state.specs.declared.Status.{Status}
use Rattle.state.specs.declared.Stepped.{Stepped}
use Rattle.state.specs.declared.What.{What}
use Rattle.state.specs.State.{Vars, cell_at, Out, State, Step, holds, stays, flagged, outer}
use Rattle.state.specs.Meaning.{state_of, cells_of, status_of, answer_of, out_of, fault_number, tops, meaning, Neat}
use Rattle.state.specs.Meaning.{Blank}
use Rattle.state.specs.declared.State as coded
use Rattle.effect.specs.declared.Around.{Around}
use Rattle.operands.specs.Code.{Cells}
use Rattle.effect.specs.declared.Chosen.{Chosen}
use Rattle.effect.specs.declared.Effect.{Effect}
use Rattle.effect.specs.declared.Looked.{Looked}
use Rattle.operands.specs.Code.{Operands}
use Rattle.effect.specs.declared.Spot.{Spot}
use Rattle.operands.specs.Code.{Written}
use Rattle.operands.specs.Code as operands
use Rattle.steps.specs.Machine as rules
use Rattle.steps.specs.Machine.{tried, otherwise, inside, any_open, unwind, astray, is_none, again, moved, told}
use Rattle.steps.specs.Machine.{tag_from, shapeless}

-- ---- what an effect makes of a run

-- the run that stands at a spot with these names
abbrev pub state_with : Vars → Spot → Status → State
state_with vs s t = record {
  at = s.at;
  boxes = tops s.boxes s.depth;
  vars = vs;
  pending = s.pending;
  skip = s.skip;
  packed = s.packed;
  status = status_of t;
}

abbrev pub live_state : Vars → Spot → State
live_state vs s = state_with vs s Status.Live

abbrev pub wrote : Written → Vars → Vars
wrote None vs = vs
wrote (Some (n, c)) vs = set vs n c

abbrev pub handed : What → List Out
handed What.Nothing = []
handed (What.Enter s) = out_of (What.Enter s) ∷ []
handed (What.Leave s) = out_of (What.Leave s) ∷ []
handed What.Start = out_of What.Start ∷ []
handed (What.Part v t) = out_of (What.Part v t) ∷ []
handed What.End = out_of What.End ∷ []
handed (What.Text t) = out_of (What.Text t) ∷ []
handed (What.Order o) = out_of (What.Order o) ∷ []

-- its things; or, where it has none and leaves all boxes, their marks os
abbrev pub hands_out : List Out → Effect → List Out
hands_out os e =
    let hs = handed e.one ++ handed e.two in
    hs ++ cond (e.leaves && eqb (length hs) 0) os []

abbrev pub step_of : List Out → Vars → Effect → Step
step_of os vs e = record {
  answer = answer_of e.answer;
  outs = hands_out os e;
  next = state_with (wrote e.second (wrote e.first vs)) e.spot e.status;
}

-- ---- what is looked up

-- what an operand holds; a literal as if a name held it
abbrev pub operand_cell : Vars → Operand → Cell
operand_cell vs (Operand.Name n) = cell_at vs n
operand_cell vs (Operand.Literal l) = Some (l, 0)

pub record Reads (vs : Vars) (o : Operands) (k : Cells) : Type 0 where
  pub first : operand_cell vs o.a ≡ k.a
  pub second : operand_cell vs o.b ≡ k.b
  pub third : operand_cell vs o.c ≡ k.c
  pub fourth : operand_cell vs o.d ≡ k.d

abbrev pub chosen_of : Chosen → rules.Chosen
chosen_of (Chosen.Into i) = rules.into i
chosen_of (Chosen.Beyond i) = rules.beyond i
chosen_of (Chosen.Bad f) = rules.bad (fault_number f)

-- what a mate that is tried leads to, where the mates after it lead to r
abbrev pub tried_by : Maybe Chosen → rules.Chosen → rules.Chosen
tried_by (Some c) r = chosen_of c
tried_by None r = r

-- the item at j, tried where it belongs to the box that opens at p
abbrev pub tried_at : List Item → Vars → ℕ → ℕ → rules.Chosen → rules.Chosen
tried_at xs vs p j r = cond (belongs p (item_at xs j) (boxes_at xs j)) (tried vs (item_at xs j) j r) r

-- where an if at which the run stands leads
abbrev pub chosen_at : List Item → State → Item → rules.Chosen
chosen_at xs m (Item.Act a) = rules.into 0
chosen_at xs m (Item.Pack p) = rules.into 0
chosen_at xs m (Item.Open (Head.If c)) = cond (holds m.vars c) (rules.into (suc m.at)) (otherwise xs m)
chosen_at xs m (Item.Open (Head.Loop c)) = rules.into 0
chosen_at xs m (Item.Open (Head.Sweep w)) = rules.into 0
chosen_at xs m (Item.Branch b) = rules.into 0
chosen_at xs m (Item.Close e) = rules.into 0
chosen_at xs m Item.Break = rules.into 0
chosen_at xs m Item.Tag = rules.into 0

-- the first of the boxes: past its closing mark; whether it is a measuring loop
abbrev pub close_top : List Item → List ℕ → ℕ
close_top xs [] = 0
close_top xs (p ∷ ps) = past (close_of xs p)

abbrev pub sweep_top : List Item → List ℕ → Bool
sweep_top xs [] = false
sweep_top xs (p ∷ ps) = opens_a is_sweep (item_at xs p)

-- the boxes from the one that an item is about outwards
abbrev pub about_of : List Item → ℕ → List ℕ → Item → List ℕ
about_of xs i ps (Item.Act a) = []
about_of xs i ps (Item.Pack p) = []
about_of xs i ps (Item.Open h) = i ∷ []
about_of xs i ps (Item.Branch b) = ps
about_of xs i ps (Item.Close e) = ps
about_of xs i ps Item.Break = unwind xs ps
about_of xs i ps Item.Tag = []

abbrev pub open_at : Spot → List ℕ
open_at s = tops s.boxes s.depth

abbrev pub about : List Item → Spot → Item → List ℕ
about xs s x = about_of xs s.at (open_at s) x

-- what the marks say around the item x at which the run stands
pub record Surrounds (xs : List Item) (s : Spot) (x : Item) (w : Around) : Type 0 where
  pub stray : w.stray ≡ astray xs (live_state [] s) x
  pub close : w.close ≡ close_top xs (about xs s x)
  pub sweep : is_open x ≡ false → w.sweep ≡ sweep_top xs (about xs s x)
  pub outside : x ≡ Item.Break → tops s.boxes w.outside ≡ outer (about xs s x)

abbrev pub or_last : ℕ → Option ℕ → ℕ
or_last n none = n
or_last n (some i) = i

-- all that is looked up at an item
pub record Here (xs : List Item) (vs : Vars) (s : Spot) (k : Looked) : Type 0 where
  pub item : item_at xs s.at ≡ k.item
  pub read : Reads vs (operands.operands_of k.item) k.cells
  pub chosen : chosen_of k.chosen ≡ chosen_at xs (live_state vs s) k.item
  pub around : Surrounds xs s k.item k.around

-- all that is looked up for one step
pub record LooksUp (xs : List Item) (vs : Vars) (s : Spot) (k : Looked) : Type 0 where
  pub few : length xs ≤ 128
  pub deep : s.depth ≤ 8
  pub wide : length s.boxes ≡ 8
  pub count : k.count ≡ length xs
  pub tag : k.tag ≡ or_last (length xs) (tag_from 0 xs)
  pub sweeping : k.around.sweeping ≡ any_open is_sweep xs (open_at s)
  pub here : s.at < length xs → Here xs vs s k

-- ---- where a run in shape stands

pub record Stands (m : State) : Type 0 where
  pub within : m.at ≤ 128
  pub few : length m.boxes ≤ 8

-- 63 of an opening mark, where b says whether it is a loop's
abbrev pub ninth : State → Bool → Bool
ninth m b = leb 8 (length m.boxes) && not (b && inside m.at m.boxes)

-- one open box in shape
abbrev pub box_ok : List Item → ℕ → Bool
box_ok xs p = ltb p (length xs) && is_open (item_at xs p) && not (is_none (close_of xs p))

-- ---- a step

-- a step of the items xs, where b says whether table and state are in shape
abbrev pub step_known : Bool → List Item → State → Control → Offer → Step
step_known b xs m c o = cond b (again m.status m (moved xs m (told xs m c) o)) (shapeless m)

-- a step that takes no item hands out nothing, and changes nothing but the flags that a control sets
abbrev pub Faithful : State → Step → Type 0
Faithful m₀ s = stays m₀.status s.answer ≡ true
    → (s.outs ≡ []) × (s.next ≡ flagged m₀ s.next.pending s.next.skip)

pub record Settled (before : coded.State) (s : Step) (x : Stepped) : Type 0 where
  pub says : meaning x ≡ s
  pub rests : stays (state_of before).status (answer_of x.answer) ≡ true → x.state.boxes ≡ before.boxes
  pub neat : stays (state_of before).status (answer_of x.answer) ≡ false → Neat x.state
  pub blank : Blank x
  pub few : x.count ≤ 8

-- ---- what is left after steps

abbrev pub count_of : What → ℕ
count_of What.Nothing = 0
count_of (What.Enter s) = 1
count_of (What.Leave s) = 1
count_of What.Start = 1
count_of (What.Part v t) = 1
count_of What.End = 1
count_of (What.Text t) = 1
count_of (What.Order o) = 1

-- the state before, with the flags of a spot, where no step took an item; otherwise the run as it is, with nothing past
-- its open boxes
pub record LeftAs (stayed : Bool) (before : coded.State) (s : Spot) (status : Status) (vars : List Cell)
    (r : coded.State) : Type 0 where
  pub kept : stayed ≡ true
      → (state_of r ≡ flagged (state_of before) s.pending s.skip) × (r.boxes ≡ before.boxes)
  pub neat : stayed ≡ false → (state_of r ≡ state_with (cells_of vars) s status) × Neat r
