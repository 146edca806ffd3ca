-- One turn up to its effect: what its calls said, place by place, and that the effect is 01's step.
use Rattle.std.proofs.Common.{Option}
use Prim.Native.Nat.{ℕ, ◌+◌, ◌-◌, ◌≤◌, ◌<◌}
use mathlib.Core.Path.{◌≡◌, refl, sym, ap, ◌∙◌}
use mathlib.Core.Bool.{Bool, true, false, ◌&&◌}
use mathlib.Core.List.{List, ◌++◌}
use native.Mathlib.Omega.{arith}
use lib.ListN.{length, get_or, take, length-append}
use lib.Seq.{length-take-le}
use Rattle.laws.specs.Least.{least}
use Rattle.laws.proofs.Least.{least_most}
use Rattle.laws.proofs.Bools.{no'}
use Rattle.table.specs.declared.Item.{Item}
use Rattle.table.specs.declared.Table.{Table}
use Rattle.table.specs.Shape.{items_of, no_slot, in_shape}
use Rattle.mates.specs.declared.Mark.{Mark}
use Rattle.mates.specs.Mates.{item_at}
use Rattle.mates.specs.Code.{Marked, tag_in}
use Rattle.state.specs.State.{Out, State, Step}
use Rattle.state.specs.Meaning.{cells_of, outs_of, state_of}
use Rattle.state.proofs.Boxes.{tops-length}
use Rattle.state.proofs.Names.{no_var}
use Rattle.state.proofs.Things.{outs-length}
use Rattle.effect.specs.Code as effects
use Rattle.operands.specs.Code as operands
use Rattle.effect.specs.declared.Spot.{Spot}
use Rattle.effect.specs.declared.Effect.{Effect}
use Rattle.effect.specs.declared.Around.{Around}
use Rattle.operands.specs.Code.{Cells}
use Rattle.effect.specs.declared.Chosen.{Chosen}
use Rattle.effect.specs.declared.Looked.{Looked}
use Rattle.operands.specs.Code.{Operands}
use Rattle.operands.specs.Code.{Places}
use Rattle.state.specs.declared.Control.{Control}
use Rattle.state.specs.declared.Offer.{Offer}
use Rattle.state.specs.declared.Status.{Status}
use Rattle.state.specs.declared.What.{What}
use Rattle.state.specs.State.{Cell}
use Rattle.state.specs.declared.State as coded
use Rattle.steps.specs.Machine.{leave_outs, state_ok}
use Rattle.steps.specs.Code.{state_with, step_of, operand_cell, chosen_of, tried_by, open_at, Here}
use Rattle.steps.specs.Code.{LooksUp, step_known}
use Rattle.steps.proofs.Effecting.{effect_is}
use Rattle.steps.proofs.Lookups.{reads_all, reads_first, reads_second, mates, tried_all, first_tried, count_is}
use Rattle.steps.proofs.Lookups.{items_few, item_clamped, tag_is, goes_on, tried_more, item_here}
use Rattle.steps.proofs.Shapes.{and_r, shape_stands}
use Rattle.lookup.specs.Lookup.{state_in, spot_of, cells_at, around_in, tried_in}
use Rattle.lookup.proofs.Laying.{Laid}
use Rattle.lookup.proofs.Passing.{Surveyed}
use Rattle.lookup.proofs.Seeing.{state_seen, sweeping_seen, around_seen, tried_seen}

-- a run whose table and state are in shape has at most eight open boxes
known_deep : (size : ℕ) (t : Table) (vars : List Cell) (s : Spot) (st : Status) (b : Bool) → length t.items ≡ 128
    → b ≡ (in_shape size t && state_ok (items_of t) (state_with (cells_of vars) s st)) → b ≡ true → s.depth ≤ 8
known_deep size t vars s st b full e q =
    rw (tops-length s.boxes s.depth) at
    (shape_stands (items_of t) (state_with (cells_of vars) s st) (items_few t full)
    (and_r (in_shape size t) (state_ok (items_of t) (state_with (cells_of vars) s st)) (sym e ∙ q))).few

-- boxes are left only where they are in shape
leaves_deep : (b : Bool) (s : Spot) (st : Status) (k : Looked) (c : Control) (o : Offer) (e : Effect)
    → (b ≡ true → s.depth ≤ 8)
    → e ≡ effects.effect_of b s st k c o → e.leaves ≡ true → s.depth ≤ 8
leaves_deep true s st k c o e d q z = d refl
leaves_deep false s st k c o e d q z = no' (sym (ap (λ (x : Effect). x.leaves) q) ∙ z)

-- how many things were laid
pub laid_count : (n h₀ h : ℕ) (hs hs₀ : List What) (os : List Out) → length hs₀ ≡ n → h₀ ≤ n → h ≤ n
    → Laid n hs h (take h₀ (outs_of hs₀) ++ os) → h - h₀ ≡ length os
laid_count n h₀ h hs hs₀ os l p q w =
    let a : length (take h (outs_of hs)) ≡ h = length-take-le h (outs_of hs) (omega (arith, outs-length hs, w.wide)) in
    let b : length (take h₀ (outs_of hs₀)) ≡ h₀ = length-take-le h₀ (outs_of hs₀) (omega (arith, outs-length hs₀)) in
    let c : length (take h (outs_of hs)) ≡ length (take h₀ (outs_of hs₀)) + length os = ap length w.taken
    ∙ length-append (take h₀ (outs_of hs₀)) os in
    omega arith

-- table and state are judged by the pass and by the state's own test
known_by : (size : ℕ) (t : Table) (m : coded.State) (ms : List Mark) (a b : Bool) (n : ℕ) → length t.items ≡ 128
    → Marked (items_of t) ms
    → a ≡ in_shape size t → b ≡ state_in ms n m → n ≡ least t.count 128
    → (a && b) ≡ (in_shape size t && state_ok (items_of t) (state_of m))
known_by size t m ms a b n full k e f c =
    rw (e, f) (ap (λ (z : Bool). in_shape size t && z) (state_seen k n m (count_is t full ∙ sym c)))

-- ---- where a turn begins

abbrev pub Known : Bool → ℕ → Table → State → Type 0
Known b size t m = b ≡ (in_shape size t && state_ok (items_of t) m)

-- the values with which a turn begins
pub record Stage : Type 0 where
  pub size : ℕ
  pub table : Table
  pub marks : List Mark
  pub count : ℕ
  pub tag : ℕ
  pub shaped : Bool
  pub vars : List Cell
  pub spot : Spot
  pub status : Status

abbrev pub stage : ℕ → Table → List Mark → ℕ → ℕ → Bool → List Cell → Spot → Status → Stage
stage size t ms n tag b vars s st = record {
  size = size;
  table = t;
  marks = ms;
  count = n;
  tag = tag;
  shaped = b;
  vars = vars;
  spot = s;
  status = st;
}

abbrev pub run_at : Stage → State
run_at g = state_with (cells_of g.vars) g.spot g.status

abbrev pub step_at : Stage → Control → Offer → Step
step_at g c o = step_known g.shaped (items_of g.table) (run_at g) c o

-- what is known where a turn begins
pub record Turning (g : Stage) : Type 0 where
  pub full : length g.table.items ≡ 128
  pub marked : Marked (items_of g.table) g.marks
  pub count : g.count ≡ least g.table.count 128
  pub tag : g.tag ≡ tag_in g.marks g.count
  pub known : Known g.shaped g.size g.table (run_at g)
  pub row : length g.vars ≡ 32
  pub wide : length g.spot.boxes ≡ 8

-- the run that stands at the spot of a state is the state's
pub stands_at : (m : coded.State) {s : Spot} → s ≡ spot_of m → state_with (cells_of m.vars) s m.status ≡ state_of m
stands_at m e = rw e

-- by the calls before the first turn
pub turning_by : {size : ℕ} {t : Table} {ms : List Mark} {b : Bool} {n tag : ℕ} (m : coded.State) (s : Spot) (ok : Bool)
    → Surveyed size t ms b
    → length t.items ≡ 128 → length m.vars ≡ 32 → length m.boxes ≡ 8 → n ≡ least t.count 128
    → ok ≡ state_in ms n m → tag ≡ tag_in ms n → s ≡ spot_of m
    → Turning (stage size t ms n tag (b && ok) m.vars s m.status)
turning_by {size} {t} {ms} {b} {n} {tag} m s ok survey full row wide count judged tagged stands = record {
  full = full;
  marked = survey.marks;
  count = count;
  tag = tagged;
  known = known_by size t m ms b ok n full survey.marks survey.shaped judged count ∙ rw stands;
  row = row;
  wide = rw stands wide;
}

-- ---- the mates that are tried

-- the item x where the run stands is read with its cells k, and its mates before j are tried
pub record Trying (g : Stage) (c : Control) (o : Offer) (x : Item) (k : Cells) (found : Option Chosen) (j : ℕ)
    : Type 0 where
  pub head : Turning g
  pub item : x ≡ (get_or g.table.items (least g.spot.at 127) no_slot).item
  pub cells : k ≡ cells_at x g.vars
  pub same : tried_by found (mates (items_of g.table) (cells_of g.vars) g.spot.at j)
      ≡ tried_by (effects.try_first x k g.spot.at)
      (mates (items_of g.table) (cells_of g.vars) g.spot.at g.spot.at)

abbrev pub stage_of : {g : Stage} {c : Control} {o : Offer} {x : Item} {k : Cells} {found : Option Chosen} {j : ℕ}
    → Trying g c o x k found j
    → Stage
stage_of {g} w = g

pub trying_starts : {g : Stage} {c : Control} {o : Offer} {here : ℕ} {k : Cells}
    {found : Option Chosen} → Turning g → here ≡ least g.spot.at 127
    → k ≡ cells_at (get_or g.table.items here no_slot).item g.vars
    → found ≡ effects.try_first (get_or g.table.items here no_slot).item k g.spot.at
    → Trying g c o (get_or g.table.items here no_slot).item k found g.spot.at
trying_starts {g} {c} {o} {here} {k} {found} w h q r = record {
  head = w;
  item = ap (λ (n : ℕ). (get_or g.table.items n no_slot).item) h;
  cells = q;
  same =
      ap (λ (z : Option Chosen). tried_by z (mates (items_of g.table) (cells_of g.vars) g.spot.at g.spot.at)) r;
}

module _ {g : Stage} {c : Control} {o : Offer} {x : Item} {k : Cells} {found : Option Chosen} {j : ℕ}
    (w : Trying g c o x k found j) {b : Bool} (on : b ≡ effects.tries_on found j g.count) where
  pub mate_below : b ≡ true → (j < g.count) × (j < 128)
  mate_below y =
      let q : j < g.count = (goes_on found j g.count (sym on ∙ y)).1 in
      (q, omega (arith, q, w.head.count, least_most g.table.count 128))

  -- one turn of the loop: the mate at j is read and tried
  pub trying_on : {k' : Cells} {found' : Option Chosen} → b ≡ true
      → k' ≡ cells_at (get_or g.table.items j no_slot).item g.vars
      → found' ≡ tried_in g.marks (get_or g.table.items j no_slot).item k' g.spot.at j
      → Trying g c o x k found' (j + 1)
  trying_on {k'} {found'} y q tried =
      let below : j < length (items_of g.table) =
      rw (count_is g.table w.head.full, ← w.head.count) (mate_below y).0 in
      let mate = operands.operands_of (get_or g.table.items j no_slot).item in
      record {
        head = w.head;
        item = w.item;
        cells = w.cells;
        same =
            tried_more found found' (items_of g.table) (cells_of g.vars) g.spot.at j
            (tried_by (effects.try_first x k g.spot.at)
            (mates (items_of g.table) (cells_of g.vars) g.spot.at g.spot.at))
            (goes_on found j g.count (sym on ∙ y)).0 below
            (λ r. rw tried (tried_seen w.head.marked (get_or g.table.items j no_slot).item k' g.spot.at j
            (cells_of g.vars) r (item_here g.table w.head.full j below) (mate_below y).1
            (rw q (reads_first g.vars w.head.row mate)) (rw q (reads_second g.vars w.head.row mate))))
            w.same;
      }

-- ---- the effect

-- the effect e, applied to the run, is the step
pub record Effected (g : Stage) (c : Control) (o : Offer) (e : Effect) : Type 0 where
  pub head : Turning g
  pub is : step_of (leave_outs (items_of g.table) (open_at g.spot)) (cells_of g.vars) e ≡ step_at g c o
  pub deep : e.leaves ≡ true → g.spot.depth ≤ 8

abbrev pub EffectedBy : {g : Stage} {c : Control} {o : Offer} {x : Item} {k : Cells} {found : Option Chosen} {j : ℕ}
    → Trying g c o x k found j → Effect
    → Type 0
EffectedBy {g} {c} {o} w e = Effected g c o e

-- no mate is left to try, and the marks around are known
module _ {g : Stage} {c : Control} {o : Offer} {x : Item} {k : Cells} {found : Option Chosen} {j : ℕ}
    (w : Trying g c o x k found j) {b : Bool} (on : b ≡ effects.tries_on found j g.count) (ended : b ≡ false)
    {to : Chosen} (chosen : to ≡ effects.chosen_by found) (a : Around)
    (around : a ≡ around_in g.marks g.spot x) where
  abbrev looks_at : Looked
  looks_at = record { item = x; cells = k; chosen = to; tag = g.tag; count = g.count; around = a }

  all_counted : g.count ≡ length (items_of g.table)
  all_counted = w.head.count ∙ sym (count_is g.table w.head.full)

  looks_here : g.spot.depth ≤ 8 → g.spot.at < length (items_of g.table)
      → Here (items_of g.table) (cells_of g.vars) g.spot looks_at
  looks_here d q =
      let item : item_at (items_of g.table) g.spot.at ≡ x =
      item_clamped g.table w.head.full g.spot.at q ∙ sym w.item in
      let read = rw (← w.cells) at (reads_all g.vars w.head.row (operands.operands_of x)) in
      record {
        item = item;
        read = read;
        chosen =
            ap chosen_of chosen
            ∙ tried_all found (items_of g.table) (cells_of g.vars) g.spot.at j g.count (sym on ∙ ended)
            (omega (arith, all_counted))
            ∙ w.same
            ∙ first_tried (items_of g.table) (cells_of g.vars) g.spot x k
            (omega (arith, items_few g.table w.head.full)) read;
        around = rw around (around_seen w.head.marked g.spot d x item);
      }

  looks_up : g.spot.depth ≤ 8 → LooksUp (items_of g.table) (cells_of g.vars) g.spot looks_at
  looks_up d = record {
    few = items_few g.table w.head.full;
    deep = d;
    wide = w.head.wide;
    count = all_counted;
    tag = w.head.tag ∙ tag_is (items_of g.table) g.marks w.head.marked g.count all_counted;
    sweeping = rw around (sweeping_seen w.head.marked g.spot d x);
    here = looks_here d;
  }

  in_shape_lem : g.shaped ≡ true → g.spot.depth ≤ 8
  in_shape_lem =
      known_deep g.size g.table g.vars g.spot g.status g.shaped w.head.full w.head.known

  pub effected : {e : Effect} → e ≡ effects.effect_of g.shaped g.spot g.status looks_at c o → Effected g c o e
  effected {e} q = record {
    head = w.head;
    is = rw q (effect_is (items_of g.table) (cells_of g.vars) g.spot looks_at c o g.shaped g.status
        (λ z. looks_up (in_shape_lem z)));
    deep = leaves_deep g.shaped g.spot g.status looks_at c o e in_shape_lem q;
  }
