-- No second answer fits a public function's contract.
use Rattle.std.proofs.Common.{Option}
use Prim.Native.Nat.{ℕ}
use mathlib.Core.Bool.{Bool, true, false}
use mathlib.Core.List.{List}
use mathlib.Core.Path.{◌≡◌, refl, sym, ap, ◌∙◌}
use lib.ListN.{length}
use Rattle.laws.specs.Least.{least}
use Rattle.table.specs.declared.Item.{Item}
use Rattle.table.specs.declared.Table.{Table}
use Rattle.table.specs.Shape.{items_of}
use Rattle.mates.specs.declared.Marks.{Marks}
use Rattle.mates.specs.Code.{roles_of, marks_of}
use Rattle.state.specs.declared.Status.{Status}
use Rattle.state.specs.State.{Cell}
use Rattle.state.specs.declared.What.{What}
use Rattle.state.specs.declared.State as coded
use Rattle.state.proofs.Tight.{same_run, same_state}
use Rattle.operands.specs.Code.{Cells, Written}
use Rattle.effect.specs.declared.Around.{Around}
use Rattle.effect.specs.declared.Chosen.{Chosen}
use Rattle.effect.specs.declared.Spot.{Spot}
use Rattle.steps.specs.Code.{count_of, wrote, LeftAs}
use Rattle.lookup.specs.declared.Survey.{Survey}
use Rattle.lookup.specs.Lookup.{sizes_ok, Surveys, state_in, spot_of, cells_at, Lays, leave_of, around_in, tried_in}

-- ---- the state's parts

pub only_at_most : (n most r r' : ℕ) → r ≡ least n most → r' ≡ least n most → r ≡ r'
only_at_most n most r r' e f = e ∙ sym f

pub only_spot_of : (m : coded.State) (r r' : Spot) → r ≡ spot_of m → r' ≡ spot_of m → r ≡ r'
only_spot_of m r r' e f = e ∙ sym f

-- an array of the code has its length
pub only_state_after : (stayed : Bool) (before : coded.State) (s : Spot) (status : Status) (vars : List Cell)
    (r r' : coded.State)
    → length r.boxes ≡ 8 → length r'.boxes ≡ 8
    → LeftAs stayed before s status vars r → LeftAs stayed before s status vars r' → r ≡ r'
only_state_after true before s status vars r r' z z' e f =
    same_run r r' ((e.kept refl).0 ∙ sym (f.kept refl).0) ((e.kept refl).1 ∙ sym (f.kept refl).1)
only_state_after false before s status vars r r' z z' e f =
    same_state r r' z z' ((e.neat refl).0 ∙ sym (f.neat refl).0) (e.neat refl).1 (f.neat refl).1

pub only_things_in : (w : What) (r r' : ℕ) → r ≡ count_of w → r' ≡ count_of w → r ≡ r'
only_things_in w r r' e f = e ∙ sym f

pub only_cells_at : (x : Item) (vars : List Cell) (r r' : Cells) → r ≡ cells_at x vars → r' ≡ cells_at x vars → r ≡ r'
only_cells_at x vars r r' e f = e ∙ sym f

pub only_put : (w : Written) (vars r r' : List Cell) → r ≡ wrote w vars → r' ≡ wrote w vars → r ≡ r'
only_put w vars r r' e f = e ∙ sym f

pub only_lay : (things r r' : List What) (n k k' : ℕ) (w : What) → Lays things n w r k → Lays things n w r' k'
    → (r ≡ r') × (k ≡ k')
only_lay things r r' n k k' w e f = (e.laid ∙ sym f.laid, e.counted ∙ sym f.counted)

-- ---- the shape

pub only_sizes_ok : (items names : ℕ) (r r' : Bool) → r ≡ sizes_ok items names → r' ≡ sizes_ok items names → r ≡ r'
only_sizes_ok items names r r' e f = e ∙ sym f

survey_from : ℕ → Marks → ℕ → Bool → Survey
survey_from n ms tag b = record { count = n; marks = ms; tag = tag; sound = b }

survey_from_lem : (r : Survey) → survey_from r.count r.marks r.tag r.sound ≡ r
unfolding survey_from
survey_from_lem r = refl

pub only_survey_of : (size : ℕ) (t : Table) (r r' : Survey) → Surveys size t r → Surveys size t r' → r ≡ r'
only_survey_of size t r r' e f =
    let n : r.count ≡ r'.count = e.count ∙ sym f.count in
    let m : r.marks ≡ r'.marks =
    e.marks ∙ ap (λ (k : ℕ). marks_of (roles_of (items_of t)) k) n ∙ sym f.marks in
    let g : r.tag ≡ r'.tag = e.tag ∙ rw (m, n) (sym f.tag) in
    let s : r.sound ≡ r'.sound = e.sound ∙ sym f.sound in
    let w : survey_from r.count r.marks r.tag r.sound ≡ survey_from r'.count r'.marks r'.tag r'.sound = cc in
    sym (survey_from_lem r) ∙ w ∙ survey_from_lem r'

module _ (marks : Marks) where
  pub only_state_ok : (n : ℕ) (m : coded.State) (r r' : Bool) → r ≡ state_in marks.at n m
      → r' ≡ state_in marks.at n m → r ≡ r'
  only_state_ok n m r r' e f = e ∙ sym f

  -- ---- around an item

  pub only_leave_mark : (p : ℕ) (r r' : What) → r ≡ leave_of marks.at p → r' ≡ leave_of marks.at p → r ≡ r'
  only_leave_mark p r r' e f = e ∙ sym f

  pub only_around_of : (s : Spot) (x : Item) (r r' : Around) → r ≡ around_in marks.at s x
      → r' ≡ around_in marks.at s x → r ≡ r'
  only_around_of s x r r' e f = e ∙ sym f

  pub only_try_at : (x : Item) (k : Cells) (p j : ℕ) (r r' : Option Chosen) → r ≡ tried_in marks.at x k p j
      → r' ≡ tried_in marks.at x k p j → r ≡ r'
  only_try_at x k p j r r' e f = e ∙ sym f
