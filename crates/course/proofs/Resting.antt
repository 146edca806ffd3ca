-- What steps that take no item leave, one after the other: all of the state, with the controls of the waits.
use Prim.Native.Nat.{ℕ}
use mathlib.Core.Path.{◌≡◌, refl, sym, ap, subst, ◌∙◌}
use mathlib.Core.Bool.{true, false}
use mathlib.Core.List.{List, [], ◌∷◌}
use Rattle.table.specs.declared.Item.{Item}
use Rattle.table.specs.declared.Table.{Table}
use Rattle.table.specs.Shape.{items_of}
use Rattle.state.specs.declared.Control.{Control}
use Rattle.state.specs.declared.Offer.{Offer}
use Rattle.state.specs.State as rules
use Rattle.state.specs.State.{State, stays}
use Rattle.state.specs.Meaning.{state_of, Neat}
use Rattle.state.proofs.Tight.{same_run}
use Rattle.state.specs.declared.State as coded
use Rattle.steps.specs.Machine.{step}
use Rattle.steps.specs.Resting.{resting}
use Rattle.steps.proofs.Shapes.{and_l, and_r}
use Rattle.steps.proofs.Keeping.{step_rests}
use Rattle.steps.proofs.Resting.{Alike, same_alike, resting_run, resting_alike}
use Rattle.course.specs.Course.{Course, run_from, all_stay, resting_all, Comes}

pub all_alike : (xs : List Item) (m : coded.State) (ps : List (Control × Offer)) (l : List rules.Answer)
    → Alike (resting_all xs m ps l) m
all_alike xs m [] l = same_alike m
all_alike xs m (p ∷ ps) [] = same_alike m
all_alike xs m (p ∷ ps) (a ∷ l) =
    let e = all_alike xs (resting xs m p.0 a) ps l in
    let f = resting_alike xs m p.0 a in
    record { row = e.row ∙ f.row; deep = e.deep ∙ f.deep; stood = e.stood ∙ f.stood }

module _ (size : ℕ) (t : Table) where
  abbrev Resting : State → coded.State → rules.Status → List (Control × Offer) → Type 0
  Resting x m k ps =
      all_stay k (run_from size t x ps).answers ≡ true
      → (run_from size t x ps).last ≡ state_of (resting_all (items_of t) m ps (run_from size t x ps).answers)

  all_rest : (m : coded.State) (ps : List (Control × Offer)) → Resting (state_of m) m (state_of m).status ps
  unfolding run_from
  all_rest m [] q = refl
  all_rest m (p ∷ ps) q =
      let s = step size t (state_of m) p.0 p.1 in
      let n = resting (items_of t) m p.0 s.answer in
      let l = (run_from size t s.next ps).answers in
      let k = (state_of m).status in
      let came : s.next ≡ state_of n =
      (step_rests size t (state_of m) p.0 p.1 (and_l (stays k s.answer) (all_stay k l) q)).1
      ∙ sym (resting_run (items_of t) m p.0 s.answer) in
      let on : Resting (state_of n) n k ps =
      subst (λ (z : rules.Status). Resting (state_of n) n z ps)
      (resting_alike (items_of t) m p.0 s.answer).stood (all_rest n ps) in
      subst (λ (x : State). Resting x n k ps) (sym came) on (and_r (stays k s.answer) (all_stay k l) q)

  -- where the row of boxes is as it was, so is the whole state
  pub comes_by : (m : coded.State) (ps : List (Control × Offer)) (c : Course) (last : coded.State)
      → c ≡ run_from size t (state_of m) ps
      → state_of last ≡ c.last
      → (all_stay (state_of m).status c.answers ≡ true → last.boxes ≡ m.boxes)
      → (all_stay (state_of m).status c.answers ≡ false → Neat last)
      → Comes size t m ps c last
  comes_by m ps c last says means row neat = record { says = says; means = means; rests = rests; neat = neat }
    where
      rests : all_stay (state_of m).status c.answers ≡ true → last ≡ resting_all (items_of t) m ps c.answers
      rests q =
          let p = sym (ap (λ (z : Course). all_stay (state_of m).status z.answers) says) ∙ q in
          same_run last (resting_all (items_of t) m ps c.answers)
          (means
          ∙ ap (λ (z : Course). z.last) says
          ∙ all_rest m ps p
          ∙ ap (λ (z : Course). state_of (resting_all (items_of t) m ps z.answers)) (sym says))
          (row q ∙ sym (all_alike (items_of t) m ps c.answers).row)
