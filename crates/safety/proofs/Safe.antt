-- Demand 3: an accepted script never stops half way.
use Prim.Native.Nat.{ℕ}
use mathlib.Core.Path.{◌≡◌, refl}
use mathlib.Core.Bool.{Bool, true, false, ◌&&◌, cond}
use mathlib.Core.List.{List, [], ◌∷◌, ◌++◌}
use lib.Dec.{leb}
use lib.ListN.{length}
use borrow.Author.Tests.{leb-true}
use Rattle.table.specs.declared.Table.{Table}
use Rattle.table.specs.Shape.{items_of, items_ok, in_shape}
use Rattle.loader.specs.Load.{loaded}
use Rattle.rules.specs.Check.{Verdict, accepted, refused, at_line, walked, verdict}
use Rattle.state.specs.declared.Control.{Control}
use Rattle.state.specs.declared.Offer.{Offer}
use Rattle.state.specs.State.{State, fresh}
use Rattle.steps.specs.Machine.{step}
use Rattle.course.specs.Course.{run_from}
use Rattle.safety.specs.Safety.{Promises, Safe, SafeText, SafeOnward, SafeTextOnward, all_allowed}
use Rattle.safety.proofs.Laws.{and_l, and_r, and_t}
use Rattle.safety.proofs.Walk.{Accepted}
use Rattle.safety.proofs.Stands.{Good}
use Rattle.safety.proofs.Kept.{Kept, again_kept, fresh_good}

cond_accepted : (b : Bool) (v : Verdict) → cond b v (refused 30 0) ≡ accepted → (b ≡ true) × (v ≡ accepted)
cond_accepted true v e = (refl, e)
cond_accepted false v e = (cc, cc)

line_accepted : (t : Table) (v : Verdict) → at_line t v ≡ accepted → v ≡ accepted
line_accepted t accepted e = refl
line_accepted t (refused n i) e = cc

module _ (size : ℕ) (t : Table) (ok : verdict size t ≡ accepted) where
  in_shape_lem : in_shape size t ≡ true
  unfolding verdict
  in_shape_lem = (cond_accepted (in_shape size t) _ ok).0

  accepts : Accepted t.names size (items_of t)
  unfolding verdict in_shape
  accepts =
      let few = leb t.count 128 && leb t.names 32 in
      let shaped = items_ok t.names size (items_of t) in
      record {
        few = leb-true t.names 32 (and_r (leb t.count 128) (leb t.names 32) (and_l few shaped in_shape_lem));
        shaped = and_r few shaped in_shape_lem;
        passed = line_accepted t (walked t) (cond_accepted (in_shape size t) _ ok).1;
      }

  step_kept : (m : State) (c : Control) (o : Offer) → Good accepts m → Kept accepts m c o (step size t m c o)
  unfolding step
  step_kept m c o g = rw (in_shape_lem, g.shape) (again_kept accepts m c o g)

  runs_kept : (ps : List (Control × Offer)) (m : State) → Good accepts m → Promises size t m ps
  runs_kept [] m g = tt
  runs_kept (p ∷ ps) m g =
      let f = step_kept m p.0 p.1 g in
      (f.0, runs_kept ps (step size t m p.0 p.1).next f.1)

  -- of any accepted table
  pub safe : Safe size t
  safe ps = runs_kept ps fresh (fresh_good accepts)

  -- the promise of a run is that of each of its parts
  promised_onward : (ps qs : List (Control × Offer)) (m : State) → Promises size t m (ps ++ qs)
      → Promises size t (run_from size t m ps).last qs
  unfolding run_from
  promised_onward [] qs m h = h
  promised_onward (p ∷ ps) qs m h = promised_onward ps qs (step size t m p.0 p.1).next h.1

  pub safe_onward : SafeOnward size t
  safe_onward ps qs = promised_onward ps qs fresh (safe (ps ++ qs))

  pub promised_answers : (ps : List (Control × Offer)) (m : State) → Promises size t m ps
      → all_allowed (run_from size t m ps).answers ≡ true
  unfolding run_from
  promised_answers [] m h = refl
  promised_answers (p ∷ ps) m h =
      and_t h.0.answer (promised_answers ps (step size t m p.0 p.1).next h.1)

  pub answers_allowed : (ps : List (Control × Offer)) → all_allowed (run_from size t fresh ps).answers ≡ true
  answers_allowed ps = promised_answers ps fresh (safe ps)

-- and of any accepted text
pub safe_text : (text : List ℕ) → SafeText text
safe_text text formed ok = safe (length text) (loaded text).table ok

pub safe_text_onward : (text : List ℕ) → SafeTextOnward text
safe_text_onward text formed ok = safe_onward (length text) (loaded text).table ok
