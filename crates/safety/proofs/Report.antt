-- What a caller is told, by the answers of the loader and of the checker.
use Rattle.std.proofs.Common.{Result, Ok}
use Prim.Native.Nat.{ℕ}
use mathlib.Core.Path.{◌≡◌, refl, sym, ap, subst, ◌∙◌}
use mathlib.Core.Bool.{Bool, true, false, cond}
use mathlib.Core.List.{List}
use lib.Dec.{eqb}
use borrow.Author.Tests.{ne_eqb}
use native.Mathlib.Omega.{arith}
use lib.ListN.{length, take}
use lib.Seq.{take-take}
use Rattle.table.specs.declared.Table.{Table}
use Rattle.argument.specs.declared.Refusal.{Refusal as Form}
use Rattle.argument.specs.Refusal.{number_of as form_number}
use Rattle.loader.specs.Load as loads
use Rattle.loader.specs.Load.{loaded}
use Rattle.loader.proofs.Walk.{not_zero}
use Rattle.rules.specs.Check.{Verdict, accepted, refused, verdict}
use Rattle.vetting.specs.declared.Refusal.{Refusal}
use Rattle.state.specs.declared.Control.{Control}
use Rattle.state.specs.declared.Offer.{Offer}
use Rattle.state.specs.State.{fresh}
use Rattle.course.specs.declared.Steps.{Steps}
use Rattle.course.specs.declared.Ran.{Ran}
use Rattle.state.specs.Meaning.{state_of, Neat}
use Rattle.state.specs.declared.State as coded
use Rattle.course.specs.Course.{Course, run_from, all_told, steps_of, course_of, all_stay, resting_all, ExactRun}
use Rattle.course.proofs.Resting.{all_alike}
use Rattle.steps.proofs.Resting.{alike_neat}
use Rattle.table.specs.Shape.{items_of}
use Rattle.safety.specs.Safety.{all_allowed}
use Rattle.safety.specs.Outcome.{Outcome, refusal, judged, checked_outcome, outcome, Fixed, FixedIn, meaning}
use Rattle.safety.specs.Outcome.{ExactOutcome}
use Rattle.safety.proofs.Safe.{answers_allowed}

abbrev pub accepted_with : Course → Outcome
accepted_with c = record { number = 0; line = 0; course = c }

module _ (size : ℕ) (t : Table) (ps : List (Control × Offer)) where
  pub rules_yes : {c : Course} → accepted ≡ verdict size t → c ≡ run_from size t fresh ps
      → accepted_with c ≡ checked_outcome size t ps
  unfolding checked_outcome
  rules_yes p e = rw (← p, e)

  pub rules_no : (n k : ℕ) → refused n k ≡ verdict size t → refusal n k ≡ checked_outcome size t ps
  unfolding checked_outcome
  rules_no n k p = rw (← p)

module _ (text : List ℕ) (ps : List (Control × Offer)) where
  pub form_yes : {t : Table} → loads.meaning (Ok t) ≡ loaded text → checked_outcome (length text) t ps ≡ outcome text ps
  unfolding outcome
  form_yes p = rw (← p)

  pub form_no : (why : Form) (k : ℕ) → loads.refusal (form_number why) k ≡ loaded text
      → refusal (form_number why) k ≡ outcome text ps
  unfolding outcome
  form_no why k p = rw (← p, ne_eqb (form_number why) 0 (not_zero why))

-- ---- the promise

checked_allowed : (size : ℕ) (t : Table) (ps : List (Control × Offer))
    → all_allowed (checked_outcome size t ps).course.answers ≡ true
unfolding checked_outcome
checked_allowed size t ps = go (verdict size t) refl
  where
    go : (v : Verdict) → verdict size t ≡ v → all_allowed (judged v (run_from size t fresh ps)).course.answers ≡ true
    go accepted e = answers_allowed size t e ps
    go (refused n k) e = refl

pub promised : (text : List ℕ) (ps : List (Control × Offer)) → all_allowed (outcome text ps).course.answers ≡ true
unfolding outcome
promised text ps = go (eqb (loaded text).number 0)
  where
    go : (b : Bool)
        → all_allowed (cond b (checked_outcome (length text) (loaded text).table ps)
        (refusal (loaded text).number (loaded text).line)).course.answers ≡ true
    go true = checked_allowed (length text) (loaded text).table ps
    go false = refl

-- an answer that says what it should, and leaves nothing else in it
pub exact : {text : List ℕ} {ps : List (Control × Offer)} {r : Result Ran (Refusal × ℕ)} → meaning r ≡ outcome text ps
    → FixedIn r
    → ExactOutcome text ps r
exact {text} {ps} said leaves =
    record {
      says = said;
      allowed = ap (λ (o : Outcome). all_allowed o.course.answers) said ∙ promised text ps;
      fixed = leaves;
    }

-- ---- the run

pub from_fresh : {size : ℕ} {t : Table} {m : coded.State} (s : Steps) {r : Ran} → state_of m ≡ fresh
    → ExactRun size t m (take s.count (steps_of s)) r → course_of r ≡ run_from size t fresh (steps_of s)
from_fresh s f e = e.comes.says ∙ rw (f, take-take s.count s.count (all_told s.at) (omega arith))

-- a run from a neat state leaves a neat one
pub fixed : {size : ℕ} {t : Table} {m : coded.State} {ps : List (Control × Offer)} {r : Ran} → Neat m
    → ExactRun size t m ps r → Fixed r
fixed {size} {t} {m} {ps} {r} n e = record {
  neat = go (all_stay (state_of m).status (course_of r).answers) refl;
  blank = e.blank;
}
  where
    go : (b : Bool) → all_stay (state_of m).status (course_of r).answers ≡ b → Neat r.state
    go true q =
        subst Neat (sym (e.comes.rests q))
        (alike_neat (resting_all (items_of t) m ps (course_of r).answers) m
        (all_alike (items_of t) m ps (course_of r).answers) n)
    go false q = e.comes.neat q
