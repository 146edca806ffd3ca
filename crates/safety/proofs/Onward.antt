-- A run of an accepted text in parts, as many as one likes.
use Rattle.std.proofs.Common.{Option, None, Ok}
use Prim.Native.Nat.{ℕ, zero, suc}
use mathlib.Core.Path.{◌≡◌, refl, sym, ap, subst, ◌∙◌}
use mathlib.Core.Bool.{Bool, true, false, cond}
use mathlib.Core.List.{List, [], ◌∷◌, ◌++◌}
use native.Mathlib.Omega.{arith}
use lib.Dec.{eqb}
use lib.ListN.{length, replicate}
use borrow.Author.Tests.{eqb-true}
use Rattle.table.specs.declared.Kind.{Kind}
use Rattle.table.specs.declared.Item.{Item}
use Rattle.table.specs.declared.Table.{Table}
use Rattle.table.specs.Shape.{in_shape, items_of}
use Rattle.table.specs.ReadWrite.{lowest}
use Rattle.loader.specs.Load.{loaded}
use Rattle.rules.specs.Check.{Held as Walked, begin, kinds_of, refusals, refusals_at_end, after}
use Rattle.rules.specs.Check.{Verdict, accepted, refused, or_go, walk, at_line, walked, verdict}
use Rattle.state.specs.declared.Control.{Control}
use Rattle.state.specs.declared.Offer.{Offer}
use Rattle.state.specs.State.{State, fresh}
use Rattle.state.specs.Meaning.{state_of}
use Rattle.course.specs.Course.{Course, run_from, course_of}
use Rattle.course.specs.Parts.{followed, steps_of_all}
use Rattle.course.proofs.Parts.{in_parts, all_chain}
use Rattle.safety.specs.Safety.{Promises, all_allowed}
use Rattle.safety.specs.Outcome.{Outcome, refusal, judged, checked_outcome, outcome, meaning}
use Rattle.safety.specs.Outcome.{OnAndOn}
use Rattle.safety.proofs.Safe.{safe, safe_onward, promised_answers}

-- ---- the number 0 is that of an accepted text alone

abbrev number_in : Verdict → ℕ
number_in accepted = 0
number_in (refused n k) = n

abbrev Tells : Verdict → Type 0
Tells v = number_in v ≡ 0 → v ≡ accepted

go_tells : (n i : ℕ) (v : Verdict) → Tells v → Tells (or_go n i v)
go_tells zero i v f = f
go_tells (suc n) i v f = λ e. absurd (omega (arith, e))

walk_tells : (k : List (Option Kind)) (i : ℕ) (s : Walked) (xs : List Item) → Tells (walk k i s xs)
walk_tells k i s [] = go_tells (lowest (refusals_at_end s)) i accepted (λ e. refl)
walk_tells k i s (x ∷ xs) =
    go_tells (lowest (refusals k s x)) i (walk k (suc i) (after s x) xs) (walk_tells k (suc i) (after s x) xs)

line_tells : (t : Table) (v : Verdict) → Tells v → Tells (at_line t v)
line_tells t accepted f = λ e. refl
line_tells t (refused n i) f = λ e. ap (λ (v : Verdict). at_line t v) (f e)

walked_tells : (t : Table) → Tells (walked t)
walked_tells t = walk_tells (kinds_of (replicate 32 None) (items_of t)) 0 begin (items_of t)

verdict_tells : (size : ℕ) (t : Table) → Tells (verdict size t)
unfolding verdict
verdict_tells size t = go (in_shape size t)
  where
    go : (b : Bool) → Tells (cond b (at_line t (walked t)) (refused 30 0))
    go true = line_tells t (walked t) (walked_tells t)
    go false = λ e. absurd (omega (arith, e))

not_accepted : (n k : ℕ) → refused n k ≡ accepted → ⊥
not_accepted n k e = let z : ◌≡◌ {A = ℕ} 0 1 = cc in omega arith

not_both : true ≡ false → ⊥
not_both e = let z : ◌≡◌ {A = ℕ} 0 1 = cc in omega arith

-- where the number is 0, the text is accepted and the run is that from fresh
pub record Passed (text : List ℕ) (ps : List (Control × Offer)) (c : Course) : Type 0 where
  pub formed : (loaded text).number ≡ 0
  pub ok : verdict (length text) (loaded text).table ≡ accepted
  pub came : c ≡ run_from (length text) (loaded text).table fresh ps

checked_passed : (text : List ℕ) (ps : List (Control × Offer)) (o : Outcome)
    → (loaded text).number ≡ 0
    → o ≡ checked_outcome (length text) (loaded text).table ps
    → o.number ≡ 0
    → Passed text ps o.course
unfolding checked_outcome
checked_passed text ps o formed e z = go (verdict (length text) (loaded text).table) refl e
  where
    go : (v : Verdict) → verdict (length text) (loaded text).table ≡ v
        → o ≡ judged v (run_from (length text) (loaded text).table fresh ps) → Passed text ps o.course
    go accepted q f = record { formed = formed; ok = q; came = ap (λ (x : Outcome). x.course) f }
    go (refused n k) q f =
        let zero_in = ap number_in q ∙ sym (ap (λ (x : Outcome). x.number) f) ∙ z in
        let no = verdict_tells (length text) (loaded text).table zero_in in
        let bad : refused n k ≡ accepted = sym q ∙ no in
        absurd (not_accepted n k bad)

passed : (text : List ℕ) (ps : List (Control × Offer)) (o : Outcome) → o ≡ outcome text ps → o.number ≡ 0
    → Passed text ps o.course
unfolding outcome
passed text ps o e z = go (eqb (loaded text).number 0) refl e
  where
    go : (b : Bool) → eqb (loaded text).number 0 ≡ b
        → o ≡ cond b (checked_outcome (length text) (loaded text).table ps)
        (refusal (loaded text).number (loaded text).line)
        → Passed text ps o.course
    go true q f = checked_passed text ps o (eqb-true (loaded text).number 0 q) f z
    go false q f =
        let n : (loaded text).number ≡ 0 = sym (ap (λ (x : Outcome). x.number) f) ∙ z in
        let bad : ◌≡◌ {A = Bool} true false = rw n at q in
        absurd (not_both bad)

-- ---- on and on

pub on_and_on : OnAndOn
on_and_on text ps r calls e h =
    let size = length text in
    let t = (loaded text).table in
    let qs = steps_of_all calls in
    let m = r.state in
    let p = passed text ps (meaning (Ok r)) e refl in
    let c = all_chain size t m calls h in
    let at : state_of m ≡ (run_from size t fresh ps).last = ap (λ (x : Course). x.last) p.came in
    let onward : Promises size t (state_of m) qs =
    subst (λ (x : State). Promises size t x qs) (sym at) (safe_onward size t p.ok ps qs) in
    record {
      whole =
          ap (λ (x : Course). followed (course_of r) x) c.says
          ∙ ap (λ (x : State). followed (course_of r) (run_from size t x qs)) at
          ∙ ap (λ (x : Course). followed x (run_from size t (run_from size t fresh ps).last qs)) p.came
          ∙ sym (in_parts size t fresh ps qs);
      promises = safe size t p.ok (ps ++ qs);
      onward = onward;
      allowed =
          ap (λ (x : Course). all_allowed x.answers) c.says
          ∙ promised_answers size t p.ok qs (state_of m) onward;
    }
