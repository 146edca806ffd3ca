-- What one turn makes: an answer, the names after it, and things behind those that were there.
use Prim.Native.Nat.{ℕ, ◌+◌, ◌-◌, ◌≤◌}
use mathlib.Core.Path.{◌≡◌, ap, ◌∙◌}
use mathlib.Core.List.{List, ◌++◌}
use native.Mathlib.Omega.{arith}
use lib.ListN.{length, take}
use Rattle.table.specs.Shape.{items_of}
use Rattle.state.specs.State.{Step, Vars}
use Rattle.state.specs.Meaning.{answer_of, outs_of, cells_of}
use Rattle.state.specs.declared.Control.{Control}
use Rattle.state.specs.declared.Offer.{Offer}
use Rattle.state.specs.declared.What.{What}
use Rattle.state.specs.State.{Cell}
use Rattle.effect.specs.Code as effects
use Rattle.effect.specs.declared.Effect.{Effect}
use Rattle.steps.specs.Code.{state_with}
use Rattle.steps.proofs.Lookups.{RowWritten}
use Rattle.lookup.proofs.Laying.{Laid, laid_so, Begun, Leaves, leaves_end}
use Rattle.lookup.proofs.Looking.{Stage, step_at, Effected}

-- a call that asks for nothing
pub unasked : {A : Type 0} → A → Unit {0} → Unit {0}
unasked c κs = κs

-- what a turn makes that is the step s: an answer, the names after it, and the things hs behind those before
pub record Made
    (s : Step) (n : ℕ) (hs₀ : List What) (h₀ : ℕ) (e : Effect) (vars : List Cell) (hs : List What) (h : ℕ)
    : Type 0 where
  pub answer : answer_of e.answer ≡ s.answer
  pub next : state_with (cells_of vars) e.spot e.status ≡ s.next
  pub laid : Laid n hs h (take h₀ (outs_of hs₀) ++ s.outs)
  pub most : h ≤ h₀ + 8
  pub row : length vars ≡ 32

-- the effect is made, the names are written, and no box is left over
pub made : {g : Stage} {c : Control} {o : Offer} {e : Effect} {vars : List Cell} {n : ℕ} {hs₀ : List What} {h₀ : ℕ}
    {hs₂ : List What} {h₂ k₀ : ℕ} {hs : List What} {h k : ℕ} → Effected g c o e → RowWritten g.vars e vars
    → Begun n hs₀ h₀ e hs₂ h₂ → k₀ ≡ effects.boxes_left e.leaves g.spot.depth (h₂ - h₀)
    → Leaves n g.marks g.spot.boxes hs₂ h₂ k₀ h₀ hs h k → k ≤ 0
    → Made (step_at g c o) n hs₀ h₀ e vars hs h
made {g} {c} {o} {e} {vars} {n} {hs₀} {h₀} f v b q l z = record {
  answer = ap (λ (s : Step). s.answer) f.is;
  next = ap (λ (vs : Vars). state_with vs e.spot e.status) v.cells ∙ ap (λ (s : Step). s.next) f.is;
  laid =
      laid_so (leaves_end b g.spot q f.deep l z (items_of g.table) f.head.marked)
      (ap (λ (s : Step). take h₀ (outs_of hs₀) ++ s.outs) f.is);
  most = omega (arith, l.room);
  row = v.row;
}
