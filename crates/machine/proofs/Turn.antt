-- One turn is one step.
use Prim.Native.Nat.{ℕ, ◌≤◌}
use mathlib.Core.Path.{◌≡◌, refl, sym, ap, ◌∙◌}
use mathlib.Core.Bool.{Bool, true, false, ◌&&◌}
use mathlib.Core.List.{List}
use Rattle.table.specs.declared.Table.{Table}
use Rattle.table.specs.Shape.{in_shape, items_of}
use Rattle.state.specs.State as rules
use Rattle.state.specs.State.{State, Step, stays, flagged}
use Rattle.state.specs.Meaning.{state_of, answer_of, status_of, cells_of, meaning}
use Rattle.state.specs.declared.Answer.{Answer}
use Rattle.state.specs.declared.Control.{Control}
use Rattle.state.specs.declared.Offer.{Offer}
use Rattle.state.specs.declared.Status.{Status}
use Rattle.state.specs.declared.Stepped.{Stepped}
use Rattle.state.specs.declared.What.{What}
use Rattle.state.specs.State.{Cell}
use Rattle.state.specs.declared.State as coded
use Rattle.state.proofs.Tight.{same_run}
use Rattle.effect.specs.declared.Effect.{Effect}
use Rattle.effect.specs.declared.Spot.{Spot}
use Rattle.steps.specs.Machine.{told, state_ok, step}
use Rattle.steps.specs.Resting.{resting}
use Rattle.steps.specs.Code.{Settled, step_known, state_with, LeftAs}
use Rattle.steps.proofs.Answers.{known_step, known_faithful}
use Rattle.steps.proofs.Keeping.{left_of, step_rests}
use Rattle.steps.proofs.Resting.{resting_run, resting_alike}
use Rattle.lookup.proofs.Laying.{Laid}
use Rattle.lookup.proofs.Looking.{Known, Stage, run_at, step_at, Turning}
use Rattle.lookup.proofs.Making.{Made}
use Rattle.machine.specs.Exact.{Exact}

-- ---- the state that is handed back

-- where the row of boxes is as it was, so is the whole state
module _ (size : ℕ) (table : Table) (state : coded.State) (c : Control) (o : Offer) (s : Step) (r : Stepped)
    (x : Settled state s r) (e : s ≡ step size table (state_of state) c o) where
  said : meaning r ≡ step size table (state_of state) c o
  said = x.says ∙ e

  rested : stays (state_of state).status (answer_of r.answer) ≡ true
      → r.state ≡ resting (items_of table) state c (answer_of r.answer)
  rested q =
      let p = sym (ap (λ (z : Step). stays (state_of state).status z.answer) said) ∙ q in
      same_run r.state (resting (items_of table) state c (answer_of r.answer))
      (ap (λ (z : Step). z.next) said
      ∙ (step_rests size table (state_of state) c o p).1
      ∙ ap (λ (z : Step). left_of (state_of state) (told (items_of table) (state_of state) c) z.answer) (sym said)
      ∙ sym (resting_run (items_of table) state c (answer_of r.answer)))
      (x.rests q ∙ sym (resting_alike (items_of table) state c (answer_of r.answer)).row)

  pub settled_exact : Exact size table state c o r
  settled_exact = record { says = said; rests = rested; neat = x.neat; blank = x.blank; few = x.few }

-- ---- one step

module _ (size : ℕ) (t : Table) (b : Bool) (m₀ : coded.State) (m : State) (c : Control) (o : Offer) (a : Answer)
    (hs : List What) (h : ℕ)
    (vars : List Cell) (spot : Spot) (status : Status) (last : coded.State)
    (known : Known b size t (state_of m₀)) (start : m ≡ state_of m₀) where
  abbrev one : Step
  one = step_known b (items_of t) m c o

  module _ (e : answer_of a ≡ one.answer) (f : state_with (cells_of vars) spot status ≡ one.next)
      (laid : Laid 8 hs h one.outs) (most : h ≤ 8)
      (left : LeftAs (stays m.status (answer_of a)) m₀ spot status vars last) where
    abbrev answer : Stepped
    answer = record { state = last; answer = a; things = hs; count = h }

    lasts_one : (z : Bool) → stays m.status (answer_of a) ≡ z → state_of last ≡ one.next
    lasts_one true g =
        let k = (known_faithful b (items_of t) m c o (ap (λ (k : rules.Answer). stays m.status k) (sym e) ∙ g)).1 in
        (left.kept g).0
        ∙ ap (λ (z : State). flagged z spot.pending spot.skip) (sym start)
        ∙ ap (λ (z : State). flagged m z.pending z.skip) f
        ∙ sym k
    lasts_one false g = (left.neat g).0 ∙ f

    settled : Settled m₀ one answer
    settled = record {
      says = rw (e, laid.taken, lasts_one (stays m.status (answer_of a)) refl);
      rests = λ z. (left.kept (ap (λ (k : State). stays k.status (answer_of a)) start ∙ z)).1;
      neat = λ z. (left.neat (ap (λ (k : State). stays k.status (answer_of a)) start ∙ z)).1;
      blank = laid.blank;
      few = most;
    }

    pub one_exact : Exact size t m₀ c o answer
    one_exact =
        settled_exact size t m₀ c o one answer settled
        (rw start (known_step size t (state_of m₀) c o b known))

-- ---- the only turn

-- the mates are tried by T, and the turn began with the run of m₀
pub record From (T : Type 0) (m : State) (m₀ : coded.State) : Type 0 where
  pub trying : T
  pub stands : m ≡ state_of m₀

pub one_turn : {g : Stage} {c : Control} {o : Offer} {e : Effect} {m₀ : coded.State} {hs₀ : List What}
    {vars : List Cell} {hs : List What} {h : ℕ} {b : Bool} {last : coded.State} → Turning g → run_at g ≡ state_of m₀
    → Made (step_at g c o) 8 hs₀ 0 e vars hs h → b ≡ stays (status_of g.status) (answer_of e.answer)
    → LeftAs b m₀ e.spot e.status vars last
    → Exact g.size g.table m₀ c o (record { state = last; answer = e.answer; things = hs; count = h })
one_turn {g} {c} {o} {e} {m₀} {hs₀} {vars} {hs} {h} {b} {last} w stands d q left =
    one_exact g.size g.table g.shaped m₀ (run_at g) c o e.answer hs h vars e.spot e.status last
    (w.known ∙ ap (λ (z : State). in_shape g.size g.table && state_ok (items_of g.table) z) stands) stands
    d.answer d.next d.laid d.most (rw (← q) left)
