-- Steps taken one after the other (01, The machine): each step's answer and how many things it handed out, all the
-- things in order, and the state after the last step.
use Rattle.std.specs.Prelude.{ℕ, ◌-◌, ◌≤◌, ◌≡◌, Bool, true, false, ◌&&◌, List, [], ◌∷◌, ◌++◌, length, take, drop}
use Rattle.std.specs.Prelude.{replicate}
use Rattle.table.specs.declared.Item.{Item}
use Rattle.table.specs.declared.Table.{Table}
use Rattle.table.specs.Shape.{items_of}
use Rattle.state.specs.declared.Answer.TheVariants as Answer
use Rattle.state.specs.declared.Control.{Control}
use Rattle.state.specs.declared.Offer.{Offer}
use Rattle.state.specs.State as rules
use Rattle.state.specs.State.{State, Out, nought, Step, stays}
use Rattle.state.specs.Meaning.{state_of, answer_of, outs_of, Neat}
use Rattle.state.specs.declared.State as coded
use Rattle.steps.specs.Machine.{step}
use Rattle.steps.specs.Resting.{resting}
pub use Rattle.course.specs.declared.Told.{Told}
pub use Rattle.course.specs.declared.Steps.{Steps}
pub use Rattle.course.specs.declared.Said.{Said}
pub use Rattle.course.specs.declared.Ran.{Ran}

pub record Course : Type 0 where
  pub answers : List rules.Answer
  pub counts : List ℕ
  pub outs : List Out
  pub last : State

-- one step, and those after it
abbrev pub and_then : Step → Course → Course
and_then s c =
    record {
      answers = s.answer ∷ c.answers;
      counts = length s.outs ∷ c.counts;
      outs = s.outs ++ c.outs;
      last = c.last;
    }

-- the length of the script's bytes, the table, the state, and a control and an offer for each step
unfoldable pub run_from : ℕ → Table → State → List (Control × Offer) → Course
run_from size t m [] = record { answers = []; counts = []; outs = []; last = m }
run_from size t m (p ∷ ps) = let s = step size t m p.0 p.1 in and_then s (run_from size t s.next ps)

-- ---- what the code's rows stand for

abbrev pub all_told : List Told → List (Control × Offer)
all_told [] = []
all_told (t ∷ ts) = (t.control, t.offer) ∷ all_told ts

abbrev pub steps_of : Steps → List (Control × Offer)
steps_of s = take s.count (all_told s.at)

abbrev pub answers_of : List Said → List rules.Answer
answers_of [] = []
answers_of (s ∷ ss) = answer_of s.answer ∷ answers_of ss

abbrev pub counts_of : List Said → List ℕ
counts_of [] = []
counts_of (s ∷ ss) = s.things ∷ counts_of ss

abbrev pub course_of : Ran → Course
course_of r = record {
  answers = answers_of (take r.count r.answers);
  counts = counts_of (take r.count r.answers);
  outs = take r.handed (outs_of r.things);
  last = state_of r.state;
}

-- ---- the state that is handed back

-- no step takes an item: a run that has ended is not started again, so the status before the first step is that before
-- each
abbrev pub all_stay : rules.Status → List rules.Answer → Bool
all_stay s [] = true
all_stay s (a ∷ l) = stays s a && all_stay s l

-- what such steps leave, one after the other
abbrev pub resting_all : List Item → coded.State → List (Control × Offer) → List rules.Answer → coded.State
resting_all xs m [] l = m
resting_all xs m (p ∷ ps) [] = m
resting_all xs m (p ∷ ps) (a ∷ l) = resting_all xs (resting xs m p.0 a) ps l

-- the steps from a state come to the course c and hand back the state last: the very one, with the controls of the
-- waits, where no step takes an item; otherwise with nothing past its open boxes
pub record Comes
    (size : ℕ) (table : Table) (state : coded.State) (steps : List (Control × Offer)) (c : Course) (last : coded.State)
    : Type 0 where
  pub says : c ≡ run_from size table (state_of state) steps
  pub means : state_of last ≡ c.last
  pub rests : all_stay (state_of state).status c.answers ≡ true
      → last ≡ resting_all (items_of table) state steps c.answers
  pub neat : all_stay (state_of state).status c.answers ≡ false → Neat last

-- ---- the whole answer

-- what stands past the last answer
abbrev pub no_said : Said
no_said = record { answer = Answer.Running; things = 0 }

-- what stands past the counts
pub record BlankRun (r : Ran) : Type 0 where
  pub few : r.count ≤ 64
  pub answers : drop r.count r.answers ≡ replicate (64 - r.count) no_said
  pub few_things : r.handed ≤ 512
  pub things : drop r.handed (outs_of r.things) ≡ replicate (512 - r.handed) nought

pub record ExactRun (size : ℕ) (table : Table) (state : coded.State) (steps : List (Control × Offer)) (r : Ran) : Type 0
  where
    pub comes : Comes size table state steps (course_of r) r.state
    pub blank : BlankRun r
