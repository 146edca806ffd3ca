-- A run in parts: steps taken in one go are the same steps taken in two, the second from where the first came to; and
-- so however often `run` is called, each time from the state that it handed back before.
use Rattle.std.specs.Prelude.{ℕ, ◌≡◌, List, [], ◌∷◌, ◌++◌}
use Rattle.table.specs.declared.Table.{Table}
use Rattle.state.specs.declared.Control.{Control}
use Rattle.state.specs.declared.Offer.{Offer}
use Rattle.state.specs.State.{State}
use Rattle.state.specs.Meaning.{state_of}
use Rattle.state.specs.declared.State as coded
use Rattle.course.specs.Course.{Ran, Course, run_from, course_of, Comes, ExactRun}

-- one course, and the one that follows it
abbrev pub followed : Course → Course → Course
followed c d = record {
  answers = c.answers ++ d.answers;
  counts = c.counts ++ d.counts;
  outs = c.outs ++ d.outs;
  last = d.last;
}

-- stepping with ps and qs is stepping with ps, and then with qs from where that came
abbrev pub InParts : Type 0
InParts = (size : ℕ) (t : Table) (m : State) (ps qs : List (Control × Offer))
    → run_from size t m (ps ++ qs) ≡ followed (run_from size t m ps) (run_from size t (run_from size t m ps).last qs)

-- two answers one after the other are the answer to the steps of both, to the last unused place of the state
abbrev pub Chains : Type 0
Chains = (size : ℕ) (t : Table) (m : coded.State) (ps qs : List (Control × Offer)) (r s : Ran)
    → ExactRun size t m ps r
    → ExactRun size t r.state qs s
    → Comes size t m (ps ++ qs) (followed (course_of r) (course_of s)) s.state

-- ---- any number of calls

-- the steps of a call, and what it answered
abbrev pub Call : Type 0
Call = List (Control × Offer) × Ran

-- each from the state that the one before handed back
abbrev pub Called : ℕ → Table → coded.State → List Call → Type 0
Called size t m [] = Unit {0}
Called size t m (c ∷ cs) = ExactRun size t m c.0 c.1 × Called size t c.1.state cs

abbrev pub steps_of_all : List Call → List (Control × Offer)
steps_of_all [] = []
steps_of_all (c ∷ cs) = c.0 ++ steps_of_all cs

abbrev pub course_of_all : State → List Call → Course
course_of_all m [] = record { answers = []; counts = []; outs = []; last = m }
course_of_all m (c ∷ cs) = followed (course_of c.1) (course_of_all (state_of c.1.state) cs)

abbrev pub last_of_all : coded.State → List Call → coded.State
last_of_all m [] = m
last_of_all m (c ∷ cs) = last_of_all c.1.state cs

-- all the answers together are those to all the steps
abbrev pub AllChain : Type 0
AllChain = (size : ℕ) (t : Table) (m : coded.State) (cs : List Call)
    → Called size t m cs
    → Comes size t m (steps_of_all cs) (course_of_all (state_of m) cs) (last_of_all m cs)
