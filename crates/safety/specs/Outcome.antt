-- What a caller is told: the refusal of a text, or what a run of it from fresh comes to, a control and an offer for
-- each step.
use Rattle.std.specs.Prelude.{ℕ, ◌≡◌, true, cond, List, [], ◌++◌, eqb, length, Result, Ok, Err}
use Rattle.table.specs.declared.Table.{Table}
use Rattle.loader.specs.Load.{loaded}
use Rattle.rules.specs.Check.{Verdict, accepted, refused, verdict}
use Rattle.vetting.specs.declared.Refusal.{Refusal}
use Rattle.vetting.specs.Vet.{number_of}
use Rattle.state.specs.declared.Control.{Control}
use Rattle.state.specs.declared.Offer.{Offer}
use Rattle.course.specs.declared.Ran.{Ran}
use Rattle.state.specs.State.{fresh}
use Rattle.state.specs.Meaning.{state_of, Neat}
use Rattle.course.specs.Course.{Course, run_from, course_of, BlankRun}
use Rattle.course.specs.Parts.{followed, Call, Called, steps_of_all, course_of_all}
use Rattle.safety.specs.Safety.{Promises, all_allowed}

-- 01's number and line, both 0 where the script is accepted
pub record Outcome : Type 0 where
  pub number : ℕ
  pub line : ℕ
  pub course : Course

-- no step is taken
abbrev pub none : Course
none = record { answers = []; counts = []; outs = []; last = fresh }

abbrev pub refusal : ℕ → ℕ → Outcome
refusal n k = record { number = n; line = k; course = none }

-- form was passed: the rules, and the run
abbrev pub judged : Verdict → Course → Outcome
judged accepted c = record { number = 0; line = 0; course = c }
judged (refused n k) c = refusal n k

unfoldable pub checked_outcome : ℕ → Table → List (Control × Offer) → Outcome
checked_outcome size t ps = judged (verdict size t) (run_from size t fresh ps)

unfoldable pub outcome : List ℕ → List (Control × Offer) → Outcome
outcome text ps =
    let l = loaded text in
    cond (eqb l.number 0) (checked_outcome (length text) l.table ps) (refusal l.number l.line)

-- ---- what the code's answer stands for

abbrev pub meaning : Result Ran (Refusal × ℕ) → Outcome
meaning (Ok r) = record { number = 0; line = 0; course = course_of r }
meaning (Err (why, line)) = refusal (number_of why) line

-- past the open boxes, the answers and the things stands nothing
pub record Fixed (r : Ran) : Type 0 where
  pub neat : Neat r.state
  pub blank : BlankRun r

-- a refusal holds no run
abbrev pub FixedIn : Result Ran (Refusal × ℕ) → Type 0
FixedIn (Ok r) = Fixed r
FixedIn (Err e) = Unit {0}

-- the answer r to a text and its steps: what it says; demand 3 of each step; and nothing else is left in it
pub record ExactOutcome (text : List ℕ) (ps : List (Control × Offer)) (r : Result Ran (Refusal × ℕ)) : Type 0 where
  pub says : meaning r ≡ outcome text ps
  pub allowed : all_allowed (meaning r).course.answers ≡ true
  pub fixed : FixedIn r

-- ---- more than 64 steps

-- `run` has answered r to the steps ps of an accepted text, and `course::run` is called as often as one likes, first
-- from the state in r and then each time from the state that it handed back: all of it is one run from fresh, and
-- demand 3 holds of every step
pub record GoesOn (text : List ℕ) (ps : List (Control × Offer)) (r : Ran) (calls : List Call) : Type 0 where
  pub whole : followed (course_of r) (course_of_all (state_of r.state) calls)
      ≡ run_from (length text) (loaded text).table fresh (ps ++ steps_of_all calls)
  pub promises : Promises (length text) (loaded text).table fresh (ps ++ steps_of_all calls)
  pub onward : Promises (length text) (loaded text).table (state_of r.state) (steps_of_all calls)
  pub allowed : all_allowed (course_of_all (state_of r.state) calls).answers ≡ true

abbrev pub OnAndOn : Type 0
OnAndOn = (text : List ℕ) (ps : List (Control × Offer)) (r : Ran) (calls : List Call)
    → meaning (Ok r) ≡ outcome text ps
    → Called (length text) (loaded text).table r.state calls
    → GoesOn text ps r calls
