-- Demand 3: any accepted script, started fresh, with any list of offers and any placing of abort and skip. Until it
-- ends, an offer of the wrong
-- sort is refused by 31 and changes nothing. After every step it is running, waiting, finished, or stopped by 0028 or
-- 0010. It never gets 30 and
-- never reaches one of the faults 60 to 64.
use Rattle.std.specs.Prelude.{ℕ, ◌≡◌, Bool, true, false, ◌&&◌, ◌||◌, cond, List, [], ◌∷◌, ◌++◌, eqb, length, replicate}
use Rattle.std.specs.Prelude.{drop}
use Rattle.table.specs.declared.Item.{Item}
use Rattle.table.specs.declared.Table.{Table}
use Rattle.table.specs.Shape.{items_of}
use Rattle.loader.specs.Load.{loaded}
use Rattle.rules.specs.Check.{accepted, refused, verdict}
use Rattle.state.specs.declared.Control.{Control}
use Rattle.state.specs.declared.Offer.{Offer}
use Rattle.state.specs.State.{Status, live, finished_run, stopped_run, fault_run, code0028, code0010, State, Answer}
use Rattle.state.specs.State.{running, waiting, finished, stopped, fault, refuse, Step, fresh, Wanted, wants_nothing}
use Rattle.state.specs.State.{wanted_by, Meets, ready, short, amiss, meets}
use Rattle.steps.specs.Machine.{abort_due, told, step}
use Rattle.course.specs.Course.{run_from}

-- ---- an offer of the wrong sort

-- a step at the end of the items wants nothing
abbrev pub wanted_from : List Item → Wanted
wanted_from [] = wants_nothing
wanted_from (x ∷ xs) = wanted_by x

-- a step in which an abort takes effect wants nothing
abbrev pub wanted_at : List Item → State → Wanted
wanted_at xs m = cond (abort_due xs m) wants_nothing (wanted_from (drop m.at xs))

-- of the wrong sort: something is offered, and it is not what is wanted; nothing where something is wanted waits
abbrev pub is_amiss : Meets → Bool
is_amiss ready = false
is_amiss short = false
is_amiss amiss = true

-- the run is first told the control: a Z may make an abort due
abbrev pub wrong_sort : List Item → State → Control → Offer → Bool
wrong_sort xs m c o = is_amiss (meets (wanted_at xs (told xs m c)) o)

-- ---- the answers and states of an accepted script

-- 0028 or 0010
abbrev pub is_code : ℕ → Bool
is_code n = eqb n code0028 || eqb n code0010

-- of the refusals 31 alone, at place 0, and no fault
abbrev pub allowed : Answer → Bool
allowed running = true
allowed waiting = true
allowed finished = true
allowed (stopped n) = is_code n
allowed (fault n) = false
allowed (refuse n k) = eqb n 31 && eqb k 0

abbrev pub unbroken : Status → Bool
unbroken live = true
unbroken finished_run = true
unbroken (stopped_run n) = is_code n
unbroken (fault_run n) = false

-- what is promised of a step s of the run m
pub record Promise (items : List Item) (m : State) (c : Control) (o : Offer) (s : Step) : Type 0 where
  pub answer : allowed s.answer ≡ true
  pub state : unbroken s.next.status ≡ true
  -- until the run ends, an offer of the wrong sort is refused by 31, hands out nothing and changes nothing
  pub of_wrong_sort : m.status ≡ live → wrong_sort items m c o ≡ true
      → s ≡ record { answer = refuse 31 0; outs = []; next = m }
  -- and 31 comes of nothing else
  pub only_wrong : s.answer ≡ refuse 31 0 → (m.status ≡ live) × (wrong_sort items m c o ≡ true)

-- of every step of a run, one for each control and offer: the length of the script's bytes, the table, and the run so
-- far
abbrev pub Promises : ℕ → Table → State → List (Control × Offer) → Type 0
Promises size t m [] = Unit {0}
Promises size t m (p ∷ ps) = let s =
    step size t m p.0 p.1 in Promise (items_of t) m p.0 p.1 s × Promises size t s.next ps

-- demand 3 of a table, from fresh
abbrev pub Safe : ℕ → Table → Type 0
Safe size t = (ps : List (Control × Offer)) → Promises size t fresh ps

-- and of a script's bytes: taken by the loader, accepted by the checker
abbrev pub SafeText : List ℕ → Type 0
SafeText text = (loaded text).number ≡ 0 → verdict (length text) (loaded text).table ≡ accepted
    → Safe (length text) (loaded text).table

-- started fresh, after any steps ps, stepping on with qs keeps it too: a run may be taken in as many parts as one likes
abbrev pub SafeOnward : ℕ → Table → Type 0
SafeOnward size t = (ps qs : List (Control × Offer)) → Promises size t (run_from size t fresh ps).last qs

abbrev pub SafeTextOnward : List ℕ → Type 0
SafeTextOnward text =
    (loaded text).number ≡ 0
    → verdict (length text) (loaded text).table ≡ accepted
    → SafeOnward (length text) (loaded text).table

-- what demand 3 says of the answers of a run
abbrev pub all_allowed : List Answer → Bool
all_allowed [] = true
all_allowed (a ∷ l) = allowed a && all_allowed l

-- ---- the faults are there to be reached

-- the text passes form, breaks a rule at a line, and its run from fresh, told and offered so, comes to the fault in the
-- last of its steps
pub record Reaches (text : List ℕ) (rule place before : ℕ) (ps : List (Control × Offer)) (number : ℕ) : Type 0 where
  pub formed : (loaded text).number ≡ 0
  pub breaks : verdict (length text) (loaded text).table ≡ refused rule place
  pub comes : (run_from (length text) (loaded text).table fresh ps).answers ≡ replicate before running
      ++ (fault number ∷ [])
