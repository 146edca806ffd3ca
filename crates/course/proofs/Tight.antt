-- No second answer fits a public function's contract.
use Prim.Native.Nat.{ℕ, ◌-◌, ◌≤◌}
use mathlib.Core.Path.{◌≡◌, refl, sym, ap, ◌∙◌}
use mathlib.Core.Bool.{Bool, true, false}
use mathlib.Core.List.{List, [], ◌∷◌}
use native.Mathlib.Omega.{arith}
use lib.ListN.{length, take, drop, replicate}
use lib.Seq.{length-take-le}
use Rattle.table.specs.declared.Table.{Table}
use Rattle.table.specs.Shape.{items_of}
use Rattle.state.specs.declared.Control.{Control}
use Rattle.state.specs.declared.Offer.{Offer}
use Rattle.state.specs.declared.What.{What}
use Rattle.state.specs.State as rules
use Rattle.state.specs.State.{nought}
use Rattle.state.specs.Meaning.{state_of, outs_of}
use Rattle.state.proofs.Things.{outs-length}
use Rattle.state.proofs.Tight.{answer_back, answer_back_lem, things_back, things_back_lem, same_row, same_state}
use Rattle.state.specs.declared.State as coded
use Rattle.course.specs.Course.{Said, Ran, Course, answers_of, counts_of, course_of, no_said, BlankRun, ExactRun}
use Rattle.course.specs.Course.{all_stay, resting_all}

-- ---- rows

same_things : (ts us : List What) → outs_of ts ≡ outs_of us → ts ≡ us
same_things ts us e = sym (things_back_lem ts) ∙ ap things_back e ∙ things_back_lem us

-- two rows of n, the first few alike and what stands past them fixed
same_filled : {A : Type 0} (a : A) (n : ℕ) (l k : List A) (c d : ℕ) → length l ≡ n → length k ≡ n → c ≤ n → d ≤ n
    → take c l ≡ take d k
    → drop c l ≡ replicate (n - c) a → drop d k ≡ replicate (n - d) a → (c ≡ d) × (l ≡ k)
same_filled {A} a n l k c d p q f g e x y =
    let s : c ≡ d = sym (length-take-le c l (omega arith)) ∙ ap length e ∙ length-take-le d k (omega arith) in
    (s, same_row l k c (e ∙ ap (λ (i : ℕ). take i k) (sym s)) (x ∙ rw s (sym y)))

said_back : List rules.Answer → List ℕ → List Said
said_back [] ns = []
said_back (a ∷ l) [] = []
said_back (a ∷ l) (n ∷ ns) = record { answer = answer_back a; things = n } ∷ said_back l ns

said_back_lem : (ss : List Said) → said_back (answers_of ss) (counts_of ss) ≡ ss
unfolding said_back
said_back_lem [] = refl
said_back_lem (s ∷ ss) = rw (answer_back_lem s.answer, said_back_lem ss)

-- ---- the answer of a run

ran_from : coded.State → List Said → ℕ → List What → ℕ → Ran
ran_from m a n t h = record { state = m; answers = a; count = n; things = t; handed = h }

ran_from_lem : (r : Ran) → ran_from r.state r.answers r.count r.things r.handed ≡ r
unfolding ran_from
ran_from_lem r = refl

-- an array of the code has its length
pub record SizedRun (r : Ran) : Type 0 where
  pub boxes : length r.state.boxes ≡ 8
  pub answers : length r.answers ≡ 64
  pub things : length r.things ≡ 512

module _ (r r' : Ran) (z : SizedRun r) (z' : SizedRun r') (same-course : course_of r ≡ course_of r') (e : BlankRun r)
    (f : BlankRun r') where
  same_said : (r.count ≡ r'.count) × (r.answers ≡ r'.answers)
  same_said =
      let a : answers_of (take r.count r.answers) ≡ answers_of (take r'.count r'.answers) =
      ap (λ (c : Course). c.answers) same-course in
      let n : counts_of (take r.count r.answers) ≡ counts_of (take r'.count r'.answers) =
      ap (λ (c : Course). c.counts) same-course in
      let s : take r.count r.answers ≡ take r'.count r'.answers =
      sym (said_back_lem (take r.count r.answers)) ∙ rw (a, n) (said_back_lem (take r'.count r'.answers)) in
      same_filled no_said 64 r.answers r'.answers r.count r'.count z.answers z'.answers e.few
      f.few s e.answers f.answers

  same_handed : (r.handed ≡ r'.handed) × (outs_of r.things ≡ outs_of r'.things)
  same_handed =
      same_filled nought 512 (outs_of r.things) (outs_of r'.things) r.handed r'.handed
      (outs-length r.things ∙ z.things) (outs-length r'.things ∙ z'.things) e.few_things f.few_things
      (ap (λ (c : Course). c.outs) same-course) e.things f.things

  -- the course and the state say it all
  pub same_ran : r.state ≡ r'.state → r ≡ r'
  same_ran m =
      let a : r.answers ≡ r'.answers = same_said.1 in
      let n : r.count ≡ r'.count = same_said.0 in
      let t : r.things ≡ r'.things = same_things r.things r'.things same_handed.1 in
      let h : r.handed ≡ r'.handed = same_handed.0 in
      let w : ran_from r.state r.answers r.count r.things r.handed ≡ ran_from r'.state r'.answers
      r'.count r'.things r'.handed = cc in
      sym (ran_from_lem r) ∙ w ∙ ran_from_lem r'

module _ (size : ℕ) (table : Table) (state : coded.State) (ps : List (Control × Offer)) (r r' : Ran) (z : SizedRun r)
    (z' : SizedRun r')
    (e : ExactRun size table state ps r) (f : ExactRun size table state ps r') where
  one_course : course_of r ≡ course_of r'
  one_course = e.comes.says ∙ sym f.comes.says

  one_last : r.state ≡ r'.state
  one_last = go (all_stay (state_of state).status (course_of r).answers) refl
    where
      as_well : {b : Bool} → all_stay (state_of state).status (course_of r).answers ≡ b
          → all_stay (state_of state).status (course_of r').answers ≡ b
      as_well q = sym (ap (λ (c : Course). all_stay (state_of state).status c.answers) one_course) ∙ q

      go : (b : Bool) → all_stay (state_of state).status (course_of r).answers ≡ b → r.state ≡ r'.state
      go true q =
          e.comes.rests q
          ∙ ap (λ (c : Course). resting_all (items_of table) state ps c.answers) one_course
          ∙ sym (f.comes.rests (as_well q))
      go false q =
          same_state r.state r'.state z.boxes z'.boxes (ap (λ (c : Course). c.last) one_course)
          (e.comes.neat q) (f.comes.neat (as_well q))

  pub only_run : r ≡ r'
  only_run = same_ran r r' z z' one_course e.blank f.blank one_last
