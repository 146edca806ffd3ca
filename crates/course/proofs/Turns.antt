-- Steps taken one after the other: what is answered so far, and what is still to come.
use Prim.Native.Nat.{ℕ, zero, suc, ◌+◌, ◌-◌, ◌*◌, ◌≤◌, ◌<◌, zero-le}
use mathlib.Core.Path.{◌≡◌, refl, sym, ap, ◌∙◌}
use mathlib.Core.Bool.{Bool, true, false, ◌&&◌, and_assoc, and-true}
use mathlib.Core.List.{List, [], ◌∷◌, ◌++◌, append_assoc, append-nil}
use native.Mathlib.Nat.{not-suc-le-zero, le_of_suc-le-suc}
use native.Mathlib.Numerals.{add-one}
use native.Mathlib.Omega.{arith}
use lib.ListN.{length, get_or, set, take, drop, replicate, length-set}
use lib.Seq.{take_all, take-suc-set, drop-set-lt}
use Rattle.laws.specs.Least.{least}
use Rattle.laws.proofs.Least.{least_most, least_takes}
use Rattle.laws.proofs.Lists.{drop-step}
use Rattle.table.specs.declared.Table.{Table}
use Rattle.table.specs.Shape.{in_shape, items_of}
use Rattle.state.specs.State as rules
use Rattle.state.specs.State.{State, Out, Step, stays, flagged}
use Rattle.state.specs.Meaning.{state_of, answer_of, status_of, outs_of, cells_of}
use Rattle.state.proofs.Rests.{blank_thing}
use Rattle.effect.specs.declared.Effect.{Effect}
use Rattle.effect.specs.declared.Spot.{Spot}
use Rattle.state.specs.declared.Control.{Control}
use Rattle.state.specs.declared.Offer.{Offer}
use Rattle.state.specs.declared.Status.{Status}
use Rattle.state.specs.declared.What.{What}
use Rattle.state.specs.State.{Cell}
use Rattle.state.specs.declared.Answer.{Answer}
use Rattle.state.specs.declared.State as coded
use Rattle.steps.specs.Machine.{state_ok, step}
use Rattle.steps.specs.Code.{step_known, state_with, LeftAs}
use Rattle.course.specs.Course.{Told, Said, Steps, Ran, Course, and_then, run_from, all_told, steps_of, answers_of}
use Rattle.course.specs.Course.{counts_of, all_stay, no_said, course_of, ExactRun}
use Rattle.steps.proofs.Shapes.{and_l, and_r}
use Rattle.steps.proofs.Answers.{known_step, known_faithful}
use Rattle.lookup.proofs.Laying.{Laid, Ready}
use Rattle.lookup.proofs.Looking.{Known, Stage, stage, run_at, step_at, Turning, laid_count}
use Rattle.lookup.proofs.Making.{Made}
use Rattle.course.proofs.Resting.{comes_by}
use Rattle.steps.proofs.Lasting.{keeps_shape}

abbrev pub no_told : Told
no_told = record { control = Control.None; offer = Offer.Nothing }

-- ---- rows

module _ {A : Type 0} where
  take-drop : (n i : ℕ) (l : List A) (d : A) → i < n → i < length l
      → drop i (take n l) ≡ get_or l i d ∷ drop (suc i) (take n l)
  take-drop zero i l d h k = absurd (not-suc-le-zero h)
  take-drop (suc n) i [] d h k = absurd (not-suc-le-zero k)
  take-drop (suc n) zero (x ∷ l) d h k = refl
  take-drop (suc n) (suc i) (x ∷ l) d h k = take-drop n i l d (le_of_suc-le-suc h) (le_of_suc-le-suc k)

  drop-take : (n : ℕ) (l : List A) → drop n (take n l) ≡ []
  drop-take zero l = refl
  drop-take (suc n) [] = refl
  drop-take (suc n) (x ∷ l) = drop-take n l

told-length : (ts : List Told) → length (all_told ts) ≡ length ts
told-length [] = refl
told-length (t ∷ ts) = ap suc (told-length ts)

told-get_or : (ts : List Told) (i : ℕ) (d : Told)
    → get_or (all_told ts) i (d.control, d.offer) ≡ ((get_or ts i d).control, (get_or ts i d).offer)
told-get_or [] i d = refl
told-get_or (t ∷ ts) zero d = refl
told-get_or (t ∷ ts) (suc i) d = told-get_or ts i d

answers_more : (ss : List Said) (s : Said) → answers_of (ss ++ s ∷ []) ≡ answers_of ss ++ answer_of s.answer ∷ []
answers_more [] s = refl
answers_more (x ∷ ss) s = ap {B = List rules.Answer} (λ l. answer_of x.answer ∷ l) (answers_more ss s)

counts_more : (ss : List Said) (s : Said) → counts_of (ss ++ s ∷ []) ≡ counts_of ss ++ s.things ∷ []
counts_more [] s = refl
counts_more (x ∷ ss) s = ap {B = List ℕ} (λ l. x.things ∷ l) (counts_more ss s)

stays_more : (k : rules.Status) (l : List rules.Answer) (a : rules.Answer)
    → all_stay k (l ++ a ∷ []) ≡ (all_stay k l && stays k a)
stays_more k [] a = and-true (stays k a)
stays_more k (x ∷ l) a =
    ap (λ (b : Bool). stays k x && b) (stays_more k l a) ∙ sym (and_assoc (stays k x) (all_stay k l) (stays k a))

-- ---- how many steps

pub told_few : (n k : ℕ) (ts : List Told) → length ts ≡ 64
    → take (least (least n k) 64) (all_told ts) ≡ take n (take k (all_told ts))
told_few n k ts h =
    least_takes (least n k) 64 (all_told ts)
    ∙ ap (λ (l : List (Control × Offer)). take (least n k) l) (take_all 64 (all_told ts) (omega
    (arith, told-length ts)))
    ∙ least_takes n k (all_told ts)

-- ---- the shape lasts

known_lasts : (size : ℕ) (t : Table) (m : State) (c : Control) (o : Offer) (b : Bool) → Known b size t m
    → Known b size t (step_known b (items_of t) m c o).next
known_lasts size t m c o true e =
    let s = and_l (in_shape size t) (state_ok (items_of t) m) (sym e) in
    let k = keeps_shape size t m c o s (and_r (in_shape size t) (state_ok (items_of t) m) (sym e)) in
    rw (s, known_step size t m c o true e) (sym k)
known_lasts size t m c o false e = e

-- ---- one step more

abbrev pub joined : List Said → List Out → Course → Course
joined ss os c =
    record {
      answers = answers_of ss ++ c.answers;
      counts = counts_of ss ++ c.counts;
      outs = os ++ c.outs;
      last = c.last;
    }

joined_more : (ss : List Said) (os : List Out) (d : Said) (s : Step) (c : Course) → answer_of d.answer ≡ s.answer
    → d.things ≡ length s.outs
    → joined (ss ++ d ∷ []) (os ++ s.outs) c ≡ joined ss os (and_then s c)
joined_more ss os d s c e f =
    rw (
      answers_more ss d,
      counts_more ss d,
      append_assoc (answers_of ss) (answer_of d.answer ∷ []) c.answers,
      append_assoc (counts_of ss) (d.things ∷ []) c.counts,
      append_assoc os s.outs c.outs,
      e,
      f,
    )

-- i of n steps are taken, b says whether table and state are in shape; h things are handed out, the run has come from
-- m₀
-- to m, and stayed says whether no step took an item
pub record Come
    (size : ℕ) (t : Table) (b : Bool) (n : ℕ) (ts : List Told) (m₀ : coded.State) (i : ℕ) (ss : List Said)
    (hs : List What) (h : ℕ)
    (m : State) (stayed : Bool) : Type 0 where
  pub within : i ≤ n
  pub few : n ≤ 64
  pub long : length ss ≡ 64
  pub laid : Laid 512 hs h (take h (outs_of hs))
  pub below : h ≤ 8 * i
  pub known : Known b size t m
  pub so_far : joined (take i ss) (take h (outs_of hs)) (run_from size t m (drop i (take n (all_told ts))))
      ≡ run_from size
      t (state_of m₀) (take n (all_told ts))
  pub blank_answers : drop i ss ≡ replicate (64 - i) no_said
  pub stays_so : stayed ≡ all_stay (state_of m₀).status (answers_of (take i ss))
  pub rests : stayed ≡ true → m ≡ flagged (state_of m₀) m.pending m.skip

same_joined : {ss ss' : List Said} {os os' : List Out} {c c' : Course} → ss ≡ ss' → os ≡ os' → c ≡ c'
    → joined ss os c ≡ joined ss' os' c'
same_joined p q r = rw (p, q, r)

pub come_start : (size : ℕ) (t : Table) (b : Bool) (n : ℕ) (ts : List Told) (m₀ : coded.State) (m : State) → n ≤ 64
    → Known b size t (state_of m₀) → m ≡ state_of m₀
    → Come size t b n ts m₀ 0 (replicate 64 no_said) (replicate 512 blank_thing) 0 m true
come_start size t b n ts m₀ m h k e = rw e (record {
  within = zero-le;
  few = h;
  long = refl;
  laid = record { wide = refl; taken = refl; blank = refl };
  below = zero-le;
  known = k;
  so_far = refl;
  blank_answers = refl;
  stays_so = refl;
  rests = λ q. refl;
})

module _ {size : ℕ} {t : Table} {b : Bool} {n : ℕ} {ts : List Told} {m₀ : coded.State} {i : ℕ} {ss : List Said}
    {hs : List What} {h : ℕ} {m : State} {stayed : Bool}
    (w : Come size t b n ts m₀ i ss hs h m stayed) where
  pub come_room : i < n → h ≤ 504
  come_room q = omega (arith, w.below, w.few)

  module _ (d : Told) (q : i < n) (l : length ts ≡ 64) where
    abbrev at_i : Told
    at_i = get_or ts i d

    abbrev s : Step
    s = step_known b (items_of t) m at_i.control at_i.offer

    abbrev rest : List (Control × Offer)
    rest = drop (suc i) (take n (all_told ts))

    one_more : drop i (take n (all_told ts)) ≡ (at_i.control, at_i.offer) ∷ rest
    one_more =
        take-drop n i (all_told ts) (d.control, d.offer) q (omega (arith, told-length ts, w.few))
        ∙ ap (λ (p : Control × Offer). p ∷ rest) (told-get_or ts i d)

    is_step : s ≡ step size t m at_i.control at_i.offer
    is_step = known_step size t m at_i.control at_i.offer b w.known

    module _ (a : Answer) (c : ℕ) (hs' : List What) (h' : ℕ) (m' : State) (e : answer_of a ≡ s.answer)
        (f : m' ≡ s.next)
        (new : Laid 512 hs' h' (take h (outs_of hs) ++ s.outs)) (most : h' ≤ h + 8) (counted : c ≡ length s.outs)
      where
        abbrev said : Said
        said = record { answer = a; things = c }

        taken : take (i + 1) (set ss i said) ≡ take i ss ++ said ∷ []
        taken = rw add-one (take-suc-set ss i said (omega (arith, w.long, w.few)))

        onward : joined (take (i + 1) (set ss i said)) (take h' (outs_of hs'))
            (run_from size t m' (drop (i + 1) (take n (all_told ts))))
            ≡ joined (take i ss) (take h (outs_of hs)) (run_from size t m (drop i (take n (all_told ts))))
        unfolding run_from
        onward =
            same_joined taken new.taken (rw (f, add-one i))
            ∙ joined_more (take i ss) (take h (outs_of hs)) said s (run_from size t s.next rest) e counted
            ∙ ap (λ (z : Step). joined (take i ss) (take h (outs_of hs)) (and_then z (run_from size t z.next rest)))
            is_step
            ∙ ap (λ (z : List (Control × Offer)). joined (take i ss) (take h (outs_of hs)) (run_from size t m z))
            (sym one_more)

        fewer : drop (i + 1) (set ss i said) ≡ replicate (64 - (i + 1)) no_said
        fewer =
            let z : 64 - i ≡ suc (64 - suc i) = omega (arith, w.few) in
            rw add-one
            (drop-set-lt (suc i) ss i said (omega arith)
            ∙ drop-step i ss no_said (replicate (64 - suc i) no_said)
            (w.blank_answers ∙ ap (λ (j : ℕ). replicate j no_said) z))

        abbrev stays_now : Bool
        stays_now = stays m.status (answer_of a)

        now_stayed : (stayed && stays_now) ≡ all_stay (state_of m₀).status (answers_of (take (i + 1) (set ss i said)))
        now_stayed =
            same stayed refl
            ∙ ap (λ (z : Bool). z && stays (state_of m₀).status (answer_of a)) w.stays_so
            ∙ sym (stays_more (state_of m₀).status (answers_of (take i ss)) (answer_of a))
            ∙ ap (λ (z : List rules.Answer). all_stay (state_of m₀).status z) (sym (answers_more (take i ss) said))
            ∙ ap (λ (z : List Said). all_stay (state_of m₀).status (answers_of z)) (sym taken)
          where
            same : (z : Bool) → stayed ≡ z
                → (z && stays m.status (answer_of a)) ≡ (z && stays (state_of m₀).status (answer_of a))
            same true g = ap (λ (k : State). stays k.status (answer_of a)) (w.rests g)
            same false g = refl

        rests_on : (stayed && stays_now) ≡ true → m' ≡ flagged (state_of m₀) m'.pending m'.skip
        rests_on z =
            let g = (known_faithful b (items_of t) m at_i.control at_i.offer
            (ap (λ (k : rules.Answer). stays m.status k) (sym e) ∙ and_r stayed stays_now z)).1 in
            rw f (g
            ∙ ap (λ (k : State). flagged k s.next.pending s.next.skip) (w.rests (and_l stayed stays_now z)))

        pub come_more : Come size t b n ts m₀ (i + 1) (set ss i said) hs' h' m' (stayed && stays_now)
        come_more = record {
          within = omega arith;
          few = w.few;
          long = length-set ss i said ∙ w.long;
          laid = record { wide = new.wide; taken = refl; blank = new.blank };
          below = omega (arith, w.below);
          known = rw f (known_lasts size t m at_i.control at_i.offer b w.known);
          so_far = onward ∙ w.so_far;
          blank_answers = fewer;
          stays_so = now_stayed;
          rests = rests_on;
        }

  module _ (vars : List Cell) (spot : Spot) (status : Status) (last : coded.State)
      (here : m ≡ state_with (cells_of vars) spot status) (left : LeftAs stayed m₀ spot status vars last) where
    abbrev end : Ran
    end = record { state = last; answers = ss; count = n; things = hs; handed = h }

    lasts : (z : Bool) → stayed ≡ z → state_of last ≡ m
    lasts true g =
        (left.kept g).0
        ∙ ap (λ (k : State). flagged (state_of m₀) k.pending k.skip) (sym here)
        ∙ sym (w.rests g)
    lasts false g = (left.neat g).0 ∙ sym here

    all_said : n ≤ i → course_of end ≡ run_from size t (state_of m₀) (take n (all_told ts))
    unfolding run_from
    all_said q =
        let e : i ≡ n = omega (arith, w.within) in
        let f : drop i (take n (all_told ts)) ≡ [] = rw e (drop-take n (all_told ts)) in
        let g : joined (take n ss) (take h (outs_of hs)) (run_from size t m []) ≡ run_from size t (state_of m₀)
        (take n (all_told ts)) =
        same_joined {os = take h (outs_of hs)} (ap (λ (j : ℕ). take j ss) (sym e)) refl
        (ap (λ (z : List (Control × Offer)). run_from size t m z) (sym f)) ∙ w.so_far in
        rw (lasts stayed refl)
        (sym (rw (
          append-nil (answers_of (take n ss)),
          append-nil (counts_of (take n ss)),
          append-nil (take h (outs_of hs)),
        )) ∙ g)

    pub come_end : (ps : List (Control × Offer)) → n ≤ i → take n (all_told ts) ≡ ps → ExactRun size t m₀ ps end
    come_end ps q p =
        let e : i ≡ n = omega (arith, w.within) in
        let so : stayed ≡ all_stay (state_of m₀).status (answers_of (take n ss)) = rw (← e) w.stays_so in
        record {
          comes = comes_by size t m₀ ps (course_of end) last
              (all_said q ∙ ap (λ (z : List (Control × Offer)). run_from size t (state_of m₀) z) p) refl
              (λ z. (left.kept (so ∙ z)).1) (λ z. (left.neat (so ∙ z)).1);
          blank =
              record {
                few = w.few;
                answers = rw (← e) w.blank_answers;
                few_things = omega (arith, w.below, w.few, w.within);
                things = w.laid.blank;
              };
        }

-- ---- turn after turn

-- i of n turns are made, for the steps ps that are told by ts
pub record Rounds
    (ps : List (Control × Offer)) (n : ℕ) (ts : List Told) (m₀ : coded.State) (i : ℕ) (ss : List Said) (hs : List What)
    (h : ℕ) (stayed : Bool) (g : Stage) : Type 0 where
  pub come : Come g.size g.table g.shaped n ts m₀ i ss hs h (run_at g) stayed
  pub head : Turning g
  pub long : length ts ≡ 64
  pub told : take n (all_told ts) ≡ ps

-- the mates are tried by T in the next of them, behind the h things of hs
pub record Within (T R : Type 0) (i n : ℕ) (hs : List What) (h : ℕ) : Type 0 where
  pub trying : T
  pub round : R
  pub more : i < n
  pub few : n ≤ 64
  pub ready : Ready 512 hs h

abbrev pub things_of : {T R : Type 0} {i n : ℕ} {hs : List What} {h : ℕ} → Within T R i n hs h → List What
things_of {hs = hs} w = hs

abbrev pub handed_of : {T R : Type 0} {i n : ℕ} {hs : List What} {h : ℕ} → Within T R i n hs h → ℕ
handed_of {h = h} w = h

pub rounds_start : {g : Stage} {m₀ : coded.State} {a n : ℕ} (budget : ℕ) (steps : Steps) → Turning g
    → run_at g ≡ state_of m₀
    → a ≡ least budget steps.count → n ≡ least a 64 → length steps.at ≡ 64
    → Rounds (take budget (steps_of steps)) n steps.at m₀ 0 (replicate 64 no_said) (replicate 512 blank_thing) 0 true g
rounds_start {g} {m₀} {a} {n} budget steps w stands p q l = record {
  come =
      come_start g.size g.table g.shaped n steps.at m₀ (run_at g) (rw q (least_most a 64))
      (w.known ∙ ap (λ (z : State). in_shape g.size g.table && state_ok (items_of g.table) z) stands) stands;
  head = w;
  long = l;
  told = rw (q, p) (told_few budget steps.count steps.at l);
}

module _ {ps : List (Control × Offer)} {n : ℕ} {ts : List Told} {m₀ : coded.State} {i : ℕ} {ss : List Said}
    {hs : List What} {h : ℕ} {stayed : Bool} {g : Stage} (w : Rounds ps n ts m₀ i ss hs h stayed g) where
  pub rounds_ready : i < n → Ready 512 hs h
  rounds_ready q = record { laid = w.come.laid; room = omega (arith, come_room w.come q) }

  -- one turn of the loop
  pub rounds_on : {e : Effect} {vars : List Cell} {hs' : List What} {h' : ℕ} {b : Bool} → i < n
      → Made (step_at g (get_or ts i no_told).control (get_or ts i no_told).offer) 512 hs h e vars hs' h'
      → length e.spot.boxes ≡ 8 → b ≡ stays (status_of g.status) (answer_of e.answer)
      → Rounds ps n ts m₀ (i + 1) (set ss i (record { answer = e.answer; things = h' - h })) hs' h' (stayed && b)
      (stage g.size g.table g.marks g.count g.tag g.shaped vars e.spot e.status)
  rounds_on {e} {vars} {hs'} {h'} {b} q d wide stay =
      let room = come_room w.come q in
      let more = come_more w.come no_told q w.long e.answer (h' - h) hs' h'
      (state_with (cells_of vars) e.spot e.status) d.answer d.next d.laid d.most
      (laid_count 512 h h' hs' hs (step_at g (get_or ts i no_told).control (get_or ts i no_told).offer).outs
      w.come.laid.wide (omega (arith, room)) (omega (arith, room, d.most)) d.laid) in
      record {
        come = rw stay more;
        head =
            record {
              full = w.head.full;
              marked = w.head.marked;
              count = w.head.count;
              tag = w.head.tag;
              known = more.known;
              row = d.row;
              wide = wide;
            };
        long = w.long;
        told = w.told;
      }

  pub rounds_end : {last : coded.State} → n ≤ i → LeftAs stayed m₀ g.spot g.status g.vars last
      → ExactRun g.size g.table m₀ ps
      (record { state = last; answers = ss; count = n; things = hs; handed = h })
  rounds_end {last} q left = come_end w.come g.vars g.spot g.status last refl left ps q w.told
