-- Laws of what is open, and of the step on it: the step on the array and the depth is 01's. Assumes nothing.
use Rattle.std.proofs.Common.{Result, Ok, Err}
use mathlib.Core.Bool.{Bool, true, false, cond, false≢true}
use mathlib.Core.List.{List}
use mathlib.Core.Path.{◌≡◌, refl, sym, ◌∙◌, ap, subst}
use native.Mathlib.Omega.{arith}
use Prim.Native.Nat.{ℕ, zero, suc, ◌-◌, ◌≤◌}
use borrow.Author.Tests.{ltb-true}
use denote.Enum.Bare.{sameb}
use lib.Dec.{leb, ltb}
use lib.ListN.{length, get_or}
use Rattle.laws.proofs.Apart.{apart}
use Rattle.laws.specs.Stack.{stack}
use Rattle.laws.proofs.Stack.{stack-length, pushed, topmost}
use Rattle.reply_line.specs.contracts.RowKind.{the_type}
use Rattle.reply_line.specs.declared.RowKind.{RowKind}
use Rattle.reply_line.specs.Line.{letter_of}
use Rattle.reply_line.specs.declared.Line.{Line}
use Rattle.reply_line.specs.declared.Refusal.{Refusal}
use Rattle.reply_step.specs.Move as Move
use Rattle.reply_step.specs.declared.Step.{Step}
use Rattle.reply_step.specs.Code as Code
use Rattle.reply_step.specs.Code.{step_in, push_in, pop_in}
use Rattle.reply_step.specs.Meaning.{not_open, kinds, meant, stepped, laid, Steps}
use Rattle.reply_step.specs.Step.{same_kind, innermost, may_open, closes, most_open, outer, goes, refused}
use Rattle.reply_step.specs.Step.{opened, closed, step}
use Rattle.reply_step.specs.declared.Open as coded

-- ---- two kinds are one where their letters are

pub same_letter : (k l : RowKind) → sameb the_type k l ≡ same_kind k l
unfolding letter_of
same_letter RowKind.Script RowKind.Script = refl
same_letter RowKind.Script RowKind.Sweep = refl
same_letter RowKind.Script RowKind.Loop = refl
same_letter RowKind.Script RowKind.Scan = refl
same_letter RowKind.Sweep RowKind.Script = refl
same_letter RowKind.Sweep RowKind.Sweep = refl
same_letter RowKind.Sweep RowKind.Loop = refl
same_letter RowKind.Sweep RowKind.Scan = refl
same_letter RowKind.Loop RowKind.Script = refl
same_letter RowKind.Loop RowKind.Sweep = refl
same_letter RowKind.Loop RowKind.Loop = refl
same_letter RowKind.Loop RowKind.Scan = refl
same_letter RowKind.Scan RowKind.Script = refl
same_letter RowKind.Scan RowKind.Sweep = refl
same_letter RowKind.Scan RowKind.Loop = refl
same_letter RowKind.Scan RowKind.Scan = refl

-- ---- what is open

module _ (st : coded.Open) where
  pub how_many : length (kinds st) ≡ st.depth
  how_many = stack-length not_open st.around st.depth

  -- the innermost, as the code finds it
  pub innermost_top : (st.depth ≡ 0 → ⊥)
      → get_or st.around (st.depth - 1) not_open ≡ innermost (kinds st)
  innermost_top some = rw (topmost not_open st.around st.depth some) refl

  pub innermost_none : st.depth ≡ 0 → RowKind.Script ≡ innermost (kinds st)
  innermost_none none = rw none refl

  pub closes_top : (k : RowKind) → (st.depth ≡ 0 → ⊥) → same_kind (innermost (kinds st)) k ≡ closes k (kinds st)
  unfolding closes
  closes_top k some = rw (topmost not_open st.around st.depth some) refl

  pub closes_none : (k : RowKind) → st.depth ≡ 0 → false ≡ closes k (kinds st)
  unfolding closes
  closes_none k none = rw none refl

  pub closes_some : (k : RowKind) → closes k (kinds st) ≡ true → 1 ≤ st.depth
  closes_some k e = by_depth st.depth refl
    where
      by_depth : (d : ℕ) → st.depth ≡ d → 1 ≤ st.depth
      by_depth zero p = absurd (false≢true (closes_none k p ∙ e))
      by_depth (suc d) p = omega arith

  is_opened : (k : RowKind) → length st.around ≡ 8 → ltb st.depth 8 ≡ true
      → meant (push_in k st) ≡ opened k (meant st)
  is_opened k eight e =
      ap (λ (l : List RowKind). record { around = l; rows = (push_in k st).rows })
      (pushed not_open st.around st.depth k (omega (arith, ltb-true st.depth 8 e, eight)))

  is_closed : meant (pop_in st) ≡ closed (meant st)
  is_closed = ap (λ (l : List RowKind). record { around = l; rows = st.rows }) (by_depth st.depth)
    where
      by_depth : (d : ℕ) → stack not_open st.around (d - 1) ≡ outer (stack not_open st.around d)
      by_depth zero = refl
      by_depth (suc d) =
          let e : suc d - 1 ≡ d = omega arith in
          rw e refl

-- ---- the step

-- what an opening mark does, by its three tests
abbrev opening : {X : Type 0} → Bool → Bool → Bool → X → (Refusal → X) → X
opening a b c leads refuses =
    cond a (cond b (cond c leads (refuses Refusal.ShortTable)) (refuses Refusal.NinthOpen)) (refuses Refusal.OutOfPlace)

-- what each line's step means
module _ (n : ℕ) (st : coded.Open) where
  at_end_lem : stepped st (Code.end_in st) ≡ step n Line.Empty (meant st)
  unfolding step
  at_end_lem = rw (how_many st) (by_test (leb 1 st.depth))
    where
      by_test : (b : Bool) → stepped st (cond b (Err Refusal.OutOfPlace) (Ok (Step.Ends 0)))
          ≡ cond b (refused Refusal.OutOfPlace (meant st)) (goes (Move.Ends 0) (meant st))
      by_test true = refl
      by_test false = refl

  at_opening : (k : RowKind) (v : ℕ) → length st.around ≡ 8
      → stepped st (Code.open_in n k st) ≡ step n (Line.Opens k v) (meant st)
  unfolding step
  at_opening k v eight =
      rw (how_many st) (by_test (may_open k (kinds st)) (ltb st.depth most_open) refl (ltb st.rows n))
    where
      by_test : (a b : Bool) → ltb st.depth most_open ≡ b → (c : Bool)
          → stepped st (opening a b c (Ok (Step.On (push_in k st))) Err)
          ≡ opening a b c (goes Move.On (opened k (meant st))) (λ w. refused w (meant st))
      by_test true true e true = ap (goes Move.On) (is_opened st k eight e)
      by_test true true e false = refl
      by_test true false e c = refl
      by_test false b e c = refl

  at_closing : (k : RowKind) → stepped st (Code.close_in k st) ≡ step n (Line.Closes k) (meant st)
  unfolding step
  at_closing k = by_test (closes k (kinds st))
    where
      by_test : (b : Bool) → stepped st (cond b (Ok (Step.On (pop_in st))) (Err Refusal.OutOfPlace))
          ≡ cond b (goes Move.On (closed (meant st))) (refused Refusal.OutOfPlace (meant st))
      by_test true = ap (goes Move.On) (is_closed st)
      by_test false = refl

  step_means : (l : Line) → length st.around ≡ 8 → stepped st (step_in n l st) ≡ step n l (meant st)
  unfolding step step_in
  step_means Line.Quiet eight = refl
  step_means Line.Empty eight = at_end_lem
  step_means Line.Package eight = refl
  step_means (Line.Opens k v) eight = at_opening k v eight
  step_means (Line.Closes k) eight = at_closing k
  step_means (Line.Error v) eight = refl
  step_means (Line.Refused r) eight = refl

  -- what it leaves of the array
  abbrev Kept : Line → Result Step Refusal → Type 0
  Kept l r = (s : coded.Open) → r ≡ Ok (Step.On s) → s.around ≡ laid l st

  leads_to : (l : Line) (x : coded.Open) → x.around ≡ laid l st → Kept l (Ok (Step.On x))
  leads_to l x e s q =
      let same : x ≡ s = cc in
      ap (λ (y : coded.Open). y.around) (sym same) ∙ e

  refuses : (l : Line) (w : Refusal) → Kept l (Err w)
  refuses l w s q = absurd (apart cc)

  ends_it : (l : Line) (v : ℕ) → Kept l (Ok (Step.Ends v))
  ends_it l v s q = absurd (apart cc)

  step_array : (l : Line) → Kept l (step_in n l st)
  unfolding step_in laid
  step_array Line.Quiet = leads_to Line.Quiet st refl
  step_array Line.Empty = by_test (leb 1 st.depth)
    where
      by_test : (b : Bool) → Kept Line.Empty (cond b (Err Refusal.OutOfPlace) (Ok (Step.Ends 0)))
      by_test true = refuses Line.Empty Refusal.OutOfPlace
      by_test false = ends_it Line.Empty 0
  step_array Line.Package = leads_to Line.Package st refl
  step_array (Line.Opens k v) = by_test (may_open k (kinds st)) (ltb st.depth most_open) (ltb st.rows n)
    where
      by_test : (a b c : Bool) → Kept (Line.Opens k v) (opening a b c (Ok (Step.On (push_in k st))) Err)
      by_test true true true = leads_to (Line.Opens k v) (push_in k st) refl
      by_test true true false = refuses (Line.Opens k v) Refusal.ShortTable
      by_test true false c = refuses (Line.Opens k v) Refusal.NinthOpen
      by_test false b c = refuses (Line.Opens k v) Refusal.OutOfPlace
  step_array (Line.Closes k) = by_test (closes k (kinds st))
    where
      by_test : (b : Bool) → Kept (Line.Closes k) (cond b (Ok (Step.On (pop_in st))) (Err Refusal.OutOfPlace))
      by_test true = leads_to (Line.Closes k) (pop_in st) refl
      by_test false = refuses (Line.Closes k) Refusal.OutOfPlace
  step_array (Line.Error v) = ends_it (Line.Error v) v
  step_array (Line.Refused r) = refuses (Line.Refused r) r

-- the code's step on a line that was found to be l
pub does : {n : ℕ} {line l : Line} {st : coded.Open} {r : Result Step Refusal} → length st.around ≡ 8 → line ≡ l
    → r ≡ step_in n l st → Steps n line st r
does {n} {line} {l} {st} {r} eight is e =
    let same : r ≡ step_in n line st = e ∙ ap (λ (m : Line). step_in n m st) (sym is) in
    subst (Steps n line st) (sym same) (record { means = step_means n st line eight; array = step_array n st line })
