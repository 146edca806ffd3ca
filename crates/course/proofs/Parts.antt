-- A run in parts is the run in one go.
use Prim.Native.Nat.{ℕ}
use mathlib.Core.Path.{◌≡◌, refl, sym, ap, subst, ◌∙◌}
use mathlib.Core.Bool.{Bool, true, false, ◌&&◌, and_assoc}
use mathlib.Core.List.{List, [], ◌∷◌, ◌++◌, append_assoc}
use Rattle.table.specs.declared.Table.{Table}
use Rattle.table.specs.Shape.{items_of}
use Rattle.state.specs.declared.Control.{Control}
use Rattle.state.specs.declared.Offer.{Offer}
use Rattle.state.specs.State as rules
use Rattle.state.specs.State.{State, Step, stays}
use Rattle.state.specs.Meaning.{state_of, Neat}
use Rattle.state.specs.declared.State as coded
use Rattle.steps.specs.Machine.{step}
use Rattle.course.specs.Course.{Course, and_then, run_from, all_stay, Comes}
use Rattle.course.specs.Parts.{followed, InParts, Chains, AllChain, course_of_all}
use Rattle.steps.proofs.Shapes.{and_l, and_r}
use Rattle.steps.proofs.Answers.{never}
use Rattle.steps.proofs.Resting.{Alike, alike_neat}
use Rattle.course.proofs.Resting.{all_alike, comes_by}

-- ---- the definition

then_followed : (s : Step) (c d : Course) → and_then s (followed c d) ≡ followed (and_then s c) d
then_followed s c d = rw (append_assoc s.outs c.outs d.outs)

pub in_parts : InParts
unfolding run_from
in_parts size t m [] qs = refl
in_parts size t m (p ∷ ps) qs =
    let s = step size t m p.0 p.1 in
    let c = run_from size t s.next ps in
    ap (λ (x : Course). and_then s x) (in_parts size t s.next ps qs)
    ∙ then_followed s c (run_from size t c.last qs)

-- ---- what is answered

stay_append : (k : rules.Status) (l r : List rules.Answer) → all_stay k (l ++ r) ≡ (all_stay k l && all_stay k r)
stay_append k [] r = refl
stay_append k (a ∷ l) r =
    ap (λ (b : Bool). stays k a && b) (stay_append k l r) ∙ sym (and_assoc (stays k a) (all_stay k l) (all_stay k r))

module _ {size : ℕ} {t : Table} {m n k : coded.State} {ps qs : List (Control × Offer)} {c d : Course}
    (e : Comes size t m ps c n) (f : Comes size t n qs d k) where
  abbrev first_stays : Bool
  first_stays = all_stay (state_of m).status c.answers

  abbrev then_stays : Bool
  then_stays = all_stay (state_of m).status d.answers

  both : all_stay (state_of m).status (followed c d).answers ≡ (first_stays && then_stays)
  both = stay_append (state_of m).status c.answers d.answers

  first_alike : first_stays ≡ true → Alike n m
  first_alike q = subst (λ (z : coded.State). Alike z m) (sym (e.rests q)) (all_alike (items_of t) m ps c.answers)

  then_alike : all_stay (state_of n).status d.answers ≡ true → Alike k n
  then_alike q = subst (λ (z : coded.State). Alike z n) (sym (f.rests q)) (all_alike (items_of t) n qs d.answers)

  as_before : first_stays ≡ true → all_stay (state_of n).status d.answers ≡ then_stays
  as_before q = ap (λ (z : rules.Status). all_stay z d.answers) (first_alike q).stood

  said : followed c d ≡ run_from size t (state_of m) (ps ++ qs)
  said =
      ap (λ (z : Course). followed c z) f.says
      ∙ ap (λ (x : State). followed c (run_from size t x qs)) e.means
      ∙ ap (λ (z : Course). followed z (run_from size t z.last qs)) e.says
      ∙ sym (in_parts size t (state_of m) ps qs)

  kept : (first_stays && then_stays) ≡ true → k.boxes ≡ m.boxes
  kept q =
      let a = and_l first_stays then_stays q in
      (then_alike (as_before a ∙ and_r first_stays then_stays q)).row ∙ (first_alike a).row

  cleared : (a b : Bool) → first_stays ≡ a → all_stay (state_of n).status d.answers ≡ b
      → (first_stays && then_stays) ≡ false → Neat k
  cleared a false p q z = f.neat q
  cleared false true p q z = alike_neat k n (then_alike q) (e.neat p)
  cleared true true p q z = never (first_stays && then_stays) (rw (p, sym (as_before p) ∙ q)) z

  pub comes_on : Comes size t m (ps ++ qs) (followed c d) k
  comes_on =
      comes_by size t m (ps ++ qs) (followed c d) k said f.means
      (λ q. kept (sym both ∙ q))
      (λ q. cleared first_stays (all_stay (state_of n).status d.answers) refl refl (sym both ∙ q))

pub chains : Chains
chains size t m ps qs r s e f = comes_on e.comes f.comes

-- ---- any number of calls

pub all_chain : AllChain
unfolding run_from
all_chain size t m [] h =
    comes_by size t m [] (course_of_all (state_of m) []) m refl refl (λ q. refl) (λ q. never true refl q)
all_chain size t m (c ∷ cs) h = comes_on h.0.comes (all_chain size t c.1.state cs h.1)
