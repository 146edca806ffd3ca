-- A step that takes no item hands out nothing. It changes nothing, save that one that waits keeps the control.
use Prim.Native.Nat.{ℕ, zero, suc}
use mathlib.Core.Path.{◌≡◌, refl, sym, subst, ◌∙◌}
use mathlib.Core.Bool.{Bool, true, false, not, ◌&&◌, cond, false≢true}
use mathlib.Core.List.{List, [], ◌∷◌}
use mathlib.Core.Option.{Option, none, some}
use lib.ListN.{drop}
use Rattle.table.specs.declared.Item.{Item}
use Rattle.table.specs.declared.Table.{Table}
use Rattle.table.specs.ReadWrite.{lowest}
use Rattle.table.specs.Shape.{items_of, in_shape}
use Rattle.state.specs.declared.Control.{Control}
use Rattle.state.specs.declared.Offer.{Offer}
use Rattle.state.specs.State.{State, Status, live, finished_run, stopped_run, fault_run, Out, Step, Meets, ready, short}
use Rattle.state.specs.State.{amiss, wants_nothing, wanted_by, meets, cleared, flagged, is_held, stays, Answer, running}
use Rattle.state.specs.State.{waiting, finished, stopped, fault, refuse}
use Rattle.steps.specs.Machine.{run, served, or_fault, finish, faults, tries, at_item, leave_outs, tag_from, ahead}
use Rattle.steps.specs.Machine.{abort_due, aborted, moved, again, is_empty, told, state_ok, shapeless, step}
use Rattle.steps.specs.Code.{Faithful}
use Rattle.steps.proofs.Taken.{run_taken}

abbrev Plain : Step → Type 0
Plain s = is_held s.answer ≡ false

-- what a step that takes no item leaves of the run m₀, where the control made m of it
abbrev pub left_of : State → State → Answer → State
left_of m₀ m running = m₀
left_of m₀ m waiting = m
left_of m₀ m finished = m₀
left_of m₀ m (stopped s) = m₀
left_of m₀ m (fault n) = m₀
left_of m₀ m (refuse n k) = m₀

abbrev Held : State → State → Step → Type 0
Held m₀ m s = is_held s.answer ≡ true → (s.outs ≡ []) × (s.next ≡ left_of m₀ m s.answer)

plain_held : (m₀ m : State) (s : Step) → Plain s → Held m₀ m s
plain_held m₀ m s p q = absurd (false≢true (sym p ∙ q))

served_held : (m₀ m : State) (q : Meets) (s : Step) → Plain s → Held m₀ m (served m₀ m q s)
served_held m₀ m ready s p = plain_held m₀ m s p
served_held m₀ m short s p = λ q. (refl, refl)
served_held m₀ m amiss s p = λ q. (refl, refl)

-- where nothing is wanted, nobody waits
calm_held : (m₀ m n : State) (o : Offer) (s : Step) → Plain s → Held m₀ m (served m₀ n (meets wants_nothing o) s)
calm_held m₀ m n Offer.Nothing s p = plain_held m₀ m s p
calm_held m₀ m n (Offer.Float x) s p = λ q. (refl, refl)
calm_held m₀ m n (Offer.Point x) s p = λ q. (refl, refl)
calm_held m₀ m n Offer.Done s p = λ q. (refl, refl)

fault_held : (k : ℕ) (m₀ m : State) (s : Step) → Held m₀ m s → Held m₀ m (or_fault k m s)
fault_held zero m₀ m s f = f
fault_held (suc k) m₀ m s f = plain_held m₀ m (or_fault (suc k) m s) refl

finish_held : (m₀ m n : State) (o : Offer) (os : List Out) → Held m₀ m (finish m₀ n o os)
finish_held m₀ m n o os = calm_held m₀ m n o _ refl

item_held : (xs : List Item) (m₀ m : State) (o : Offer) (rest : List Item) → Held m₀ m (at_item xs m₀ m o rest)
item_held xs m₀ m o [] =
    fault_held (lowest ((62, not (is_empty m.boxes)) ∷ (64, m.packed) ∷ [])) m₀ m (finish m₀ m o [])
    (finish_held m₀ m m o [])
item_held xs m₀ m o (x ∷ rest) =
    let s = served m₀ m (meets (wanted_by x) o) (run xs m x o) in
    fault_held (lowest (faults xs m x)) m₀ m (or_fault (tries xs m x) m s)
    (fault_held (tries xs m x) m₀ m s
    (served_held m₀ m (meets (wanted_by x) o) (run xs m x o) (run_taken xs m x o).plain))

cond_held : (m₀ m : State) (b : Bool) (s t : Step) → Held m₀ m s → Held m₀ m t → Held m₀ m (cond b s t)
cond_held m₀ m true s t p q = p
cond_held m₀ m false s t p q = q

aborted_held : (xs : List Item) (m₀ m : State) (o : Offer) (p : Option ℕ) → Held m₀ m (aborted xs m₀ m o p)
aborted_held xs m₀ m o none = finish_held m₀ m (cleared m m.at) o (leave_outs xs m.boxes)
aborted_held xs m₀ m o (some i) = calm_held m₀ m (cleared m i) o _ refl

moved_held : (xs : List Item) (m₀ m : State) (o : Offer) → Held m₀ m (moved xs m₀ m o)
moved_held xs m₀ m o =
    cond_held m₀ m (abort_due xs m) _ _ (aborted_held xs m₀ m o (ahead m.at (tag_from 0 xs)))
    (item_held xs m₀ m o (drop m.at xs))

-- a step s, from a status, that takes no item
abbrev Rests : Status → State → State → Step → Type 0
Rests k m₀ m s = stays k s.answer ≡ true → (s.outs ≡ []) × (s.next ≡ left_of m₀ m s.answer)

again_rests : (k : Status) (xs : List Item) (m₀ m : State) (o : Offer)
    → Rests k m₀ m (again k m₀ (moved xs m₀ m o))
again_rests live xs m₀ m o = moved_held xs m₀ m o
again_rests finished_run xs m₀ m o = λ q. (refl, refl)
again_rests (stopped_run c) xs m₀ m o = λ q. (refl, refl)
again_rests (fault_run n) xs m₀ m o = λ q. (refl, refl)

shapeless_rests : (m₀ m : State) → Rests m₀.status m₀ m (shapeless m₀)
shapeless_rests m₀ m = λ q. (refl, refl)

known_rests : (b : Bool) (xs : List Item) (m₀ m : State) (o : Offer)
    → Rests m₀.status m₀ m (cond b (again m₀.status m₀ (moved xs m₀ m o)) (shapeless m₀))
known_rests true xs m₀ m o = again_rests m₀.status xs m₀ m o
known_rests false xs m₀ m o = shapeless_rests m₀ m

pub step_rests : (size : ℕ) (t : Table) (m : State) (c : Control) (o : Offer)
    → Rests m.status m (told (items_of t) m c) (step size t m c o)
unfolding step
step_rests size t m c o = known_rests (in_shape size t && state_ok (items_of t) m) (items_of t) m (told
    (items_of t) m c) o

-- ---- only the flags that a control sets

told_flags : (xs : List Item) (m : State) (c : Control)
    → told xs m c ≡ flagged m (told xs m c).pending (told xs m c).skip
told_flags xs m Control.None = refl
told_flags xs m Control.Z = refl
told_flags xs m Control.Y = refl

left_flags : (xs : List Item) (m : State) (c : Control) (a : Answer)
    → let n = left_of m (told xs m c) a in n ≡ flagged m n.pending n.skip
left_flags xs m c running = refl
left_flags xs m c waiting = told_flags xs m c
left_flags xs m c finished = refl
left_flags xs m c (stopped s) = refl
left_flags xs m c (fault n) = refl
left_flags xs m c (refuse n k) = refl

pub again_faithful : (xs : List Item) (m : State) (c : Control) (o : Offer)
    → Faithful m (again m.status m (moved xs m (told xs m c) o))
again_faithful xs m c o q =
    let s = again m.status m (moved xs m (told xs m c) o) in
    let k = again_rests m.status xs m (told xs m c) o q in
    (k.0, subst (λ (x : State). x ≡ flagged m x.pending x.skip) (sym k.1) (left_flags xs m c s.answer))
