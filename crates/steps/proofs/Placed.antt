-- The marks that leaving hands out, and the tests of 62.
use Prim.Native.Nat.{ℕ, zero, suc, ◌-◌}
use mathlib.Core.Path.{◌≡◌, refl, sym, ap, ◌∙◌}
use mathlib.Core.Bool.{Bool, true, false, ◌||◌, false≢true, or-false}
use mathlib.Core.List.{List, [], ◌∷◌, ◌++◌, append_assoc}
use mathlib.Core.Option.{Option, none, some}
use lib.Dec.{eqb, eqb-suc-zero}
use lib.ListN.{get_or}
use Rattle.table.specs.declared.Item.{Item}
use Rattle.table.specs.Item.{is_open, is_branch, is_close, is_loop, is_sweep, opens_a}
use Rattle.mates.specs.Mates.{boxes_at, close_of, item_at, past}
use Rattle.state.specs.State.{State, Out}
use Rattle.state.specs.Meaning.{tops}
use Rattle.state.proofs.Boxes.{tops_top}
use Rattle.steps.specs.Machine.{astray, leave_outs, is_none, is_empty, strays}

pub leave_cons : (xs : List Item) (p : ℕ) (ps : List ℕ)
    → leave_outs xs (p ∷ ps) ≡ leave_outs xs (p ∷ []) ++ leave_outs xs ps
leave_cons xs p ps = go (opens_a is_sweep (item_at xs p)) (opens_a is_loop (item_at xs p)) refl refl
  where
    go : (a b : Bool) → opens_a is_sweep (item_at xs p) ≡ a → opens_a is_loop (item_at xs p) ≡ b
        → leave_outs xs (p ∷ ps) ≡ leave_outs xs (p ∷ []) ++ leave_outs xs ps
    go true b e f = rw e
    go false true e f = rw (e, f)
    go false false e f = rw (e, f)

pub leave_more : (xs : List Item) (l : List ℕ) (k : ℕ) (hs hs' : List Out) → (k ≡ 0 → ⊥)
    → hs' ≡ hs ++ leave_outs xs (get_or l (k - 1) 0 ∷ [])
    → hs' ++ leave_outs xs (tops l (k - 1)) ≡ hs ++ leave_outs xs (tops l k)
leave_more xs l k hs hs' h e =
    rw (e, append_assoc hs (leave_outs xs (get_or l (k - 1) 0 ∷ [])) (leave_outs xs (tops l (k - 1))), tops_top l k h)
    (ap (λ (r : List Out). hs ++ r) (sym (leave_cons xs (get_or l (k - 1) 0) (tops l (k - 1)))))

-- ---- the tests of 62

pub none_past : (o : Option ℕ) → eqb (past o) 0 ≡ is_none o
none_past none = refl
none_past (some j) = eqb-suc-zero j

pub empty_tops : (l : List ℕ) (k : ℕ) → eqb k 0 ≡ is_empty (tops l k)
empty_tops l zero = refl
empty_tops l (suc k) = eqb-suc-zero k

pub fault_open : (xs : List Item) (m : State) (x : Item) → is_open x ≡ true → astray xs m x ≡ is_none (close_of xs m.at)
fault_open xs m (Item.Act a) e = absurd (false≢true e)
fault_open xs m (Item.Pack p) e = absurd (false≢true e)
fault_open xs m (Item.Open h) e =
    or-false (is_none (close_of xs m.at) || false) ∙ or-false (is_none (close_of xs m.at))
fault_open xs m (Item.Branch b) e = absurd (false≢true e)
fault_open xs m (Item.Close c) e = absurd (false≢true e)
fault_open xs m Item.Break e = absurd (false≢true e)
fault_open xs m Item.Tag e = absurd (false≢true e)

pub fault_mark : (xs : List Item) (m : State) (x : Item) → (is_branch x || is_close x) ≡ true
    → astray xs m x ≡ strays x m.boxes (boxes_at xs m.at)
fault_mark xs m (Item.Act a) e = absurd (false≢true e)
fault_mark xs m (Item.Pack p) e = absurd (false≢true e)
fault_mark xs m (Item.Open h) e = absurd (false≢true e)
fault_mark xs m (Item.Branch b) e = or-false (strays (Item.Branch b) m.boxes (boxes_at xs m.at))
fault_mark xs m (Item.Close c) e = or-false (strays (Item.Close c) m.boxes (boxes_at xs m.at))
fault_mark xs m Item.Break e = absurd (false≢true e)
fault_mark xs m Item.Tag e = absurd (false≢true e)
