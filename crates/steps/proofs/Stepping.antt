-- One step: the tag, the faults, the control.
use Prim.Native.Nat.{ℕ, suc, ◌+◌, ◌≤◌, ◌<◌}
use mathlib.Core.Path.{◌≡◌, refl, sym, ap, ◌∙◌}
use mathlib.Core.Bool.{Bool, true, false, not, ◌&&◌, cond, true≢false, and_assoc}
use mathlib.Core.List.{List, [], ◌∷◌}
use mathlib.Core.Option.{Option, none, some}
use native.Mathlib.Nat.{zero-add}
use native.Mathlib.Omega.{arith}
use native.Mathlib.Numerals.{add-one}
use lib.Dec.{ltb, leb}
use lib.ListN.{length, drop, drop_of_length-le}
use lib.Seq.{drop-cons}
use Rattle.table.specs.declared.Head.TheVariants as Head
use Rattle.table.specs.declared.Item.{Item}
use Rattle.table.specs.Item.{is_open, is_tag, is_loop, opens_a}
use Rattle.table.specs.ReadWrite.{lowest, missing, wrong, breaks_order}
use Rattle.mates.specs.Mates.{item_at}
use Rattle.state.specs.declared.Fault.{Fault}
use Rattle.state.specs.declared.Offer.{Offer}
use Rattle.state.specs.State.{State, Step, faults_by, wanted_by, meets, holds, written, kind_now}
use Rattle.state.specs.Meaning.{fault_number}
use Rattle.steps.specs.Machine.{inside, is_none, tag_from, ahead, astray, too_deep, faults, or_fault, served, run}
use Rattle.steps.specs.Machine.{tries, bad_of, at_item, at_end, reads}
use Rattle.steps.specs.Code.{chosen_at, ninth}

-- ---- the first tag

module _ (xs : List Item) (j : ℕ) (h : j < length xs) where
  pub tag_hit : is_tag (item_at xs j) ≡ true → tag_from j (drop j xs) ≡ some j
  tag_hit e = rw (drop-cons xs j Item.Tag h, e)

  pub tag_miss : is_tag (item_at xs j) ≡ false → tag_from j (drop j xs) ≡ tag_from (j + 1) (drop (j + 1) xs)
  tag_miss e = rw (drop-cons xs j Item.Tag h, e, add-one)

pub tag_none : (xs : List Item) (j : ℕ) → length xs ≤ j → tag_from j (drop j xs) ≡ none
tag_none xs j h = rw (drop_of_length-le xs {i = j} h)

tag_within_lem : (i : ℕ) (xs : List Item) (k : ℕ) → tag_from i xs ≡ some k → k < i + length xs
tag_within_lem i [] k e = absurd (true≢false (ap is_none e))
tag_within_lem i (x ∷ xs) k e = go (is_tag x) refl (tag_within_lem (suc i) xs k)
  where
    go : (b : Bool) → is_tag x ≡ b → (tag_from (suc i) xs ≡ some k → k < suc i + length xs) → k < i + suc (length xs)
    go true q rec =
        let f : some i ≡ some k = rw q at e in
        let g : i ≡ k = cc in
        omega arith
    go false q rec =
        let f : tag_from (suc i) xs ≡ some k = rw q at e in
        omega (arith, rec f)

pub tag_below : (xs : List Item) (k : ℕ) → tag_from 0 xs ≡ some k → k < length xs
tag_below xs k e = rw (zero-add (length xs)) at (tag_within_lem 0 xs k e)

pub ahead_is : (at : ℕ) (p : Option ℕ) (i : ℕ) → ahead at p ≡ some i → p ≡ some i
ahead_is at none i e = e
ahead_is at (some t) i e = go (ltb t at) e
  where
    go : (b : Bool) → cond b none (some t) ≡ some i → some t ≡ some i
    go true q = absurd (true≢false (ap is_none q))
    go false q = q

-- ---- faults

clean : (a b c d e : Bool) → lowest ((60, a) ∷ (61, b) ∷ (62, c) ∷ (63, d) ∷ (64, e) ∷ []) ≡ 0
    → (c ≡ false) × (d ≡ false)
clean true b c d e q = let z : ◌≡◌ {A = ℕ} 60 0 = q in absurd (omega arith)
clean false true c d e q = let z : ◌≡◌ {A = ℕ} 61 0 = q in absurd (omega arith)
clean false false true d e q = let z : ◌≡◌ {A = ℕ} 62 0 = q in absurd (omega arith)
clean false false false true e q = let z : ◌≡◌ {A = ℕ} 63 0 = q in absurd (omega arith)
clean false false false false e q = (refl, refl)

-- without a fault there is no 62 and no 63
module _ (xs : List Item) (m : State) (x : Item) (e : lowest (faults xs m x) ≡ 0) where
  pub unfaulted : (astray xs m x ≡ false) × (too_deep m x ≡ false)
  unfaulted =
      clean (missing (written m.vars) (reads x)) (wrong (kind_now m.vars) (reads x)) (astray xs m x)
      (too_deep m x) (breaks_order x m.packed) e

  pub no_ninth : (is_open x && ninth m (opens_a is_loop x)) ≡ false
  no_ninth =
      sym (and_assoc (is_open x) (leb 8 (length m.boxes)) (not (opens_a is_loop x && inside m.at m.boxes)))
      ∙ unfaulted.1

tries_is : (xs : List Item) (m : State) (x : Item) → bad_of (chosen_at xs m x) ≡ tries xs m x
tries_is xs m (Item.Act a) = refl
tries_is xs m (Item.Pack p) = refl
tries_is xs m (Item.Open (Head.If c)) = go (holds m.vars c) refl
  where
    go : (b : Bool) → holds m.vars c ≡ b
        → bad_of (chosen_at xs m (Item.Open (Head.If c))) ≡ tries xs m (Item.Open (Head.If c))
    go true e = rw e
    go false e = rw e
tries_is xs m (Item.Open (Head.Loop c)) = refl
tries_is xs m (Item.Open (Head.Sweep w)) = refl
tries_is xs m (Item.Branch b) = refl
tries_is xs m (Item.Close e) = refl
tries_is xs m Item.Break = refl
tries_is xs m Item.Tag = refl

module _ (xs : List Item) (m₀ m : State) (o : Offer) (x : Item) (h : m.at < length xs)
    (q : item_at xs m.at ≡ x) where
  pub item_faults : (f : Fault) → lowest (faults xs m x) ≡ fault_number f
      → faults_by (fault_number f) m ≡ at_item xs m₀ m o (drop m.at xs)
  item_faults f e = rw (drop-cons xs m.at Item.Tag h, q, e) (number f)
    where
      number : (f : Fault)
          → faults_by (fault_number f) m ≡ or_fault (fault_number f) m
          (or_fault (tries xs m x) m (served m₀ m (meets (wanted_by x) o) (run xs m x o)))
      number Fault.Unwritten = refl
      number Fault.Kind = refl
      number Fault.Box = refl
      number Fault.Depth = refl
      number Fault.Package = refl

  pub item_runs : lowest (faults xs m x) ≡ 0
      → or_fault (bad_of (chosen_at xs m x)) m (served m₀ m (meets (wanted_by x) o) (run xs m x o)) ≡ at_item xs m₀ m o
      (drop m.at xs)
  item_runs e = rw (drop-cons xs m.at Item.Tag h, q, e, tries_is xs m x)

pub at_end_lem : (xs : List Item) (m₀ m : State) (o : Offer) → length xs ≤ m.at
    → at_end m₀ m o ≡ at_item xs m₀ m o (drop m.at xs)
at_end_lem xs m₀ m o h = rw (drop_of_length-le xs {i = m.at} h)

pub faults_by_is : (f : Fault) (m : State) (s : Step) → faults_by (fault_number f) m ≡ or_fault (fault_number f) m s
faults_by_is Fault.Unwritten m s = refl
faults_by_is Fault.Kind m s = refl
faults_by_is Fault.Box m s = refl
faults_by_is Fault.Depth m s = refl
faults_by_is Fault.Package m s = refl
