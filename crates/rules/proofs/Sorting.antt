-- Kinds as two sets of names. Assumes nothing.
use Rattle.std.proofs.Common.{Option, Some, None, is_some}
use Prim.Native.Nat.{ℕ, zero, suc}
use mathlib.Core.Path.{◌≡◌, refl, sym, ap, ◌∙◌}
use mathlib.Core.Bool.{Bool, true, false, ◌||◌}
use mathlib.Core.List.{[], ◌∷◌}
use native.Mathlib.Omega.{arith}
use lib.ListN.{length, set, replicate}
use lib.Seq.{set-get_or}
use Rattle.laws.proofs.Bools.{no}
use Rattle.table.specs.ReadWrite.{Names, has, Kinds, kind_at}
use Rattle.sets.specs.Names.{nothing, names_of}
use Rattle.sets.specs.declared.NameSet.{NameSet}
use Rattle.sets.proofs.Bits.{length-names}
use Rattle.table.specs.declared.Kind.{Kind}
use Rattle.rules.specs.Check.{or_else}
use Rattle.rules.specs.Code.{Sorted, kind_by, kinds_by, kinds_in, learnt}

-- ---- the kind of a name

kind_by_at : (s t : Names) (n : ℕ) → length s ≡ length t → kind_at (kinds_by s t) n ≡ kind_by (has s n) (has t n)
unfolding kinds_by
kind_by_at [] [] n h = refl
kind_by_at [] (b ∷ t) n h = absurd (omega arith)
kind_by_at (a ∷ s) [] n h = absurd (omega arith)
kind_by_at (a ∷ s) (b ∷ t) zero h = refl
kind_by_at (a ∷ s) (b ∷ t) (suc n) h = kind_by_at s t n (omega arith)

module _ (k : Sorted) (n : ℕ) where
  kind_at_lem : kind_at (kinds_in k) n ≡ kind_by (has (names_of k.whole) n) (has (names_of k.real) n)
  unfolding kinds_in
  kind_at_lem =
      kind_by_at (names_of k.whole) (names_of k.real) n (length-names k.whole.0 ∙ sym (length-names k.real.0))

  pub whole_there : has (names_of k.whole) n ≡ true → Some Kind.Whole ≡ kind_at (kinds_in k) n
  whole_there e = rw (kind_at_lem, e)

  pub real_there : has (names_of k.whole) n ≡ false → has (names_of k.real) n ≡ true
      → Some Kind.Real ≡ kind_at (kinds_in k) n
  real_there e f = rw (kind_at_lem, e, f)

  pub no_kind_there : has (names_of k.whole) n ≡ false → has (names_of k.real) n ≡ false
      → None ≡ kind_at (kinds_in k) n
  no_kind_there e f = rw (kind_at_lem, e, f)

  pub known_there : (has (names_of k.whole) n || has (names_of k.real) n) ≡ is_some (kind_at (kinds_in k) n)
  known_there = rw kind_at_lem (by (has (names_of k.whole) n) (has (names_of k.real) n))
    where
      by : (w r : Bool) → (w || r) ≡ is_some (kind_by w r)
      by true r = refl
      by false true = refl
      by false false = refl

-- what the search for a name's kind cites, for its attribute
pub ruleset there = (whole_there, real_there, no_kind_there)

-- ---- a kind learnt

pub none_known : (k : Sorted) → names_of k.whole ≡ nothing → names_of k.real ≡ nothing
    → kinds_in k ≡ replicate 32 None
unfolding kinds_in kinds_by
none_known k e f = rw (e, f)

module _ (k : Kinds) (n : ℕ) where
  same : (j : Option Kind) → or_else (kind_at k n) j ≡ kind_at k n → k ≡ learnt k n j
  same j e = sym (ap (set k n) e ∙ set-get_or k n None)

  pub keeps : (j : Option Kind) → is_some (kind_at k n) ≡ true → k ≡ learnt k n j
  keeps j h = same j (by (kind_at k n) h)
    where
      by : (i : Option Kind) → is_some i ≡ true → or_else i j ≡ i
      by None h = no (sym h)
      by (Some i) h = refl

  pub teaches_none : (j : Option Kind) → j ≡ None → k ≡ learnt k n j
  teaches_none j e = rw e (same None (by (kind_at k n)))
    where
      by : (i : Option Kind) → or_else i None ≡ i
      by None = refl
      by (Some i) = refl

  learns_first : (j : Option Kind) → is_some (kind_at k n) ≡ false → set k n j ≡ learnt k n j
  learns_first j h = ap (set k n) (by (kind_at k n) h)
    where
      by : (i : Option Kind) → is_some i ≡ false → j ≡ or_else i j
      by None h = refl
      by (Some i) h = no h

set-whole : (s t : Names) (n : ℕ) → kinds_by (set s n true) t ≡ set (kinds_by s t) n (Some Kind.Whole)
unfolding kinds_by
set-whole [] t n = refl
set-whole (a ∷ s) [] zero = refl
set-whole (a ∷ s) [] (suc n) = refl
set-whole (a ∷ s) (b ∷ t) zero = refl
set-whole (a ∷ s) (b ∷ t) (suc n) = ap (λ (l : Kinds). kind_by a b ∷ l) (set-whole s t n)

set-real : (s t : Names) (n : ℕ) → has s n ≡ false
    → kinds_by s (set t n true) ≡ set (kinds_by s t) n (Some Kind.Real)
unfolding kinds_by
set-real [] t n h = refl
set-real (a ∷ s) [] n h = refl
set-real (a ∷ s) (b ∷ t) zero h = rw h
set-real (a ∷ s) (b ∷ t) (suc n) h = ap (λ (l : Kinds). kind_by a b ∷ l) (set-real s t n h)

module _ (k : Sorted) (n : ℕ) (w : NameSet) (new : is_some (kind_at (kinds_in k) n) ≡ false) where
  pub whole_learnt : names_of w ≡ set (names_of k.whole) n true
      → kinds_in (record { whole = w; real = k.real }) ≡ learnt (kinds_in k) n (Some Kind.Whole)
  unfolding kinds_in
  whole_learnt e =
      ap (λ (s : Names). kinds_by s (names_of k.real)) e ∙ set-whole (names_of k.whole) (names_of k.real) n
      ∙ learns_first (kinds_in k) n (Some Kind.Whole) new

  not_whole : has (names_of k.whole) n ≡ false
  not_whole = by (has (names_of k.whole) n) refl
    where
      by : (a : Bool) → has (names_of k.whole) n ≡ a → has (names_of k.whole) n ≡ false
      by true e = no (ap is_some (whole_there k n e) ∙ new)
      by false e = e

  pub real_learnt : names_of w ≡ set (names_of k.real) n true
      → kinds_in (record { whole = k.whole; real = w }) ≡ learnt (kinds_in k) n (Some Kind.Real)
  unfolding kinds_in
  real_learnt e =
      ap (kinds_by (names_of k.whole)) e ∙ set-real (names_of k.whole) (names_of k.real) n not_whole
      ∙ learns_first (kinds_in k) n (Some Kind.Real) new

-- what a name that learns its kind cites, for its attribute
pub ruleset learning = (keeps, whole_learnt, real_learnt)
