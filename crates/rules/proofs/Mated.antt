-- Every mark of an accepted table has its mate. Assumes nothing.
use Rattle.std.proofs.Common.{None}
use Prim.Native.Nat.{ℕ, zero, suc, ◌+◌, ◌<◌}
use mathlib.Core.Path.{◌≡◌, refl, sym, ap, ◌∙◌, subst}
use mathlib.Core.Bool.{Bool, true, false, not, ◌&&◌, ◌||◌, cond}
use mathlib.Core.List.{List, [], ◌∷◌}
use mathlib.Core.Option.{Option, some}
use native.Mathlib.Nat.{not-suc-le-zero, le_of_suc-le-suc, add-zero, zero-add}
use native.Mathlib.Omega.{arith}
use lib.Dec.{eqb}
use lib.ListN.{length, take, drop, replicate}
use borrow.Author.Tests.{eq-eqb}
use Rattle.laws.proofs.Bools.{no}
use Rattle.table.specs.declared.Item.{Item}
use Rattle.table.specs.declared.Table.{Table}
use Rattle.table.specs.Item.{is_open, is_branch, is_close, fits}
use Rattle.table.specs.ReadWrite.{Kinds, lowest}
use Rattle.table.specs.Shape.{items_of, in_shape}
use Rattle.mates.specs.declared.Open.{Open}
use Rattle.mates.specs.Mates.{fits_top, scan, scan_all, belongs, close_from, item_at}
use Rattle.rules.specs.Check.{Held, kinds_of, is_empty, misplaced, refusals, refusals_at_end, Verdict, accepted}
use Rattle.rules.specs.Check.{refused, or_go, walk, at_line, walked, verdict}
use Rattle.rules.specs.Mated.{is_found, Mated}
use Rattle.rules.proofs.Rows.{no_refusal, no_refusal_at_end}
use Rattle.rules.proofs.Placed.{Box, Placed, at_start, placed, plains, bare, after, same_walk}

or_go-accepted : (n i : ℕ) (v : Verdict) → or_go n i v ≡ accepted → (n ≡ 0) × (v ≡ accepted)
or_go-accepted zero i v e = (refl, e)
or_go-accepted (suc n) i v e = (cc, cc)

-- the open boxes by their opening items and sorts
abbrev opens_of : List Box → List Open
opens_of [] = []
opens_of (b ∷ bs) = record { at = b.at; sort = b.sort } ∷ opens_of bs

-- an item that is not misplaced leaves the boxes open that the text leaves open
same_open : (i : ℕ) (s : Placed) (x : Item) → misplaced x (plains s.boxes) ≡ false
    → opens_of (after i s x).boxes ≡ scan i x (opens_of s.boxes)
same_open i s (Item.Act a) e = refl
same_open i s (Item.Pack p) e = refl
same_open i s (Item.Open h) e = refl
same_open i s (Item.Branch b) e = by s.boxes
  where
    by : (bs : List Box) → opens_of (after i (placed s.sure bs s) (Item.Branch b)).boxes ≡ opens_of bs
    by [] = refl
    by (x ∷ bs) = refl
same_open i s (Item.Close e') e = by s.boxes e
  where
    by : (bs : List Box) → misplaced (Item.Close e') (plains bs) ≡ false
        → opens_of (after i (placed s.sure bs s) (Item.Close e')).boxes ≡ scan i (Item.Close e') (opens_of bs)
    by [] d = no d
    by (x ∷ bs) d = rw (fitting (fits (Item.Close e') x.sort) d)
      where
        fitting : (b : Bool) → (not b || false || false) ≡ false → b ≡ true
        fitting true d = refl
        fitting false d = no d
same_open i s Item.Break e = refl
same_open i s Item.Tag e = refl

-- ---- a mark that is not misplaced belongs to the innermost open box

belongs_inner : (x : Item) (bs : List Box) → misplaced x (plains bs) ≡ false → (is_branch x || is_close x) ≡ true
    → fits_top x (opens_of bs) ≡ true
belongs_inner x [] e m = no (sym (left_true (is_branch x || is_close x) _ m) ∙ e)
  where
    left_true : (a b : Bool) → a ≡ true → (a || b) ≡ true
    left_true a b h = rw h
belongs_inner x (b ∷ bs) e m = fitting (is_branch x || is_close x) (fits x b.sort) _ _ m e
  where
    fitting : (a f c d : Bool) → a ≡ true → (a && not f || c || d) ≡ false → f ≡ true
    fitting true true c d h k = refl
    fitting true false c d h k = no k
    fitting false f c d h k = no (sym h)

-- ---- a box that is open has its closing mark further on

abbrev has_at : ℕ → List Open → Bool
has_at p [] = false
has_at p (o ∷ st) = eqb o.at p || has_at p st

found_or : (b : Bool) (j : ℕ) (r : Option ℕ) → (b ≡ false → is_found r ≡ true) → is_found (cond b (some j) r) ≡ true
found_or true j r h = refl
found_or false j r h = h refl

-- it stays open past an item that does not close it
still : (p i : ℕ) (x : Item) (st : List Open) → ((is_branch x || is_close x) ≡ true → fits_top x st ≡ true)
    → (is_close x && belongs p x st) ≡ false → has_at p st ≡ true → has_at p (scan i x st) ≡ true
still p i (Item.Act a) st f e h = h
still p i (Item.Pack a) st f e h = h
still p i (Item.Open a) st f e h = or_right (eqb i p) (has_at p st) h
  where
    or_right : (a b : Bool) → b ≡ true → (a || b) ≡ true
    or_right true b h = refl
    or_right false b h = h
still p i (Item.Branch a) st f e h = h
still p i (Item.Close a) [] f e h = no (sym h)
still p i (Item.Close a) (o ∷ st) f e h =
    rw (f refl) (other (fits (Item.Close a) o.sort) (eqb o.at p) (has_at p st) (f refl) e h)
  where
    other : (g b r : Bool) → g ≡ true → (g && b) ≡ false → (b || r) ≡ true → r ≡ true
    other true true r k d h = no d
    other true false r k d h = h
    other false b r k d h = no (sym k)
still p i Item.Break st f e h = h
still p i Item.Tag st f e h = h

module _ (k : Kinds) where
  -- one item of an accepted row
  one : (i : ℕ) (s : Placed) (x : Item) (xs : List Item) → walk k i (bare s) (x ∷ xs) ≡ accepted
      → (misplaced x (plains s.boxes) ≡ false) × (walk k (suc i) (bare (after i s x)) xs ≡ accepted)
  one i s x xs e =
      let d = or_go-accepted (lowest (refusals k (bare s) x)) i _ e in
      ((no_refusal k (bare s) x d.0).1.1.0, ap (λ (z : Held). walk k (suc i) z xs) (same_walk i s x) ∙ d.1)

  none_left : (i : ℕ) (s : Placed) (p : ℕ) → walk k i (bare s) [] ≡ accepted → has_at p (opens_of s.boxes) ≡ true → ⊥
  none_left i s p e h =
      let d : (lowest (refusals_at_end (bare s)) ≡ 0) × (accepted ≡ accepted) =
      or_go-accepted (lowest (refusals_at_end (bare s))) i accepted e in
      nothing s.boxes (no_refusal_at_end (bare s) d.0).0 h
    where
      nothing : (bs : List Box) → not (is_empty (plains bs)) ≡ false → has_at p (opens_of bs) ≡ true → ⊥
      nothing [] e h = no (sym h)
      nothing (b ∷ bs) e h = no e

  closed_later : (p i : ℕ) (s : Placed) (xs : List Item) → walk k i (bare s) xs ≡ accepted
      → has_at p (opens_of s.boxes) ≡ true
      → is_found (close_from p i (opens_of s.boxes) xs) ≡ true
  closed_later p i s [] e h = absurd (none_left i s p e h)
  closed_later p i s (x ∷ xs) e h =
      let d : (misplaced x (plains s.boxes) ≡ false) × (walk k (suc i) (bare (after i s x)) xs ≡ accepted) =
      one i s x xs e in
      let o : opens_of (after i s x).boxes ≡ scan i x (opens_of s.boxes) = same_open i s x d.0 in
      found_or (is_close x && belongs p x (opens_of s.boxes)) i
      (close_from p (suc i) (scan i x (opens_of s.boxes)) xs)
      (λ n. subst (λ (st : List Open). is_found (close_from p (suc i) st xs) ≡ true) o
      (closed_later p (suc i) (after i s x) xs d.1
      (rw o (still p i x (opens_of s.boxes) (belongs_inner x s.boxes d.0) n h))))

  -- an opening mark is followed by its closing mark
  opened : (i : ℕ) (s : Placed) (x : Item) (xs : List Item) → walk k i (bare s) (x ∷ xs) ≡ accepted → is_open x ≡ true
      → is_found (close_from i i (opens_of s.boxes) (x ∷ xs)) ≡ true
  opened i s (Item.Act a) xs e h = no (sym h)
  opened i s (Item.Pack a) xs e h = no (sym h)
  opened i s (Item.Open a) xs e h =
      closed_later i (suc i) (after i s (Item.Open a)) xs (one i s (Item.Open a) xs e).1 (rw (eq-eqb i i refl))
  opened i s (Item.Branch a) xs e h = no (sym h)
  opened i s (Item.Close a) xs e h = no (sym h)
  opened i s Item.Break xs e h = no (sym h)
  opened i s Item.Tag xs e h = no (sym h)

  -- ---- at any place of an accepted row that starts at item i in s

  inner_at : (j i : ℕ) (s : Placed) (xs : List Item) → walk k i (bare s) xs ≡ accepted → j < length xs
      → (is_branch (item_at xs j) || is_close (item_at xs j)) ≡ true
      → fits_top (item_at xs j) (scan_all i (opens_of s.boxes) (take j xs)) ≡ true
  inner_at j i s [] e h m = absurd (not-suc-le-zero h)
  inner_at zero i s (x ∷ xs) e h m = belongs_inner x s.boxes (one i s x xs e).0 m
  inner_at (suc j) i s (x ∷ xs) e h m =
      subst (λ (st : List Open). fits_top (item_at xs j) (scan_all (suc i) st (take j xs)) ≡ true)
      (same_open i s x (one i s x xs e).0)
      (inner_at j (suc i) (after i s x) xs (one i s x xs e).1 (le_of_suc-le-suc h) m)

  closing_at : (j i : ℕ) (s : Placed) (xs : List Item) → walk k i (bare s) xs ≡ accepted → j < length xs
      → is_open (item_at xs j) ≡ true
      → is_found (close_from (j + i) (j + i) (scan_all i (opens_of s.boxes) (take j xs)) (drop j xs)) ≡ true
  closing_at j i s [] e h m = absurd (not-suc-le-zero h)
  closing_at zero i s (x ∷ xs) e h m =
      subst (λ (n : ℕ). is_found (close_from n n (opens_of s.boxes) (x ∷ xs)) ≡ true) (sym (zero-add i))
      (opened i s x xs e m)
  closing_at (suc j) i s (x ∷ xs) e h m =
      let z : suc j + i ≡ j + suc i = omega arith in
      rw z (subst (λ (st : List Open). is_found
      (close_from (j + suc i) (j + suc i) (scan_all (suc i) st (take j xs)) (drop j xs)) ≡ true)
      (same_open i s x (one i s x xs e).0)
      (closing_at j (suc i) (after i s x) xs (one i s x xs e).1 (le_of_suc-le-suc h) m))

abbrev kinds : Table → Kinds
kinds t = kinds_of (replicate 32 None) (items_of t)

pub accepted_mated : (size : ℕ) (t : Table) → verdict size t ≡ accepted → Mated (items_of t)
unfolding verdict
accepted_mated size t e = record {
  inner = λ i h m. inner_at (kinds t) i 0 at_start (items_of t) walks h m;
  closing = λ i h m. rw (add-zero i) at (closing_at (kinds t) i 0 at_start (items_of t) walks h m);
}
  where
    by_line : (v : Verdict) → at_line t v ≡ accepted → v ≡ accepted
    by_line accepted e = refl
    by_line (refused n i) e = cc

    by_shape : (b : Bool) (v : Verdict) → cond b v (refused 30 0) ≡ accepted → v ≡ accepted
    by_shape true v e = e
    by_shape false v e = cc

    walks : walked t ≡ accepted
    walks = by_line (walked t) (by_shape (in_shape size t) (at_line t (walked t)) e)
