-- The checker's walk over the items of an accepted script: the state before each item, and what its tests said of it.
use Rattle.std.proofs.Common.{None}
use Prim.Native.Nat.{ℕ, zero, suc, ◌≤◌, ◌<◌}
use mathlib.Core.Path.{◌≡◌, refl, sym, ap, ◌∙◌}
use mathlib.Core.Bool.{Bool, true, false, not, ◌&&◌, ◌||◌}
use mathlib.Core.List.{List, [], ◌∷◌}
use native.Mathlib.Omega.{arith}
use lib.Dec.{ltb, leb}
use lib.ListN.{length, replicate}
use borrow.Author.Tests.{ltb-true, not-false}
use Rattle.table.specs.declared.Operand.{Operand}
use Rattle.table.specs.declared.Branch.{Branch}
use Rattle.table.specs.declared.Close.{Close}
use Rattle.table.specs.declared.Item.{Item}
use Rattle.table.specs.declared.Write.{Write}
use Rattle.table.specs.Item.{is_open, is_tag, fits}
use Rattle.table.specs.ReadWrite.{reads_of, writes_of, Kinds, kind_at, wrong, wrong_write, Names, has, missing}
use Rattle.table.specs.ReadWrite.{breaks_order, lowest}
use Rattle.table.specs.Shape.{operand_ok, reads_ok, writes_ok, own_ok, item_ok, items_ok}
use Rattle.rules.specs.Check.{learn, kinds_of, Held, begin, is_empty, base, misplaced, refusals, refusals_at_end}
use Rattle.rules.specs.Check.{Verdict}
use Rattle.rules.specs.Check.{accepted, or_go, walk}
use Rattle.rules.proofs.Placed.{Box, Placed, at_start, plains, bare, length-plains, after, same_walk}
use Rattle.rules.proofs.Writes.{learns}
use Rattle.safety.proofs.Laws.{or_l, or_r, and_l, and_r, skip}

-- the kinds of the whole text
abbrev pub text_kinds : List Item → Kinds
text_kinds items = kinds_of (replicate 32 None) items

-- the items of a script that the checker accepts
pub record Accepted (names size : ℕ) (items : List Item) : Type 0 where
  pub few : names ≤ 32
  pub shaped : items_ok names size items ≡ true
  pub passed : walk (text_kinds items) 0 begin items ≡ accepted

-- the checker's state: what is surely written, the open boxes, a package open, the tag seen
abbrev pub state : Names → List Box → Bool → Bool → Placed
state su l p tg = record { sure = su; boxes = l; packed = p; tagged = tg }

-- s is the state before item i, k the kinds from the items before it, xs the items from there on
pub data Reach (items : List Item) : ℕ → Placed → Kinds → List Item → Type 0 where
  outset : Reach items 0 at_start (replicate 32 None) items
  more : {i : ℕ} {s : Placed} {k : Kinds} {x : Item} {xs : List Item} → Reach items i s k (x ∷ xs)
      → Reach items (suc i) (after i s x) (learn k (writes_of x)) xs

-- ---- an accepted item passes every test

pub record Clean (k : Kinds) (s : Placed) (x : Item) : Type 0 where
  pub kinds : wrong (kind_at k) (reads_of x) ≡ false
  pub gifts : wrong_write (kind_at k) (writes_of x) ≡ false
  pub there : missing (has (base (bare s) x)) (reads_of x) ≡ false
  pub placed : misplaced x (plains s.boxes) ≡ false
  pub eighth : (is_open x && leb 8 (length s.boxes)) ≡ false
  pub packed : breaks_order x s.packed ≡ false
  pub tagged : (is_tag x && (s.tagged || not (is_empty (plains s.boxes)))) ≡ false

is_clean : (k : Kinds) (s : Placed) (x : Item) → lowest (refusals k (bare s) x) ≡ 0 → Clean k s x
is_clean k s x e₀ =
    let a = skip 18 _ _ e₀ in
    let b = skip 19 _ _ a.1 in
    let c = skip 20 _ _ b.1 in
    let d = skip 21 _ _ c.1 in
    let f = skip 22 _ _ d.1 in
    let g = skip 23 _ _ f.1 in
    record {
      kinds = or_l (wrong (kind_at k) (reads_of x)) (wrong_write (kind_at k) (writes_of x)) a.0;
      gifts = or_r (wrong (kind_at k) (reads_of x)) (wrong_write (kind_at k) (writes_of x)) a.0;
      there = b.0;
      placed = c.0;
      eighth = ap (λ (n : ℕ). is_open x && leb 8 n) (sym (length-plains s.boxes)) ∙ d.0;
      packed = f.0;
      tagged = g.0;
    }

or_go-accepted : (n i : ℕ) (v : Verdict) → or_go n i v ≡ accepted → (n ≡ 0) × (v ≡ accepted)
or_go-accepted zero i v e = (refl, e)
or_go-accepted (suc n) i v e = (cc, cc)

-- a closing or branch mark that is placed is of its box's sort
pub closes_fits : (e : Close) (b : Box) (bs : List Box) → misplaced (Item.Close e) (plains (b ∷ bs)) ≡ false
    → fits (Item.Close e) b.sort ≡ true
closes_fits e b bs h =
    not-false _ (or_l (not (fits (Item.Close e) b.sort)) false
    (or_l (not (fits (Item.Close e) b.sort) || false) false h))

pub branch_fits : (c : Branch) (b : Box) (bs : List Box) → misplaced (Item.Branch c) (plains (b ∷ bs)) ≡ false
    → fits (Item.Branch c) b.sort ≡ true
branch_fits c b bs h =
    not-false _ (or_l (not (fits (Item.Branch c) b.sort)) b.else_seen
    (or_l (not (fits (Item.Branch c) b.sort) || b.else_seen) false h))

-- ---- of an accepted script

module _ {names size : ℕ} {items : List Item} (ok : Accepted names size items) where
  reach_walk : {i : ℕ} {s : Placed} {k : Kinds} {xs : List Item} → Reach items i s k xs
      → walk (text_kinds items) i (bare s) xs ≡ accepted
  reach_walk outset = ok.passed
  reach_walk (more {i} {s} {k} {x} {xs} r) =
      ap (λ (z : Held). walk (text_kinds items) (suc i) z xs) (same_walk i s x)
      ∙ (or_go-accepted (lowest (refusals (text_kinds items) (bare s) x)) i _ (reach_walk r)).1

  pub clean : {i : ℕ} {s : Placed} {k : Kinds} {x : Item} {xs : List Item} → Reach items i s k (x ∷ xs)
      → Clean (text_kinds items) s x
  clean {i} {s} {k} {x} {xs} r =
      is_clean (text_kinds items) s x
      (or_go-accepted (lowest (refusals (text_kinds items) (bare s) x)) i _ (reach_walk r)).0

  pub reach_kinds : {i : ℕ} {s : Placed} {k : Kinds} {xs : List Item} → Reach items i s k xs
      → kinds_of k xs ≡ text_kinds items
  reach_kinds outset = refl
  reach_kinds (more {k = k} {x = x} {xs = xs} r) = ap (λ (q : Kinds). kinds_of q xs) (sym (learns k x)) ∙ reach_kinds r

  reach_ok : {i : ℕ} {s : Placed} {k : Kinds} {xs : List Item} → Reach items i s k xs → items_ok names size xs ≡ true
  reach_ok outset = ok.shaped
  reach_ok (more {x = x} {xs = xs} r) = and_r (item_ok names size x) (items_ok names size xs) (reach_ok r)

  pub item_ok_lem : {i : ℕ} {s : Placed} {k : Kinds} {x : Item} {xs : List Item} → Reach items i s k (x ∷ xs)
      → item_ok names size x ≡ true
  item_ok_lem {x = x} {xs = xs} r = and_l (item_ok names size x) (items_ok names size xs) (reach_ok r)

  pub ends : {i : ℕ} {s : Placed} {k : Kinds} → Reach items i s k []
      → (is_empty (plains s.boxes) ≡ true) × (s.packed ≡ false)
  ends {i} {s} {k} r =
      let a = skip 20 _ _ (or_go-accepted (lowest (refusals_at_end (bare s))) i _ (reach_walk r)).0 in
      let b = skip 22 _ _ a.1 in
      (not-false (is_empty (plains s.boxes)) a.0, b.0)

  name_below : (n : ℕ) → ltb n names ≡ true → n < 32
  name_below n h = omega (arith, ltb-true n names h, ok.few)

  pub writes_ok_lem : (x : Item) → item_ok names size x ≡ true → writes_ok names (writes_of x) ≡ true
  writes_ok_lem x h = and_r (own_ok names size x && reads_ok names (reads_of x)) (writes_ok names (writes_of x)) h

  pub like_below : (v : ℕ) (x : Operand) → writes_ok names (Write.Like v x ∷ []) ≡ true → v < 32
  like_below v x h = name_below v (and_l (ltb v names) (operand_ok names x) h)

  pub float_below : (v : ℕ) (gs : List Write) → writes_ok names (Write.Float v ∷ gs) ≡ true → v < 32
  float_below v gs h = name_below v (and_r (writes_ok names gs) (ltb v names) h)
