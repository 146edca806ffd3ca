-- The items of a table in brief, one after the other. Assumes nothing.
use Prim.Native.Nat.{ℕ, zero, suc, ◌+◌, ◌≤◌, ◌<◌}
use mathlib.Core.Path.{◌≡◌, refl, ap, ◌∙◌}
use mathlib.Core.Bool.{Bool, true, false, ◌&&◌}
use mathlib.Core.List.{List, [], ◌∷◌}
use native.Mathlib.Nat.{not-suc-le-zero, le_of_suc-le-suc}
use native.Mathlib.Omega.{arith}
use lib.Dec.{eqb, leb}
use lib.ListN.{length, get_or, set, take, length-set, length-take}
use lib.Seq.{get_or-set_same, get_or-set_other, get_or-take}
use borrow.Author.Tests.{eqb-true, eqb-false, leb-true}
use Rattle.laws.proofs.Bools.{and_l, and_r}
use Rattle.table.specs.declared.Item.{Item}
use Rattle.table.specs.declared.Slot.{Slot}
use Rattle.table.specs.declared.Table.{Table}
use Rattle.table.specs.ReadWrite.{Kinds, Names, reads_of, writes_of}
use Rattle.table.specs.Shape.{no_slot, slot_at, items_in, items_of, reads_ok, writes_ok, own_ok, item_ok}
use Rattle.table.specs.Shape.{items_ok, in_shape}
use Rattle.table.proofs.Items.{drop-items, no_items}
use Rattle.sets.specs.Names.{either, outside, names_of}
use Rattle.sets.proofs.Bits.{length-names}
use Rattle.sets.proofs.Members.{read_outside, put_either}
use Rattle.rules.specs.Code.{Brief, Briefs, Noted, NotedAt, no_brief, brief_at, Told, Reached}

-- of an item whose names are among the 32
noted : {k : Kinds} {x : Item} {b : Brief} (names : ℕ) → Briefs k x b → names ≤ 32 → reads_ok names (reads_of x) ≡ true
    → Noted k x b
noted {x = x} names b h o = record {
  missed = λ s. ap (λ (r : Names). outside r (names_of s)) b.reads
      ∙ read_outside names (names_of s) (reads_of x) h (length-names s.0) o;
  adds = λ s. ap (either (names_of s)) b.writes ∙ put_either (names_of s) (writes_of x) (length-names s.0);
  form = b.form;
}

-- the items before i are in the row
pub record Noting (t : Table) (k : Kinds) (bs : List Brief) (i : ℕ) : Type 0 where
  pub long : length bs ≡ 128
  pub each : (j : ℕ) → j < i → Noted k (slot_at t j).item (brief_at bs j)

-- one item further
pub note_next : {t : Table} {k : Kinds} {i : ℕ} {bs : List Brief} {b : Brief} → Reached t → Noting t k bs i
    → i < t.count → Briefs k (slot_at t i).item b → Noting t k (set bs i b) (i + 1)
note_next {t} {k} {i} {bs} {b} r p h e = record {
  long = length-set bs i b ∙ p.long;
  each = λ j l. by j l (eqb j i) refl;
}
  where
    by : (j : ℕ) → j < i + 1 → (q : Bool) → eqb j i ≡ q → Noted k (slot_at t j).item (brief_at (set bs i b) j)
    by j l true z =
        rw (eqb-true j i z, get_or-set_same bs i b no_brief (omega (arith, p.long, r.items)))
        (noted t.names e r.names (r.each i h))
    by j l false z =
        let other : j ≡ i → ⊥ = eqb-false j i z in
        rw (get_or-set_other bs i j b no_brief other) (p.each j (omega (arith, l, other)))

-- all items are in the row
pub all_noted : {t : Table} {k : Kinds} {i : ℕ} {bs : List Brief} → Noting t k bs i → t.count ≤ i → t.count ≤ 128
    → length t.items ≡ 128 → Told k (items_of t) (take t.count bs)
all_noted {t} {k} {i} {bs} p h m l = record {
  each = λ j q. by j (rw full at q);
  past = λ j q. no_items t.count j t.items (rw full at q);
}
  where
    full : length (take t.count bs) ≡ t.count
    full = omega (arith, length-take t.count bs, p.long)

    by : (j : ℕ) → j < t.count → NotedAt k (items_of t) (take t.count bs) j
    by j q = record {
      item = (slot_at t j).item;
      here = drop-items t.count j t.items q (omega (arith, l));
      noted = rw (get_or-take t.count bs j no_brief q) (p.each j (omega arith));
    }

-- ---- a table in shape

module _ (names size : ℕ) where
  item_ok_at : (n i : ℕ) (ss : List Slot) → i < n → n ≤ length ss → items_ok names size (items_in n ss) ≡ true
      → item_ok names size (get_or ss i no_slot).item ≡ true
  item_ok_at zero i ss h l e = absurd (not-suc-le-zero h)
  item_ok_at (suc n) i [] h l e = absurd (not-suc-le-zero l)
  item_ok_at (suc n) zero (s ∷ ss) h l e =
      and_l (item_ok names size s.item) (items_ok names size (items_in n ss)) e
  item_ok_at (suc n) (suc i) (s ∷ ss) h l e =
      item_ok_at n i ss (le_of_suc-le-suc h) (le_of_suc-le-suc l)
      (and_r (item_ok names size s.item) (items_ok names size (items_in n ss)) e)

  reads_ok_lem : (x : Item) → item_ok names size x ≡ true → reads_ok names (reads_of x) ≡ true
  reads_ok_lem x e =
      and_r (own_ok names size x) (reads_ok names (reads_of x))
      (and_l (own_ok names size x && reads_ok names (reads_of x)) (writes_ok names (writes_of x)) e)

module _ (size : ℕ) (t : Table) (shape : in_shape size t ≡ true) where
  abbrev counts : Bool
  counts = leb t.count 128 && leb t.names 32

  counted : counts ≡ true
  unfolding in_shape
  counted = and_l counts (items_ok t.names size (items_of t)) shape

  all_ok : items_ok t.names size (items_of t) ≡ true
  unfolding in_shape
  all_ok = and_r counts (items_ok t.names size (items_of t)) shape

  pub few_items : t.count ≤ 128
  few_items = leb-true t.count 128 (and_l (leb t.count 128) (leb t.names 32) counted)

  pub reached : length t.items ≡ 128 → Reached t
  reached l = record {
    items = few_items;
    names = leb-true t.names 32 (and_r (leb t.count 128) (leb t.names 32) counted);
    each = λ i h. reads_ok_lem t.names size (slot_at t i).item
        (item_ok_at t.names size t.count i t.items h (omega (arith, few_items, l)) all_ok);
  }
