-- The kinds' pass, one item at a time. Assumes nothing.
use Rattle.std.proofs.Common.{Option, Some, None}
use Prim.Native.Nat.{ℕ, suc, ◌+◌, ◌≤◌, ◌<◌}
use mathlib.Core.Path.{◌≡◌, refl, sym, ap, ◌∙◌}
use mathlib.Core.Bool.{not, cond}
use native.Mathlib.Numerals.{add-one}
use lib.ListN.{length, get_or, set, drop, replicate}
use lib.Seq.{set-get_or}
use Rattle.table.specs.declared.Act.{Act}
use Rattle.table.specs.declared.Kind.{Kind}
use Rattle.table.specs.declared.Item.{Item}
use Rattle.table.specs.declared.Slot.{Slot}
use Rattle.table.specs.declared.Table.{Table}
use Rattle.table.specs.declared.Writes.{Writes}
use Rattle.table.specs.ReadWrite.{Kinds, kind_at, act_writes, writes_of}
use Rattle.table.specs.Code.{all_writes}
use Rattle.table.specs.Shape.{no_slot, items_of}
use Rattle.table.proofs.Items.{drop-items, no_items}
use Rattle.rules.specs.Check.{is_known, passed_act, or_else, learn, learn_item, kinds_of}

or_same : (j : Option Kind) → or_else j j ≡ j
or_same None = refl
or_same (Some j) = refl

or_unknown : (j : Option Kind) → or_else j None ≡ j
or_unknown None = refl
or_unknown (Some j) = refl

-- what is passed over would teach nothing
acts : (k : Kinds) (a : Act) → cond (passed_act k a) k (learn k (act_writes a)) ≡ learn k (act_writes a)
acts k (Act.Var v) = refl
acts k (Act.Store v l t) = refl
acts k (Act.Copy a b) = by (kind_at k a)
  where
    by : (j : Option Kind) → cond (not (is_known j)) k (set k b (or_else (kind_at k b) j))
        ≡ set k b (or_else (kind_at k b) j)
    by None = sym (ap (set k b) (or_unknown (kind_at k b)) ∙ set-get_or k b None)
    by (Some j) = refl
acts k (Act.Calc o v x) = sym (ap (set k v) (or_same (kind_at k v)) ∙ set-get_or k v None)
acts k (Act.Meas f v t) = refl
acts k (Act.TimerGet v) = refl
acts k (Act.SendString s) = refl
acts k (Act.Wait f) = refl
acts k (Act.SetE f) = refl
acts k (Act.SetMode n) = refl
acts k Act.TimerStart = refl
acts k Act.CellOn = refl
acts k Act.CellOff = refl
acts k Act.Abort = refl

pub learns : (k : Kinds) (x : Item) → learn_item k x ≡ learn k (writes_of x)
learns k (Item.Act a) = acts k a
learns k (Item.Pack p) = refl
learns k (Item.Open h) = refl
learns k (Item.Branch b) = refl
learns k (Item.Close e) = refl
learns k Item.Break = refl
learns k Item.Tag = refl

-- the pass has come to item i: what the rest teaches beside what is learnt is what all items teach
pub record Learning (t : Table) (k : Kinds) (i : ℕ) : Type 0 where
  pub left : kinds_of k (drop i (items_of t)) ≡ kinds_of (replicate 32 None) (items_of t)

-- one item further, by the code's steps: the slot, what its item writes, what is learnt of that
pub kinds_next : (t : Table) (i : ℕ) {k : Kinds} → Learning t k i → (s : Slot) (g : Writes) (r : Kinds)
    → i < t.count → t.count ≤ length t.items → s ≡ get_or t.items i no_slot → all_writes g ≡ writes_of s.item
    → r ≡ learn k (all_writes g) → Learning t r (i + 1)
kinds_next t i {k} l s g r h m e f d = record { left = further ∙ l.left }
  where
    further : kinds_of r (drop (i + 1) (items_of t)) ≡ kinds_of k (drop i (items_of t))
    further =
        let same = sym (learns k (get_or t.items i no_slot).item) in
        rw (d, f, e, drop-items t.count i t.items h m, add-one)
        (ap (λ (q : Kinds). kinds_of q (drop (suc i) (items_of t))) same)

pub kinds_end : {t : Table} {k : Kinds} {i : ℕ} → Learning t k i → t.count ≤ i
    → k ≡ kinds_of (replicate 32 None) (items_of t)
kinds_end {t} {k} {i} l h = sym (ap (kinds_of k) (no_items t.count i t.items h)) ∙ l.left
