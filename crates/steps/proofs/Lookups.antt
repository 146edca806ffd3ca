-- What is looked up of table, marks and names for one step.
use Rattle.std.proofs.Common.{Option, Some, None}
use Prim.Native.Nat.{ℕ, zero, suc, ◌+◌, ◌≤◌, ◌<◌}
use mathlib.Core.Path.{◌≡◌, refl, sym, ap, ◌∙◌}
use mathlib.Core.Bool.{Bool, true, false, cond}
use mathlib.Core.List.{List, [], ◌∷◌}
use native.Mathlib.Nat.{not-suc-le-zero, le_of_suc-le-suc}
use native.Mathlib.Numerals.{add-one}
use native.Mathlib.Omega.{arith}
use lib.Dec.{ltb, leb}
use lib.ListN.{length, get_or, set, drop, length-set}
use borrow.Author.Tests.{le-leb, leb-true, leb-false, ltb-true, ltb-false}
use Rattle.laws.specs.Least.{least}
use Rattle.laws.proofs.Least.{least_below, least_most}
use Rattle.laws.proofs.Bools.{no'}
use Rattle.table.specs.declared.Condition.{Condition}
use Rattle.table.specs.declared.Operand.{Operand}
use Rattle.table.specs.declared.Branch.TheVariants as Branch
use Rattle.table.specs.declared.Head.TheVariants as Head
use Rattle.table.specs.declared.Item.{Item}
use Rattle.table.specs.declared.Slot.{Slot}
use Rattle.table.specs.declared.Table.{Table}
use Rattle.table.specs.Item.{is_tag}
use Rattle.table.specs.ReadWrite.{lowest, missing, wrong, condition_reads}
use Rattle.table.specs.Shape.{items_in, items_of, no_slot}
use Rattle.mates.specs.declared.Mark.{Mark}
use Rattle.mates.specs.Mates.{item_at, boxes_at}
use Rattle.mates.specs.Code.{Marked, tag_within, tag_in}
use Rattle.mates.proofs.Placed.{tag_seen}
use Rattle.state.specs.State.{Vars, cell_at, holds, written, kind_now}
use Rattle.state.specs.Meaning.{cells_of}
use Rattle.state.proofs.Names.{no_var, vars_get, vars-set, vars-length}
use Rattle.effect.specs.Code as effects
use Rattle.operands.specs.Code as operands
use Rattle.effect.specs.declared.Effect.{Effect}
use Rattle.operands.specs.Code.{Places}
use Rattle.effect.specs.declared.Spot.{Spot}
use Rattle.operands.specs.Code.{Written}
use Rattle.operands.specs.Code.{Operands}
use Rattle.operands.specs.Code.{Cells}
use Rattle.effect.specs.declared.Chosen.{Chosen}
use Rattle.state.specs.State.{Cell}
use Rattle.steps.specs.Machine as rules
use Rattle.steps.specs.Machine.{choose, tried, tag_from}
use Rattle.steps.specs.Code.{wrote, operand_cell, Reads, chosen_of, tried_by, tried_at, chosen_at, live_state, or_last}
use Rattle.steps.proofs.Chain.{item_is, count_items, choose_more, choose_none}
use Rattle.steps.proofs.Effecting.{after_is, missing_two, wrong_two, holds_two}
use Rattle.steps.proofs.Stepping.{tag_hit, tag_miss, tag_none}

-- ---- the row of names

past_row : (l : List Cell) (n : ℕ) → length l ≤ n → cell_at (cells_of l) n ≡ None
past_row [] n h = refl
past_row (v ∷ l) zero h = absurd (not-suc-le-zero h)
past_row (v ∷ l) (suc n) h = past_row l n (le_of_suc-le-suc h)

set_same : (l : List Cell) (n : ℕ) → set l n (get_or l n no_var) ≡ l
set_same [] n = refl
set_same (v ∷ l) zero = refl
set_same (v ∷ l) (suc n) = ap {B = List Cell} (λ r. v ∷ r) (set_same l n)

set_past : (vs : Vars) (n : ℕ) (c : Cell) → length vs ≤ n → set vs n c ≡ vs
set_past [] n c h = refl
set_past (v ∷ vs) zero c h = absurd (not-suc-le-zero h)
set_past (v ∷ vs) (suc n) c h = ap {B = Vars} (λ r. v ∷ r) (set_past vs n c (le_of_suc-le-suc h))

row_below : (n : ℕ) → operands.in_row n < 32
row_below n = go (ltb n 32) refl
  where
    go : (b : Bool) → ltb n 32 ≡ b → cond b n 0 < 32
    go true e = ltb-true n 32 e
    go false e = omega arith

pub place_below : (x : Operand) → operands.place_of x < 32
place_below (Operand.Name n) = row_below n
place_below (Operand.Literal l) = omega arith

pub write_below : (w : Written) → operands.write_place w < 32
write_below None = omega arith
write_below (Some (n, c)) = row_below n

-- places in the row
pub record Below (l : Places) : Type 0 where
  pub a : l.a < 32
  pub b : l.b < 32
  pub c : l.c < 32
  pub d : l.d < 32

pub places_below : (o : Operands) {l : Places} → l ≡ operands.places_of o → Below l
places_below o e =
    rw e (record { a = place_below o.a; b = place_below o.b; c = place_below o.c; d = place_below o.d })

pub written_below : (w : Written) {p : ℕ} → p ≡ operands.write_place w → p < 32
written_below w e = rw e (write_below w)

module _ (l : List Cell) (h : length l ≡ 32) where
  fetched : (x : Operand) → operand_cell (cells_of l) x ≡ operands.cell_of x (get_or l (operands.place_of x) no_var)
  fetched (Operand.Literal v) = refl
  fetched (Operand.Name n) = go (ltb n 32) refl
    where
      go : (b : Bool) → ltb n 32 ≡ b → cell_at (cells_of l) n ≡ operands.cell_in n (get_or l (operands.in_row n) no_var)
      go true e = rw e (vars_get l n)
      go false e = rw e (past_row l n (omega (arith, h, ltb-false n 32 e)))

  pub reads_all : (o : Operands)
      → Reads (cells_of l) o (operands.cells_of o (get_or l (operands.place_of o.a) no_var)
      (get_or l (operands.place_of o.b) no_var) (get_or l (operands.place_of o.c) no_var)
      (get_or l (operands.place_of o.d) no_var))
  reads_all o =
      record { first = fetched o.a; second = fetched o.b; third = fetched o.c; fourth = fetched o.d }

  pub reads_first : (o : Operands)
      → operand_cell (cells_of l) o.a ≡ operands.cell_of o.a (get_or l (operands.place_of o.a) no_var)
  reads_first o = fetched o.a

  pub reads_second : (o : Operands)
      → operand_cell (cells_of l) o.b ≡ operands.cell_of o.b (get_or l (operands.place_of o.b) no_var)
  reads_second o = fetched o.b

  pub stored : (w : Written)
      → cells_of (set l (operands.write_place w) (operands.write_over w (get_or l
      (operands.write_place w) no_var))) ≡ wrote w
      (cells_of l)
  stored None = ap cells_of (set_same l 0)
  stored (Some (n, c)) = go (ltb n 32) refl
    where
      go : (b : Bool) → ltb n 32 ≡ b
          → cells_of (set l (operands.in_row n) (operands.put_in n c (get_or l (operands.in_row n) no_var)))
          ≡ set (cells_of l) n c
      go true e = rw e (vars-set l n (c))
      go false e =
          rw e (ap cells_of (set_same l 0)
          ∙ sym (set_past (cells_of l) n c (omega (arith, vars-length l, h, ltb-false n 32 e))))

-- ---- the table

all_items : (n : ℕ) (ss : List Slot) → length ss ≤ n → length (items_in n ss) ≡ length ss
all_items zero [] h = refl
all_items zero (s ∷ ss) h = absurd (not-suc-le-zero h)
all_items (suc n) [] h = refl
all_items (suc n) (s ∷ ss) h = ap suc (all_items n ss (le_of_suc-le-suc h))

module _ (t : Table) (full : length t.items ≡ 128) where
  pub count_is : length (items_of t) ≡ least t.count 128
  count_is = go (leb t.count 128) refl
    where
      go : (b : Bool) → leb t.count 128 ≡ b → length (items_of t) ≡ cond b t.count 128
      go true e = count_items t.count t.items (omega (arith, full, leb-true t.count 128 e))
      go false e = all_items t.count t.items (omega (arith, full, leb-false t.count 128 e)) ∙ full

  pub items_few : length (items_of t) ≤ 128
  items_few = rw count_is (least_most t.count 128)

  pub item_here : (j : ℕ) → j < length (items_of t) → item_at (items_of t) j ≡ (get_or t.items j no_slot).item
  item_here j h =
      let b = least_below j t.count 128 (rw count_is at h) in
      item_is t.count j t.items b.0 (omega (arith, full, b.1))

  pub item_clamped : (j : ℕ) → j < length (items_of t)
      → item_at (items_of t) j ≡ (get_or t.items (least j 127) no_slot).item
  item_clamped j h =
      let b = least_below j t.count 128 (rw count_is at h) in
      rw (le-leb j 127 (omega (arith, b.1))) (item_here j h)

-- ---- the tag

module _ (xs : List Item) (ms : List Mark) (k : Marked xs ms) where
  tag_from_lem : (j n : ℕ) → j + n ≡ length xs → tag_within ms j n ≡ or_last (length xs) (tag_from j (drop j xs))
  tag_from_lem j zero h =
      let z : length xs ≤ j = omega arith in
      rw (tag_none xs j z) (omega arith)
  tag_from_lem j (suc n) h = go (is_tag (item_at xs j)) refl (tag_from_lem (suc j) n (omega arith))
    where
      below : j < length xs
      below = omega arith

      go : (b : Bool) → is_tag (item_at xs j) ≡ b
          → tag_within ms (suc j) n ≡ or_last (length xs) (tag_from (suc j) (drop (suc j) xs))
          → tag_within ms j (suc n) ≡ or_last (length xs) (tag_from j (drop j xs))
      go true e q = rw (tag_seen xs ms k j, e, tag_hit xs j below e)
      go false e q = rw (tag_seen xs ms k j, e, tag_miss xs j below e, add-one j) q

  pub tag_is : (n : ℕ) → n ≡ length xs → tag_in ms n ≡ or_last (length xs) (tag_from 0 xs)
  unfolding tag_in
  tag_is n h = tag_from_lem 0 n (omega arith)

-- ---- the mates that a false condition tries

module _ (vs : Vars) (k : Cells) (j : ℕ) (h : j < 128) where
  condition_tried : (c : Condition) (r : rules.Chosen) → operand_cell vs c.left ≡ k.a
      → operand_cell vs c.right ≡ k.b
      → tried_by (effects.try_condition c k j) r ≡ tried vs (Item.Branch (Branch.ElseIf c)) j r
  condition_tried c r e f =
      rw (missing_two vs k c e f, wrong_two vs k c e f, holds_two vs k c e f)
      (go (missing (written vs) (condition_reads c)) (wrong (kind_now vs) (condition_reads c)) (holds vs c))
    where
      go : (a b d : Bool) → tried_by (effects.try_unless (effects.read_fault a b) d j) r
          ≡ rules.or_bad (lowest ((60, a) ∷ (61, b) ∷ [])) (cond d (rules.into (suc j)) r)
      go true b d = refl
      go false true d = refl
      go false false true = rw (after_is j h)
      go false false false = refl

  pub tried_is : (x : Item) (r : rules.Chosen) → operand_cell vs (operands.operands_of x).a ≡ k.a
      → operand_cell vs (operands.operands_of x).b ≡ k.b
      → tried_by (effects.try_mate x k j) r ≡ tried vs x j r
  tried_is (Item.Act a) r e f = refl
  tried_is (Item.Pack p) r e f = refl
  tried_is (Item.Open a) r e f = refl
  tried_is (Item.Branch (Branch.ElseIf c)) r e f = condition_tried c r e f
  tried_is (Item.Branch Branch.Else) r e f = rw (after_is j h)
  tried_is (Item.Close a) r e f = rw (after_is j h)
  tried_is Item.Break r e f = refl
  tried_is Item.Tag r e f = refl

abbrev pub mates : List Item → Vars → ℕ → ℕ → rules.Chosen
mates xs vs p j = choose vs p j (boxes_at xs j) (drop j xs)

pub goes_on : (f : Option Chosen) (j n : ℕ) → effects.tries_on f j n ≡ true → (f ≡ None) × (j < n)
goes_on (Some c) j n e = no' e
goes_on None j n e = (refl, ltb-true j n e)

pub tried_all : (f : Option Chosen) (xs : List Item) (vs : Vars) (p j n : ℕ) → effects.tries_on f j n ≡ false
    → length xs ≤ n
    → chosen_of (effects.chosen_by f) ≡ tried_by f (mates xs vs p j)
tried_all (Some c) xs vs p j n e h = refl
tried_all None xs vs p j n e h = sym (choose_none xs vs p j (omega (arith, ltb-false j n e)))

pub tried_more : (f g : Option Chosen) (xs : List Item) (vs : Vars) (p j : ℕ) (r : rules.Chosen) → f ≡ None
    → j < length xs
    → ((o : rules.Chosen) → tried_by g o ≡ tried_at xs vs p j o)
    → tried_by f (mates xs vs p j) ≡ r → tried_by g (mates xs vs p (j + 1)) ≡ r
tried_more f g xs vs p j r e h q w =
    q (mates xs vs p (j + 1)) ∙ sym (choose_more xs vs p j h) ∙ rw e at w

-- where the first try leads, with the mates behind it
pub first_tried : (xs : List Item) (vs : Vars) (s : Spot) (x : Item) (k : Cells) → s.at < 128
    → Reads vs (operands.operands_of x) k
    → tried_by (effects.try_first x k s.at) (mates xs vs s.at s.at) ≡ chosen_at xs (live_state vs s) x
first_tried xs vs s (Item.Act a) k h r = refl
first_tried xs vs s (Item.Pack p) k h r = refl
first_tried xs vs s (Item.Open (Head.If c)) k h r = rw (holds_two vs k c r.first r.second) (go (holds vs c))
  where
    go : (b : Bool)
        → tried_by (effects.try_holding b s.at) (mates xs vs s.at s.at) ≡ cond b (rules.into (suc s.at))
        (mates xs vs s.at s.at)
    go true = rw (after_is s.at h)
    go false = refl
first_tried xs vs s (Item.Open (Head.Loop c)) k h r = refl
first_tried xs vs s (Item.Open (Head.Sweep w)) k h r = refl
first_tried xs vs s (Item.Branch b) k h r = refl
first_tried xs vs s (Item.Close e) k h r = refl
first_tried xs vs s Item.Break k h r = refl
first_tried xs vs s Item.Tag k h r = refl

length-wrote : (w : Written) (vs : Vars) → length (wrote w vs) ≡ length vs
length-wrote None vs = refl
length-wrote (Some (n, c)) vs = length-set vs n c

-- the names after an effect
pub record RowWritten (vars : List Cell) (e : Effect) (after : List Cell) : Type 0 where
  pub row : length after ≡ 32
  pub cells : cells_of after ≡ wrote e.second (wrote e.first (cells_of vars))

-- both writes of an effect
pub both_written : {vars vars₁ vars₂ : List Cell} {e : Effect} → length vars ≡ 32 → vars₁ ≡ wrote e.first vars
    → vars₂ ≡ wrote e.second vars₁
    → RowWritten vars e vars₂
both_written {vars} {e = e} h p q = record {
  row = rw (q, p) (length-wrote e.second (wrote e.first vars) ∙ length-wrote e.first vars ∙ h);
  cells = q ∙ ap (λ (vs : Vars). wrote e.second vs) p;
}
