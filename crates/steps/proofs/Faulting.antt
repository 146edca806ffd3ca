-- The faults of an item, by the cells that are read for it.
use Rattle.std.proofs.Common.{Option, Some, None}
use Prim.Native.Nat.{ℕ, ◌≤◌, ◌<◌}
use mathlib.Core.Path.{◌≡◌, refl, ap}
use mathlib.Core.Bool.{Bool, true, false, not, ◌&&◌, cond}
use mathlib.Core.List.{List, [], ◌∷◌}
use lib.Dec.{ltb, leb}
use lib.ListN.{length}
use borrow.Author.Tests.{lt-leb, le-leb, ltb-true, ltb-false}
use Rattle.value.specs.declared.Value.{Value}
use Rattle.table.specs.declared.Act.TheVariants as Act
use Rattle.table.specs.declared.Condition.{Condition}
use Rattle.table.specs.declared.Head.TheVariants as Head
use Rattle.table.specs.declared.Item.{Item}
use Rattle.table.specs.declared.Kind.TheVariants as Kind
use Rattle.table.specs.declared.Operand.{Operand}
use Rattle.table.specs.declared.Pack.TheVariants as Pack
use Rattle.table.specs.ReadWrite.{lowest, condition_reads, missing, wrong, gone, kind_in, differ}
use Rattle.state.specs.State.{Cell}
use Rattle.state.specs.State as states
use Rattle.state.specs.State.{Vars, cell_at, cell_kind, is_written, written, kind_now}
use Rattle.state.specs.Meaning.{tops, fault_number}
use Rattle.state.proofs.Boxes.{tops-length}
use Rattle.operands.specs.Code.{Cells}
use Rattle.effect.specs.declared.Need.TheVariants as Need
use Rattle.state.specs.declared.Fault.{Fault}
use Rattle.effect.specs.declared.Spot.{Spot}
use Rattle.effect.specs.Code as effects
use Rattle.operands.specs.Code as operands
use Rattle.steps.specs.Machine.{inside, too_deep, reads}
use Rattle.steps.specs.Code.{live_state, operand_cell, Reads}
use Rattle.steps.proofs.Shapes.{room}
use Rattle.steps.proofs.Running.{inside_is, operand_value}

-- there is room for one more box, save where a loop's own is the innermost
pub room_loop : (l : List ℕ) (d at : ℕ) → (leb 8 (length (tops l d)) && not (inside at (tops l d))) ≡ false
    → inside at (tops l d) ≡ false → d < 8
room_loop l d at e q = rw (tops-length l d) at (room (length (tops l d)) (not (inside at (tops l d))) e (rw q))

pub room_if : (l : List ℕ) (d : ℕ) → (leb 8 (length (tops l d)) && true) ≡ false → d < 8
room_if l d e = rw (tops-length l d) at (room (length (tops l d)) true e refl)

gone_cell : (c : Cell) → effects.is_gone c ≡ not (is_written c)
gone_cell None = refl
gone_cell (Some (v, t)) = refl

whole_cell : (c : Cell) → effects.is_whole c ≡ differ (cell_kind c) (Some Kind.Real)
whole_cell None = refl
whole_cell (Some (Value.Whole z, t)) = refl
whole_cell (Some (Value.Real x, t)) = refl

kinds_cell : (a b : Cell) → effects.kinds_differ a b ≡ differ (cell_kind a) (cell_kind b)
kinds_cell None b = refl
kinds_cell (Some (Value.Whole z, t)) None = refl
kinds_cell (Some (Value.Whole z, t)) (Some (Value.Whole y, u)) = refl
kinds_cell (Some (Value.Whole z, t)) (Some (Value.Real y, u)) = refl
kinds_cell (Some (Value.Real z, t)) None = refl
kinds_cell (Some (Value.Real z, t)) (Some (Value.Whole y, u)) = refl
kinds_cell (Some (Value.Real z, t)) (Some (Value.Real y, u)) = refl

module _ (vs : Vars) where
  gone_is : (z : Operand) (c : Cell) → operand_cell vs z ≡ c → effects.is_gone c ≡ gone (written vs) z
  gone_is (Operand.Name n) c e = rw (← e) (gone_cell (cell_at vs n))
  gone_is (Operand.Literal l) c e = rw (← e)

  kind_is : (z : Operand) → kind_in (kind_now vs) z ≡ cell_kind (operand_cell vs z)
  kind_is (Operand.Name n) = refl
  kind_is (Operand.Literal l) = refl

  whole_is : (z : Operand) (c : Cell) → operand_cell vs z ≡ c
      → effects.is_whole c ≡ differ (kind_in (kind_now vs) z) (Some Kind.Real)
  whole_is z c e = rw (← e, kind_is z) (whole_cell (operand_cell vs z))

  kinds_are : (y z : Operand) (b c : Cell) → operand_cell vs y ≡ b → operand_cell vs z ≡ c
      → effects.kinds_differ b c ≡ differ (kind_in (kind_now vs) y) (kind_in (kind_now vs) z)
  kinds_are y z b c e f = rw (← e, ← f, kind_is y, kind_is z) (kinds_cell (operand_cell vs y) (operand_cell vs z))

  module _ (k : Cells) where
    module _ (c : Condition) (e : operand_cell vs c.left ≡ k.a) (f : operand_cell vs c.right ≡ k.b) where
      pub missing_two : effects.cells_missing Need.Alike k ≡ missing (written vs) (condition_reads c)
      missing_two = rw (gone_is c.left k.a e, gone_is c.right k.b f)

      pub wrong_two : effects.cells_wrong Need.Alike k ≡ wrong (kind_now vs) (condition_reads c)
      wrong_two = kinds_are c.left c.right k.a k.b e f

      pub holds_two : effects.holds c k ≡ states.holds vs c
      holds_two = rw (← e, ← f, operand_value vs c.left, operand_value vs c.right)

    pub missing_is : (x : Item) → Reads vs (operands.operands_of x) k
        → effects.cells_missing (effects.need_of x) k ≡ missing (written vs) (reads x)
    missing_is (Item.Act (Act.Var v)) r = refl
    missing_is (Item.Act (Act.Store v l t)) r = refl
    missing_is (Item.Act (Act.Copy n m)) r = gone_is (Operand.Name n) k.a r.first
    missing_is (Item.Act (Act.Calc f n z)) r =
        rw (gone_is (Operand.Name n) k.a r.first, gone_is z k.b r.second)
    missing_is (Item.Act (Act.Meas z n t)) r = gone_is z k.a r.first
    missing_is (Item.Act (Act.TimerGet n)) r = refl
    missing_is (Item.Act (Act.SendString t)) r = refl
    missing_is (Item.Act (Act.Wait z)) r = gone_is z k.a r.first
    missing_is (Item.Act (Act.SetE z)) r = gone_is z k.a r.first
    missing_is (Item.Act (Act.SetMode n)) r = refl
    missing_is (Item.Act Act.TimerStart) r = refl
    missing_is (Item.Act Act.CellOn) r = refl
    missing_is (Item.Act Act.CellOff) r = refl
    missing_is (Item.Act Act.Abort) r = refl
    missing_is (Item.Pack Pack.Start) r = refl
    missing_is (Item.Pack (Pack.Add n)) r = gone_is (Operand.Name n) k.a r.first
    missing_is (Item.Pack Pack.End) r = refl
    missing_is (Item.Open (Head.If c)) r = missing_two c r.first r.second
    missing_is (Item.Open (Head.Loop c)) r = missing_two c r.first r.second
    missing_is (Item.Open (Head.Sweep w)) r =
        rw (
          gone_is w.begin k.a r.first,
          gone_is w.end k.b r.second,
          gone_is w.step k.c r.third,
          gone_is w.rate k.d r.fourth,
        )
    missing_is (Item.Branch b) r = refl
    missing_is (Item.Close e) r = refl
    missing_is Item.Break r = refl
    missing_is Item.Tag r = refl

    pub wrong_is : (x : Item) → Reads vs (operands.operands_of x) k
        → effects.cells_wrong (effects.need_of x) k ≡ wrong (kind_now vs) (reads x)
    wrong_is (Item.Act (Act.Var v)) r = refl
    wrong_is (Item.Act (Act.Store v l t)) r = refl
    wrong_is (Item.Act (Act.Copy n m)) r = refl
    wrong_is (Item.Act (Act.Calc f n z)) r = kinds_are (Operand.Name n) z k.a k.b r.first r.second
    wrong_is (Item.Act (Act.Meas z n t)) r = whole_is z k.a r.first
    wrong_is (Item.Act (Act.TimerGet n)) r = refl
    wrong_is (Item.Act (Act.SendString t)) r = refl
    wrong_is (Item.Act (Act.Wait z)) r = whole_is z k.a r.first
    wrong_is (Item.Act (Act.SetE z)) r = whole_is z k.a r.first
    wrong_is (Item.Act (Act.SetMode n)) r = refl
    wrong_is (Item.Act Act.TimerStart) r = refl
    wrong_is (Item.Act Act.CellOn) r = refl
    wrong_is (Item.Act Act.CellOff) r = refl
    wrong_is (Item.Act Act.Abort) r = refl
    wrong_is (Item.Pack Pack.Start) r = refl
    wrong_is (Item.Pack (Pack.Add n)) r = refl
    wrong_is (Item.Pack Pack.End) r = refl
    wrong_is (Item.Open (Head.If c)) r = wrong_two c r.first r.second
    wrong_is (Item.Open (Head.Loop c)) r = wrong_two c r.first r.second
    wrong_is (Item.Open (Head.Sweep w)) r =
        rw (
          whole_is w.begin k.a r.first,
          whole_is w.end k.b r.second,
          whole_is w.step k.c r.third,
          whole_is w.rate k.d r.fourth,
        )
    wrong_is (Item.Branch b) r = refl
    wrong_is (Item.Close e) r = refl
    wrong_is Item.Break r = refl
    wrong_is Item.Tag r = refl

-- 63
module _ (vs : Vars) (s : Spot) (d : s.depth ≤ 8) where
  deep_item_lem : (x : Item) → 8 ≤ s.depth → effects.deep_item s x ≡ too_deep (live_state vs s) x
  deep_item_lem (Item.Act a) h = refl
  deep_item_lem (Item.Pack p) h = refl
  deep_item_lem (Item.Open (Head.If c)) h = rw (tops-length s.boxes s.depth, le-leb 8 s.depth h)
  deep_item_lem (Item.Open (Head.Loop c)) h =
      rw (tops-length s.boxes s.depth, le-leb 8 s.depth h) (ap not (inside_is s.boxes s.depth s.at d))
  deep_item_lem (Item.Open (Head.Sweep c)) h =
      rw (tops-length s.boxes s.depth, le-leb 8 s.depth h) (ap not (inside_is s.boxes s.depth s.at d))
  deep_item_lem (Item.Branch b) h = refl
  deep_item_lem (Item.Close e) h = refl
  deep_item_lem Item.Break h = refl
  deep_item_lem Item.Tag h = refl

  shallow : (x : Item) → s.depth < 8 → false ≡ too_deep (live_state vs s) x
  shallow (Item.Act a) h = refl
  shallow (Item.Pack p) h = refl
  shallow (Item.Open a) h = rw (tops-length s.boxes s.depth, lt-leb 8 s.depth h)
  shallow (Item.Branch b) h = refl
  shallow (Item.Close e) h = refl
  shallow Item.Break h = refl
  shallow Item.Tag h = refl

  pub depth_is : (x : Item) → effects.depth_fault' s x ≡ too_deep (live_state vs s) x
  depth_is x = go (ltb s.depth 8) refl
    where
      go : (b : Bool) → ltb s.depth 8 ≡ b → cond b false (effects.deep_item s x) ≡ too_deep (live_state vs s) x
      go true e = shallow x (ltb-true s.depth 8 e)
      go false e = deep_item_lem x (ltb-false s.depth 8 e)

abbrev pub trouble_of : Option Fault → ℕ
trouble_of None = 0
trouble_of (Some f) = fault_number f

pub fault_number_lem : (a b c d e : Bool) → trouble_of (effects.or_else (effects.read_fault a b)
    (effects.mark_fault c d e))
    ≡ lowest ((60, a) ∷ (61, b) ∷ (62, c) ∷ (63, d) ∷ (64, e) ∷ [])
fault_number_lem true b c d e = refl
fault_number_lem false true c d e = refl
fault_number_lem false false true d e = refl
fault_number_lem false false false true e = refl
fault_number_lem false false false false true = refl
fault_number_lem false false false false false = refl
