-- What an item reads of the row of names and what is written into it, as the code makes it: definitions that compute,
-- one for each function. What they have to do with 01 is shown in the crate `steps`.
use Rattle.std.specs.Prelude.{Option, Some, None}
use Rattle.std.specs.Prelude.{ℕ, cond, ltb, pos}
use Rattle.value.specs.declared.Value.TheVariants as Value
use Rattle.table.specs.declared.Act.{Act}
use Rattle.table.specs.declared.Branch.{Branch}
use Rattle.table.specs.declared.Condition.{Condition}
use Rattle.table.specs.declared.Head.{Head}
use Rattle.table.specs.declared.Item.{Item}
use Rattle.table.specs.declared.Operand.{Operand}
use Rattle.table.specs.declared.Pack.{Pack}
use Rattle.table.specs.declared.Sweep.{Sweep}
use Rattle.state.specs.State.{Cell}
use Rattle.operands.specs.declared.Four.{Four}

-- the operands that an item reads, where they stand in the row of names, and what they hold
abbrev pub Operands : Type 0
Operands = Four Operand

abbrev pub Places : Type 0
Places = Four ℕ

abbrev pub Cells : Type 0
Cells = Four Cell

-- a name that is written, and what it then holds
abbrev pub Written : Type 0
Written = Option (ℕ × Cell)

-- ---- src/reads.rt: what an item reads; past the last operand a literal 0

abbrev pub no_operand : Operand
no_operand = Operand.Literal (Value.Whole (pos 0))

abbrev pub two_operands : Operand → Operand → Operands
two_operands x y = record { a = x; b = y; c = no_operand; d = no_operand }

abbrev pub one_operand : Operand → Operands
one_operand x = two_operands x no_operand

abbrev pub no_operands : Operands
no_operands = one_operand no_operand

abbrev pub condition_operands : Condition → Operands
condition_operands c = two_operands c.left c.right

abbrev pub sweep_operands : Sweep → Operands
sweep_operands w = record { a = w.begin; b = w.end; c = w.step; d = w.rate }

abbrev pub act_operands : Act → Operands
act_operands (Act.Var v) = no_operands
act_operands (Act.Store v l t) = no_operands
act_operands (Act.Copy n m) = one_operand (Operand.Name n)
act_operands (Act.Calc o n x) = two_operands (Operand.Name n) x
act_operands (Act.Meas x v t) = one_operand x
act_operands (Act.TimerGet v) = no_operands
act_operands (Act.SendString s) = no_operands
act_operands (Act.Wait x) = one_operand x
act_operands (Act.SetE x) = one_operand x
act_operands (Act.SetMode n) = no_operands
act_operands Act.TimerStart = no_operands
act_operands Act.CellOn = no_operands
act_operands Act.CellOff = no_operands
act_operands Act.Abort = no_operands

abbrev pub pack_operands : Pack → Operands
pack_operands Pack.Start = no_operands
pack_operands (Pack.Add n) = one_operand (Operand.Name n)
pack_operands Pack.End = no_operands

abbrev pub head_operands : Head → Operands
head_operands (Head.If c) = condition_operands c
head_operands (Head.Loop c) = condition_operands c
head_operands (Head.Sweep w) = sweep_operands w

abbrev pub branch_operands : Branch → Operands
branch_operands (Branch.ElseIf c) = condition_operands c
branch_operands Branch.Else = no_operands

abbrev pub operands_of : Item → Operands
operands_of (Item.Act a) = act_operands a
operands_of (Item.Pack p) = pack_operands p
operands_of (Item.Open h) = head_operands h
operands_of (Item.Branch b) = branch_operands b
operands_of (Item.Close e) = no_operands
operands_of Item.Break = no_operands
operands_of Item.Tag = no_operands

-- the row of 32 names: where an operand stands in it, the first place where in none; and what it holds

abbrev pub in_row : ℕ → ℕ
in_row n = cond (ltb n 32) n 0

abbrev pub place_of : Operand → ℕ
place_of (Operand.Name n) = in_row n
place_of (Operand.Literal l) = 0

abbrev pub places_of : Operands → Places
places_of o = record { a = place_of o.a; b = place_of o.b; c = place_of o.c; d = place_of o.d }

abbrev pub cell_in : ℕ → Cell → Cell
cell_in n v = cond (ltb n 32) v None

abbrev pub cell_of : Operand → Cell → Cell
cell_of (Operand.Name n) v = cell_in n v
cell_of (Operand.Literal l) v = Some (l, 0)

abbrev pub cells_of : Operands → Cell → Cell → Cell → Cell → Cells
cells_of o x y z u = record { a = cell_of o.a x; b = cell_of o.b y; c = cell_of o.c z; d = cell_of o.d u }

-- ---- src/writes.rt: what is written

abbrev pub write_place : Written → ℕ
write_place None = 0
write_place (Some (n, c)) = in_row n

abbrev pub put_in : ℕ → Cell → Cell → Cell
put_in n c v = cond (ltb n 32) (c) v

abbrev pub write_over : Written → Cell → Cell
write_over None v = v
write_over (Some (n, c)) v = put_in n c v
