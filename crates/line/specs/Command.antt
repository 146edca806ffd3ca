-- 01, "Script text", Items: the commands, one line each: its word, the forms of its arguments, and the item that they
-- make.
use Rattle.std.specs.Prelude.{ℕ, ◌-◌, cond, eqb, List, [], ◌∷◌, ◌++◌, map, length, get_or, replicate}
use Prim.Native.String.{String}
use Rattle.value.specs.declared.Operation.TheVariants as Operation
use Rattle.table.specs.declared.Condition.{Condition}
use Rattle.table.specs.declared.Sweep.{Sweep}
use Rattle.table.specs.declared.Act.{Act}
use Rattle.table.specs.declared.Pack.{Pack}
use Rattle.table.specs.declared.Head.{Head}
use Rattle.table.specs.declared.Branch.{Branch}
use Rattle.table.specs.declared.Close.{Close}
use Rattle.table.specs.declared.Item.{Item}
use Rattle.text.specs.Bytes.{byte, ascii}
use Rattle.word.specs.Word.{padded}
use Rattle.argument.specs.declared.Argument.{Argument}
use Rattle.argument.specs.declared.Form.{Form}
use Rattle.argument.specs.Holds.{name_of, operand_of, value_of, letters_of, small_of, comparison_of, text_of}
pub use Rattle.line.specs.declared.Arguments.{Arguments}
pub use Rattle.line.specs.declared.MakeAct.{MakeAct}
pub use Rattle.line.specs.declared.MakeAct.TheVariants as MakeAct
pub use Rattle.line.specs.declared.MakePack.{MakePack}
pub use Rattle.line.specs.declared.MakePack.TheVariants as MakePack
pub use Rattle.line.specs.declared.MakeHead.{MakeHead}
pub use Rattle.line.specs.declared.MakeHead.TheVariants as MakeHead
pub use Rattle.line.specs.declared.MakeBranch.{MakeBranch}
pub use Rattle.line.specs.declared.MakeBranch.TheVariants as MakeBranch
pub use Rattle.line.specs.declared.Make.{Make}
pub use Rattle.line.specs.declared.Make.TheVariants as Make

-- ---- what a command makes of its arguments

abbrev pub condition_of : Argument → Argument → Argument → Condition
condition_of a b c = record { left = operand_of a; by = comparison_of b; right = operand_of c }

abbrev pub sweep_of : Arguments → Sweep
sweep_of x =
    record {
      potential = name_of x.a;
      current = name_of x.b;
      begin = operand_of x.c;
      end = operand_of x.d;
      step = operand_of x.e;
      rate = operand_of x.f;
    }

abbrev pub act_of : MakeAct → Argument → Argument → Argument → Act
act_of MakeAct.Var a b c = Act.Var (name_of a)
act_of MakeAct.Store a b c = Act.Store (name_of a) (value_of b) (letters_of c)
act_of MakeAct.Copy a b c = Act.Copy (name_of a) (name_of b)
act_of (MakeAct.Calc o) a b c = Act.Calc o (name_of a) (operand_of b)
act_of MakeAct.Meas a b c = Act.Meas (operand_of a) (name_of b) (letters_of c)
act_of MakeAct.TimerGet a b c = Act.TimerGet (name_of a)
act_of MakeAct.SendString a b c = Act.SendString (text_of a)
act_of MakeAct.Wait a b c = Act.Wait (operand_of a)
act_of MakeAct.SetE a b c = Act.SetE (operand_of a)
act_of MakeAct.SetMode a b c = Act.SetMode (small_of a)
act_of MakeAct.TimerStart a b c = Act.TimerStart
act_of MakeAct.CellOn a b c = Act.CellOn
act_of MakeAct.CellOff a b c = Act.CellOff
act_of MakeAct.Abort a b c = Act.Abort

abbrev pub pack_of : MakePack → Argument → Pack
pack_of MakePack.Start a = Pack.Start
pack_of MakePack.Add a = Pack.Add (name_of a)
pack_of MakePack.End a = Pack.End

abbrev pub head_of : MakeHead → Arguments → Head
head_of MakeHead.If x = Head.If (condition_of x.a x.b x.c)
head_of MakeHead.Loop x = Head.Loop (condition_of x.a x.b x.c)
head_of MakeHead.Sweep x = Head.Sweep (sweep_of x)

abbrev pub branch_of : MakeBranch → Argument → Argument → Argument → Branch
branch_of MakeBranch.ElseIf a b c = Branch.ElseIf (condition_of a b c)
branch_of MakeBranch.Else a b c = Branch.Else

abbrev pub item_of : Make → Arguments → Item
item_of (Make.Act m) x = Item.Act (act_of m x.a x.b x.c)
item_of (Make.Pack m) x = Item.Pack (pack_of m x.a)
item_of (Make.Open m) x = Item.Open (head_of m x)
item_of (Make.Branch m) x = Item.Branch (branch_of m x.a x.b x.c)
item_of (Make.Close m) x = Item.Close m
item_of Make.Break x = Item.Break
item_of Make.Tag x = Item.Tag

-- ---- the table

-- a command: its word, the letters of its arguments, and what it makes of them
pub record Command : Type 0 where
  pub word : List ℕ
  pub shape : List ℕ
  pub make : Make

abbrev pub row : String → String → Make → Command
row w s m =
    record { word = padded (ascii w); shape = ascii s ++ replicate (6 - length (ascii s)) (byte " "); make = m }

unfoldable pub tag_command : Command
unfolding padded
tag_command = row "on_finished:" "" Make.Tag

-- the letters are those of 01, x also where it writes f; w is a new name, l a literal, o a comparison, s a text
unfoldable pub commands : List Command
unfolding padded tag_command
commands =
    row "var" "w" (Make.Act MakeAct.Var) ∷
    row "store_var" "vlt" (Make.Act MakeAct.Store) ∷
    row "copy_var" "vv" (Make.Act MakeAct.Copy) ∷
    row "add_var" "vx" (Make.Act (MakeAct.Calc Operation.Add)) ∷
    row "sub_var" "vx" (Make.Act (MakeAct.Calc Operation.Sub)) ∷
    row "mul_var" "vx" (Make.Act (MakeAct.Calc Operation.Mul)) ∷
    row "div_var" "vx" (Make.Act (MakeAct.Calc Operation.Div)) ∷
    row "if" "xox" (Make.Open MakeHead.If) ∷
    row "elseif" "xox" (Make.Branch MakeBranch.ElseIf) ∷
    row "loop" "xox" (Make.Open MakeHead.Loop) ∷
    row "meas_loop_lsv" "vvxxxx" (Make.Open MakeHead.Sweep) ∷
    row "meas" "xvt" (Make.Act MakeAct.Meas) ∷
    row "timer_get" "v" (Make.Act MakeAct.TimerGet) ∷
    row "pck_add" "v" (Make.Pack MakePack.Add) ∷
    row "send_string" "s" (Make.Act MakeAct.SendString) ∷
    row "wait" "x" (Make.Act MakeAct.Wait) ∷
    row "set_e" "x" (Make.Act MakeAct.SetE) ∷
    row "set_pgstat_mode" "n" (Make.Act MakeAct.SetMode) ∷
    row "else" "" (Make.Branch MakeBranch.Else) ∷
    row "endif" "" (Make.Close Close.EndIf) ∷
    row "endloop" "" (Make.Close Close.EndLoop) ∷
    row "breakloop" "" Make.Break ∷
    row "timer_start" "" (Make.Act MakeAct.TimerStart) ∷
    row "pck_start" "" (Make.Pack MakePack.Start) ∷
    row "pck_end" "" (Make.Pack MakePack.End) ∷
    row "cell_on" "" (Make.Act MakeAct.CellOn) ∷
    row "cell_off" "" (Make.Act MakeAct.CellOff) ∷
    row "abort" "" (Make.Act MakeAct.Abort) ∷
    tag_command ∷ []

unfoldable pub command_words : List (List ℕ)
unfolding commands
command_words = map (λ (c : Command). c.word) commands

unfoldable pub command_at : ℕ → Command
command_at k = get_or commands k tag_command

unfoldable pub form_of : ℕ → Form
form_of c =
    cond (eqb c (byte "w")) Form.New
    (cond (eqb c (byte "v")) Form.Name
    (cond (eqb c (byte "x")) Form.Operand
    (cond (eqb c (byte "l")) Form.Literal
    (cond (eqb c (byte "t")) Form.Letters
    (cond (eqb c (byte "n")) Form.Number
    (cond (eqb c (byte "o")) Form.Comparison
    (cond (eqb c (byte "s")) Form.Text Form.Nothing)))))))
