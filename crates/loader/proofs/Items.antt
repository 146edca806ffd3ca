-- The item that a command makes of arguments in shape is in shape. Assumes nothing.
use Rattle.std.proofs.Common.{Option, Some, None}
use mathlib.Core.Path.{◌≡◌, refl, sym, ◌∙◌, ap}
use mathlib.Core.Bool.{Bool, true, false, cond}
use mathlib.Core.List.{List}
use Prim.Native.Nat.{ℕ, ◌+◌, ◌≤◌}
use native.Mathlib.Omega.{arith}
use lib.Dec.{ltb}
use lib.ListN.{length, get_or}
use Rattle.table.specs.declared.Item.{Item}
use Rattle.table.specs.Shape.{item_ok}
use Rattle.word.specs.Word.{word_at, part, padded, seek}
use Rattle.argument.specs.declared.Form.{Form}
use Rattle.argument.specs.Holds.{name_of, wrong_of}
use Rattle.argument.specs.Argument.{said_at}
use Rattle.line.specs.declared.Arguments.{Arguments}
use Rattle.line.specs.declared.MakeAct.TheVariants as A
use Rattle.line.specs.declared.MakePack.TheVariants as P
use Rattle.line.specs.declared.MakeHead.TheVariants as H
use Rattle.line.specs.declared.MakeBranch.TheVariants as B
use Rattle.line.specs.declared.Make.{Make}
use Rattle.line.specs.declared.Make.TheVariants as M
use Rattle.line.specs.Command.{Command, commands, tag_command, command_words, command_at, item_of, form_of}
use Rattle.line.specs.Line.{Judgement, item, arguments_at, lowest, or_item, by_command, judged}
use Rattle.loader.specs.Load.{declares, counted}
use Rattle.loader.proofs.Room.{is_new, in_row, right, apart, item_of_lem, lower_both}
use Rattle.loader.proofs.Said.{Fit, fit, is_named, named_fit}

-- ---- which of the first two arguments an item takes as a name

unfoldable takes : Make → Bool × Bool
takes (M.Act A.Var) = (true, false)
takes (M.Act A.Store) = (true, false)
takes (M.Act A.Copy) = (true, true)
takes (M.Act (A.Calc o)) = (true, false)
takes (M.Act A.Meas) = (false, true)
takes (M.Act A.TimerGet) = (true, false)
takes (M.Act A.SendString) = (false, false)
takes (M.Act A.Wait) = (false, false)
takes (M.Act A.SetE) = (false, false)
takes (M.Act A.SetMode) = (false, false)
takes (M.Act A.TimerStart) = (false, false)
takes (M.Act A.CellOn) = (false, false)
takes (M.Act A.CellOff) = (false, false)
takes (M.Act A.Abort) = (false, false)
takes (M.Pack P.Start) = (false, false)
takes (M.Pack P.Add) = (true, false)
takes (M.Pack P.End) = (false, false)
takes (M.Open H.If) = (false, false)
takes (M.Open H.Loop) = (false, false)
takes (M.Open H.Sweep) = (true, true)
takes (M.Branch B.ElseIf) = (false, false)
takes (M.Branch B.Else) = (false, false)
takes (M.Close m) = (false, false)
takes M.Break = (false, false)
takes M.Tag = (false, false)

module _ (x : Arguments) (n size : ℕ) (a : Fit n size x.a) (b : Fit n size x.b) (c : Fit n size x.c)
    (d : Fit n size x.d) (e : Fit n size x.e) (f : Fit n size x.f) where
  made : (m : Make) → ((takes m).0 ≡ true → ltb (name_of x.a) n ≡ true)
      → ((takes m).1 ≡ true → ltb (name_of x.b) n ≡ true) → item_ok n size (item_of m x) ≡ true
  unfolding takes
  made (M.Act A.Var) na nb = simp (na refl)
  made (M.Act A.Store) na nb = simp (na refl, b.value)
  made (M.Act A.Copy) na nb = simp (na refl, nb refl)
  made (M.Act (A.Calc o)) na nb = simp (na refl, b.operand)
  made (M.Act A.Meas) na nb = simp (nb refl, a.operand)
  made (M.Act A.TimerGet) na nb = simp (na refl)
  made (M.Act A.SendString) na nb = simp a.text
  made (M.Act A.Wait) na nb = simp a.operand
  made (M.Act A.SetE) na nb = simp a.operand
  made (M.Act A.SetMode) na nb = refl
  made (M.Act A.TimerStart) na nb = refl
  made (M.Act A.CellOn) na nb = refl
  made (M.Act A.CellOff) na nb = refl
  made (M.Act A.Abort) na nb = refl
  made (M.Pack P.Start) na nb = refl
  made (M.Pack P.Add) na nb = simp (na refl)
  made (M.Pack P.End) na nb = refl
  made (M.Open H.If) na nb = simp (a.operand, c.operand)
  made (M.Open H.Loop) na nb = simp (a.operand, c.operand)
  made (M.Open H.Sweep) na nb = simp (na refl, nb refl, c.operand, d.operand, e.operand, f.operand)
  made (M.Branch B.ElseIf) na nb = simp (a.operand, c.operand)
  made (M.Branch B.Else) na nb = refl
  made (M.Close m) na nb = refl
  made M.Break na nb = refl
  made M.Tag na nb = refl

-- ---- the table asks for a name where the item takes one, and for a new one in the first place alone

-- the form that a letter of its shape asks for
abbrev form : Command → ℕ → Form
form c j = form_of (get_or c.shape j 0)

asks : (k : ℕ) → takes (command_at k).make ≡ (is_named (form (command_at k) 0), is_named (form (command_at k) 1))
unfolding commands tag_command takes is_named form_of padded
asks k = in_row (λ c. takes c.make) (λ c. (is_named (form c 0), is_named (form c 1))) k refl refl

second_old : (k : ℕ) → is_new (form (command_at k) 1) ≡ false
unfolding commands tag_command is_new form_of padded
second_old k = in_row (λ c. is_new (form c 1)) (λ c. false) k refl refl

-- ---- nothing is wrong with any argument

two_fine : (x : Arguments) → lowest x ≡ None → (wrong_of x.a ≡ None) × (wrong_of x.b ≡ None)
unfolding lowest
two_fine x h =
    let p = lower_both (wrong_of x.a) _ h in
    (p.0, (lower_both (wrong_of x.b) _ p.1).0)

-- ---- the item of a line

count_le : (n m : ℕ) (b c : Bool) → b ≡ c → cond b (n + 1) n ≤ m → cond c (n + 1) n ≤ m
count_le n m b c e h = rw (sym e) h

count_kept : (n m : ℕ) (b : Bool) → cond b (n + 1) n ≤ m → n ≤ m
count_kept n m true h = omega arith
count_kept n m false h = h

pub judged_fit : (names : List (List ℕ)) (line : List ℕ) (i : ℕ) (it : Item) (n size : ℕ)
    → judged names line i ≡ item it → counted (length names) it ≤ n → length line ≤ size → item_ok n size it ≡ true
unfolding judged arguments_at item_of_lem counted
judged_fit names line i it n size e h l = go (seek command_words (part line (word_at line i))) e
  where
    go : (f : Option ℕ) → by_command names line (word_at line i).end f ≡ item it → item_ok n size it ≡ true
    go None e = apart cc
    go (Some k) e = by (lowest x) refl e
      where
        x : Arguments
        x = arguments_at names line (command_at k).shape (word_at line i).end

        by : (t : Option ℕ) → lowest x ≡ t → or_item t (item_of (command_at k).make x) ≡ item it
            → item_ok n size it ≡ true
        by (Some m) q e = apart cc
        by None q e =
            let same : item_of (command_at k).make x ≡ it = ap (λ (j : Judgement). item_of_lem j it) e in
            let fine : (wrong_of x.a ≡ None) × (wrong_of x.b ≡ None) = two_fine x q in
            let fa : Form = form (command_at k) 0 in
            let fb : Form = form (command_at k) 1 in
            let at_b : ℕ = (said_at names line fa (word_at line i).end).stop in
            let new : declares it ≡ is_new fa = sym (ap declares same) ∙ right k x in
            let before-it = count_le (length names) n (declares it) (is_new fa) new h in
            let most : length names ≤ n = count_kept (length names) n (declares it) h in
            let fits : (j i : ℕ) → Fit n size (said_at names line (form (command_at k) j) i).argument =
            λ j i. fit n size names line (form (command_at k) j) i most l in
            ap (item_ok n size) (sym same)
            ∙ made x n size (fits 0 _) (fits 1 _) (fits 2 _) (fits 3 _) (fits 4 _) (fits 5 _) (command_at k).make
            (λ w. named_fit names line fa (word_at line i).end n (sym (ap (λ p. p.0) (asks k)) ∙ w)
            before-it fine.0)
            (λ w. named_fit names line fb at_b n (sym (ap (λ p. p.1) (asks k)) ∙ w)
            (count_le (length names) n false (is_new fb) (sym (second_old k)) most) fine.1)
