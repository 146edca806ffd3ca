-- 01, "Script text" and "The checker": form. "10, then lines in order, lowest number within a line, then 11."
use Rattle.std.specs.Prelude.{Bool, true, false, cond, List, [], ◌∷◌, ◌++◌, ℕ, ◌+◌, ltb, eqb, length, take, set}
use Rattle.std.specs.Prelude.{replicate, Result, Ok, Err}
use Rattle.text.specs.Cut.{lines}
use Rattle.table.specs.declared.Act.{Act}
use Rattle.table.specs.declared.Item.{Item}
use Rattle.table.specs.declared.Table.{Table}
use Rattle.word.specs.Word.{word_at, part, padded, skipped}
use Rattle.argument.specs.declared.Refusal.{Refusal}
use Rattle.argument.specs.Refusal.{number_of}
use Rattle.line.specs.Line.{Judgement, item, refused, judged}

-- ---- what loading gives: 01's number and line, both 0 where the text is accepted, and the table

pub record Outcome : Type 0 where
  pub number : ℕ
  pub line : ℕ
  pub table : Table

abbrev pub empty_table : Table
empty_table =
    record {
      items = replicate 128 (record { item = Item.Act (Act.Var 0); line = 0 });
      count = 0;
      names = 0;
      end = 0;
    }

-- the table of a refused script is the empty one
abbrev pub refusal : ℕ → ℕ → Outcome
refusal k nr = record { number = k; line = nr; table = empty_table }

abbrev pub accepted : Table → ℕ → Outcome
accepted p nr =
    record {
      number = 0;
      line = 0;
      table = record { items = p.items; count = p.count; names = p.names; end = nr };
    }

abbrev pub meaning : Result Table (Refusal × ℕ) → Outcome
meaning (Ok p) = record { number = 0; line = 0; table = p }
meaning (Err (r, n)) = refusal (number_of r) n

-- ---- one item more, and the name that it declares

abbrev pub declares_act : Act → Bool
declares_act (Act.Var v) = true
declares_act (Act.Store v l t) = false
declares_act (Act.Copy a b) = false
declares_act (Act.Calc o v x) = false
declares_act (Act.Meas f v t) = false
declares_act (Act.TimerGet v) = false
declares_act (Act.SendString a) = false
declares_act (Act.Wait f) = false
declares_act (Act.SetE f) = false
declares_act (Act.SetMode n) = false
declares_act Act.TimerStart = false
declares_act Act.CellOn = false
declares_act Act.CellOff = false
declares_act Act.Abort = false

abbrev pub declares : Item → Bool
declares (Item.Act a) = declares_act a
declares (Item.Pack p) = false
declares (Item.Open h) = false
declares (Item.Branch b) = false
declares (Item.Close e) = false
declares Item.Break = false
declares Item.Tag = false

unfoldable pub counted : ℕ → Item → ℕ
counted n it = cond (declares it) (n + 1) n

unfoldable pub appended : Table → Item → ℕ → Table
appended p it nr =
    record {
      items = set p.items p.count (record { item = it; line = nr });
      count = p.count + 1;
      names = counted p.names it;
      end = p.end;
    }

-- ---- one line that is not the ending one: 12, skipped, 13, then 14 to 18 or one item more

-- nothing where it is skipped, else its item or a number
pub data Line : Type 0 where
  nothing : Line
  given : Judgement → Line

-- the line, and the script's bytes up to its end, in which it stands from a place on; n items stand before it
abbrev pub taken_by : ℕ → List (List ℕ) → List ℕ → List ℕ → ℕ → Line
taken_by n names line upto i =
    cond (ltb 127 (length line)) (given (refused 12))
    (cond (skipped line) nothing
    (cond (ltb n 128) (given (judged names upto i)) (given (refused 13))))

pub record Step : Type 0 where
  pub table : Table
  pub number : ℕ

abbrev pub step : Table → ℕ → Step
step p k = record { table = p; number = k }

abbrev pub taking : Table → ℕ → Line → Step
taking p nr nothing = step p 0
taking p nr (given (refused k)) = step p k
taking p nr (given (item it)) = step (appended p it nr) 0

unfoldable pub line_step : Table → List (List ℕ) → List ℕ → List ℕ → ℕ → ℕ → Step
line_step p names line upto i nr = taking p nr (taken_by p.count names line upto i)

-- ---- the names: one row more where the line's item declares one, its second word

unfoldable pub name_row : List ℕ → List ℕ
name_row line = padded (part line (word_at line (word_at line 0).end))

unfoldable pub named : List (List ℕ) → Line → List ℕ → List (List ℕ)
named names nothing line = names
named names (given (refused k)) line = names
named names (given (item it)) line = cond (declares it) (names ++ (name_row line ∷ [])) names

-- ---- the lines in order; the first empty one ends the script

unfoldable pub walk : List ℕ → Table → List (List ℕ) → ℕ → ℕ → List (List ℕ) → Outcome
walk s p names i nr [] = refusal 11 nr
walk s p names i nr (l ∷ ls) =
    let t = line_step p names l (take (i + length l) s) i nr in
    let names' = named names (taken_by p.count names l (take (i + length l) s) i) l in
    cond (eqb (length l) 0) (accepted p nr)
    (cond (eqb t.number 0) (walk s t.table names' (i + length l + 1) (nr + 1) ls) (refusal t.number nr))

unfoldable pub loaded : List ℕ → Outcome
loaded s = cond (ltb 8192 (length s)) (refusal 10 0) (walk s empty_table [] 0 1 (lines s))
