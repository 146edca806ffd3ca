-- `line::say_all` reads three arguments, and the others where the line goes on. Assumes nothing.
use mathlib.Core.List.{List}
use mathlib.Core.Path.{sym, ◌∙◌}
use Prim.Native.Nat.{ℕ}
use Rattle.line.proofs.All.{First, all, nothing_left}
use Rattle.line.proofs.say_all.Goals as goal
use Rattle.line.proofs.say_all.Goals.{After-is_all_over}

-- with the first three arguments
module _ (c : After-is_all_over) where
  abbrev names : List (List ℕ)
  names = c.args.names.now

  abbrev line : List ℕ
  line = c.args.line.now

  abbrev shape : List ℕ
  shape = c.args.shape

  abbrev from : ℕ
  from = c.args.at

  first : First names line shape from
      c.say_next-a.result c.say_next-b.result c.say_next-c.result
  first =
      record {
        one = c.say_next-a.ensures;
        two = c.say_next-b.ensures;
        three = c.say_next-c.ensures;
      }

pub returns-then-is_all_over : goal.returns-then-is_all_over
returns-then-is_all_over c =
    all (first (goal.at.returns-then-is_all_over c).After-is_all_over)
    (nothing_left (sym c.is_all_over.ensures ∙ c.if-is_all_over.true))

pub returns : goal.returns
returns c =
    all (first (goal.at.returns c).After-is_all_over)
    (record {
      four = rw c.form_of.ensures at c.say_at-d.ensures.says;
      five = rw c.form_of-2.ensures at c.say_at-e.ensures.says;
      six = rw c.form_of-3.ensures at c.say_at-f.ensures.says;
      last = c.say_at-g.ensures.says;
    })
