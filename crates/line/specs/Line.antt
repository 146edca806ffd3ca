-- 01, "Script text" and "The checker": a line that is not skipped: its item, or the lowest of its numbers 14 to 18.
use Rattle.std.specs.Prelude.{Option, Some, None, Result, Ok, Err}
use Rattle.std.specs.Prelude.{cond, List, ℕ, ltb, get_or}
use Rattle.table.specs.declared.Item.{Item}
use Rattle.word.specs.Word.{word_at, part, seek}
use Rattle.argument.specs.declared.Refusal.{Refusal}
use Rattle.argument.specs.Refusal.{number_of}
use Rattle.argument.specs.declared.Form.TheVariants as Form
use Rattle.argument.specs.declared.Said.{Said}
use Rattle.argument.specs.Argument.{said_at}
use Rattle.argument.specs.Holds.{wrong_of}
use Rattle.line.specs.Command.{Command, Arguments, item_of, command_words, command_at, form_of}

-- a line's item, or a number
pub data Judgement : Type 0 where
  item : Item → Judgement
  refused : ℕ → Judgement

unfoldable pub meaning : Result Item Refusal → Judgement
meaning (Ok it) = item it
meaning (Err r) = refused (number_of r)

-- all arguments, and that nothing follows them
unfoldable pub arguments_at : List (List ℕ) → List ℕ → List ℕ → ℕ → Arguments
arguments_at names line k i =
    let a : Said = said_at names line (form_of (get_or k 0 0)) i in
    let b : Said = said_at names line (form_of (get_or k 1 0)) a.stop in
    let c : Said = said_at names line (form_of (get_or k 2 0)) b.stop in
    let d : Said = said_at names line (form_of (get_or k 3 0)) c.stop in
    let e : Said = said_at names line (form_of (get_or k 4 0)) d.stop in
    let f : Said = said_at names line (form_of (get_or k 5 0)) e.stop in
    let g : Said = said_at names line Form.Nothing f.stop in
    record {
      a = a.argument;
      b = b.argument;
      c = c.argument;
      d = d.argument;
      e = e.argument;
      f = f.argument;
      end = g.argument;
    }

unfoldable pub lower : Option ℕ → Option ℕ → Option ℕ
lower None b = b
lower (Some m) None = Some m
lower (Some m) (Some n) = Some (cond (ltb m n) m n)

-- "lowest number within a line", if an argument is wrong
unfoldable pub lowest : Arguments → Option ℕ
lowest x =
    lower (wrong_of x.a) (lower (wrong_of x.b) (lower (wrong_of x.c) (lower (wrong_of x.d)
    (lower (wrong_of x.e) (lower (wrong_of x.f) (wrong_of x.end))))))

abbrev pub or_item : Option ℕ → Item → Judgement
or_item None it = item it
or_item (Some n) it = refused n

abbrev pub verdict : Command → Arguments → Judgement
verdict c x = or_item (lowest x) (item_of c.make x)

-- 14 for an unknown command, else what its arguments say
abbrev pub by_command : List (List ℕ) → List ℕ → ℕ → Option ℕ → Judgement
by_command names line i None = refused 14
by_command names line i (Some k) = verdict (command_at k) (arguments_at names line (command_at k).shape i)

-- the line that stands from a place up to the end of these bytes of the script
unfoldable pub judged : List (List ℕ) → List ℕ → ℕ → Judgement
judged names line i = by_command names line (word_at line i).end (seek command_words (part line (word_at line i)))
