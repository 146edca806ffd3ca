-- `line::judge_line` finds the command, then what its arguments say. Assumes nothing.
use mathlib.Core.Path.{◌≡◌, sym, ◌∙◌, ap}
use Rattle.argument.specs.Refusal.{number_of}
use Rattle.line.proofs.Judge.{Asked, unknown, faulty, good}
use Rattle.line.specs.Command.{command_words}
use Rattle.line.specs.Line.{meaning}
use Rattle.word.specs.Word.{part, seek}
use Rattle.line.proofs.judge_line.Goals as goal
use Rattle.line.proofs.judge_line.Goals.{After-find_command, After-say_all-x}

-- with what was found of the command
module _ (c : After-find_command) where
  sought : seek command_words (part c.args.script.now c.word_at-w.result) ≡ c.find_command.result
  sought = sym (c.find_command.ensures ∙ ap (seek command_words) c.part_of.ensures)

-- with what the arguments of a command say
module _ (c : After-say_all-x) where
  asked : Asked c.args.names.now c.args.script.now c.args.at c.word_at-w.result c.in-Some.k c.say_all-x.result
  asked =
      record {
        word = c.word_at-w.ensures;
        row = sym (c.find_command.ensures ∙ ap (seek command_words) c.part_of.ensures) ∙ c.in-Some.is;
        says = rw c.shape_at-shape.ensures at c.say_all-x.ensures;
      }

pub returns-in-None : goal.returns-in-None
unfolding meaning number_of
returns-in-None c =
    unknown _ _ _ _ c.word_at-w.ensures (sought (goal.at.returns-in-None c).After-find_command ∙ c.in-None.is)

pub returns-in-Some-worst_of : goal.returns-in-Some-worst_of
unfolding meaning
returns-in-Some-worst_of c =
    faulty (asked (goal.at.returns-in-Some-worst_of c).After-say_all-x) _
    (rw c.in-Some-worst_of.is at c.worst_of.ensures)

pub returns-in-None-worst_of : goal.returns-in-None-worst_of
unfolding meaning
returns-in-None-worst_of c =
    good (asked (goal.at.returns-in-None-worst_of c).After-say_all-x) _ (rw c.in-None-worst_of.is at c.worst_of.ensures)
    (rw c.make_at-make.ensures at c.item_of.ensures)
