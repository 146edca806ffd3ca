-- `argument::say_at` reads a text from its place, and any other argument from the next word. Assumes nothing.
use mathlib.Core.Path.{sym, ◌∙◌}
use Rattle.argument.specs.Argument.{said_at}
use Rattle.word.proofs.Runs.{inside}
use Rattle.argument.proofs.say_at.Goals as goal

pub returns-then-is_text : goal.returns-then-is_text
unfolding said_at
returns-then-is_text c =
    let asked-text = sym c.is_text.ensures ∙ c.if-is_text.true in
    record {
      says = simp (asked-text, sym c.text_at.ensures.value);
      inside = λ h. c.text_at.ensures.inside;
    }

pub returns : goal.returns
unfolding said_at
returns c =
    let no_text = sym c.is_text.ensures ∙ c.if-is_text.false in
    record {
      says = simp (no_text, sym c.word_at-w.ensures, sym c.part_of.ensures, sym c.say-argument.ensures);
      inside = λ h. (inside _ c.args.line.now c.args.at c.word_at-w.ensures h).1;
    }
