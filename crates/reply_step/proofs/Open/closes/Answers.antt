-- `reply_step::Open::closes`: the innermost is of the mark's kind. Assumes nothing.
use mathlib.Core.Path.{◌∙◌, ap}
use Rattle.reply_line.specs.declared.RowKind.{RowKind}
use Rattle.reply_step.specs.Step.{same_kind}
use Rattle.reply_step.proofs.Loops.{closes_top, same_letter}
use Rattle.reply_step.proofs.Open.closes.Goals as goal

pub returns : goal.returns
returns c =
    c.eq.ensures ∙ same_letter _ _ ∙ ap (λ (l : RowKind). same_kind l c.args.kind) c.innermost-inside.ensures
    ∙ closes_top c.args.self c.args.kind c.if-self-eq0.false
