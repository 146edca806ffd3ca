-- `judge` goes through the lines in order. What a round's line does is said once; the answers cite it. Assumes nothing.
use borrow.Author.Rules.{rules}
use borrow.Author.Tests.{lt-leb, le-leb}
use Rattle.std.proofs.Common.{Result, Ok}
use mathlib.Core.Path.{◌≡◌, refl, sym, ◌∙◌, ap}
use native.Mathlib.Omega.{arith}
use Rattle.reply_line.specs.declared.Refusal.{Refusal}
use Rattle.reply_step.specs.declared.Step.{Step}
use Rattle.reply_step.specs.Meaning.{meant, stepped}
use Rattle.reply.proofs.Lines.{Round, place, goes_on, ends_here, refused_here, no_line}
use Rattle.reply.specs.Reply.{verdict}
use Rattle.reply.proofs.judge.Goals as goal
use Rattle.reply.proofs.judge.Goals.{After-step_of}

-- with what the line in hand does: it stands from its start up to its end
module _ (c : After-step_of) where
  round : (v : Result Step Refusal) → c.step_of.result ≡ v
      → Round c.args.reply.now c.args.n c.loop-found.k c.loop-found.at c.in-Some.found.start c.in-Some.found.end
      c.in-Some.found.next (meant c.loop-found.st) (stepped c.loop-found.st v)
  round v is =
      record {
        line = c.in-Some.ensures;
        does = sym (ap (stepped c.loop-found.st) is) ∙ (rw c.line_at-line.ensures at c.step_of.ensures.means);
      }

pub returns-then-reply-gt-MOST_BYTES : goal.returns-then-reply-gt-MOST_BYTES
unfolding verdict
returns-then-reply-gt-MOST_BYTES c = simp (lt-leb _ _ c.if-reply-gt-MOST_BYTES.true)

pub loop-found-init : goal.loop-found-init
unfolding verdict
loop-found-init c =
    record {
      within = search rules;
      short = search rules;
      numbered = search rules;
      same = simp (c.nothing_open-st.ensures, le-leb _ _ c.if-reply-gt-MOST_BYTES.false);
    }

pub returns-in-Ok-Ends : goal.returns-in-Ok-Ends
returns-in-Ok-Ends c =
    let is = c.in-Ok-Ends.is ∙ ap Ok c.in-Ok-Ends.field-0-is in
    sym (ends_here (round (goal.at.returns-in-Ok-Ends c).After-step_of _ is) refl) ∙ c.loop-found.invariant.same

pub returns-in-Err : goal.returns-in-Err
returns-in-Err c =
    sym (refused_here (round (goal.at.returns-in-Err c).After-step_of _ c.in-Err.is) refl) ∙ c.loop-found.invariant.same

pub loop-found-smaller : goal.loop-found-smaller
loop-found-smaller c = omega (arith, place (round (goal.at.loop-found-smaller c).After-step_of _ refl))

pub loop-found-preserved : goal.loop-found-preserved
loop-found-preserved c =
    let i = c.loop-found.invariant in
    let is = c.in-Ok-On.is ∙ ap Ok c.in-Ok-On.field-0-is in
    let r = round (goal.at.loop-found-preserved c).After-step_of _ is in
    record {
      within = omega (arith, place r);
      short = i.short;
      numbered = omega (arith, place r, i.numbered);
      same = sym (goes_on r refl) ∙ i.same;
    }

pub returns : goal.returns
returns c =
    let none = sym c.in_default.is ∙ c.next_line.ensures in
    sym (no_line _ _ _ _ _ c.loop-found.invariant.within none) ∙ c.loop-found.invariant.same
