-- `reply_step::step_of`, by the kind of line. Assumes nothing.
use borrow.Author.Rules.{rules}
use lib.ListN.{length}
use mathlib.Core.Logic.{inl, inr}
use mathlib.Core.Path.{◌≡◌, refl}
use Rattle.reply_step.proofs.Loops.{does}
use Rattle.reply_step.specs.Code.{step_in}
use Rattle.reply_step.proofs.step_of.Goals as goal
use Rattle.reply_step.proofs.step_of.Goals.{Start}

-- at the start: the array has eight places
module _ (c : Start) where
  eight : length c.args.st.around ≡ 8
  eight = search rules

pub returns-in-Quiet : goal.returns-in-Quiet
unfolding step_in
returns-in-Quiet c =
    let whole = eight (goal.at.returns-in-Quiet c).Start in
    elim c.in-Quiet.is [ inl e ↦ does whole e refl | inr e ↦ does whole e refl ]

pub returns-in-Empty : goal.returns-in-Empty
unfolding step_in
returns-in-Empty c = does (eight (goal.at.returns-in-Empty c).Start) c.in-Empty.is c.end.ensures

pub returns-in-Opens : goal.returns-in-Opens
unfolding step_in
returns-in-Opens c = does (eight (goal.at.returns-in-Opens c).Start) c.in-Opens.is c.open.ensures

pub returns-in-Closes : goal.returns-in-Closes
unfolding step_in
returns-in-Closes c = does (eight (goal.at.returns-in-Closes c).Start) c.in-Closes.is c.close.ensures

pub returns-in-Error : goal.returns-in-Error
unfolding step_in
returns-in-Error c = does (eight (goal.at.returns-in-Error c).Start) c.in-Error.is refl

pub returns-in-Refused : goal.returns-in-Refused
unfolding step_in
returns-in-Refused c = does (eight (goal.at.returns-in-Refused c).Start) c.in-Refused.is refl
