-- `value::read_literal`: nothing, or digits, behind a minus or not. Assumes nothing.
use Rattle.std.proofs.Common.{◌≡◌, ℕ, List, length, ◌∙◌}
use Rattle.value.proofs.Literals.{behind_sign, empty, sign_within}
use Rattle.value.proofs.read_literal.Goals as goal
use Rattle.value.proofs.read_literal.Goals.{After-past_sign}

-- in a word that is not empty, behind its sign
module _ (c : After-past_sign) where
  abbrev word : List ℕ
  word = c.args.word.now

  some : length word ≡ 0 → ⊥
  some = c.if-word-eq0.false

pub returns-then-word-eq0 : goal.returns-then-word-eq0
returns-then-word-eq0 c = empty _ c.if-word-eq0.true

pub digits-requires : goal.digits-requires
digits-requires c = sign_within c.args.word.now (some c) c.past_sign.ensures

pub returns : goal.returns
returns c =
    c.digits.ensures ∙ behind_sign c.args.word.now (some (goal.at.returns c).After-past_sign) c.past_sign.ensures
