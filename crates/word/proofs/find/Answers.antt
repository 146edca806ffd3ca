-- `word::find` goes row by row, with whatever row the key is of. Assumes nothing.
use borrow.Author.Rules.{rules}
use mathlib.Core.Path.{refl, sym, ◌∙◌}
use Rattle.word.proofs.Keyed.{same_rows}
use Rattle.word.proofs.Rows.{passed, found, not_found}
use Rattle.word.proofs.find.Goals as goal

pub loop-i-init : goal.loop-i-init
loop-i-init c row k = record { within = search rules; rest = refl }

pub returns-then-eq : goal.returns-then-eq
returns-then-eq c =
    record {
      first =
          λ row k. found (c.loop-i.invariant row k) c.loop-i-test.true
          (sym (same_rows c.row_key.ensures k) ∙ sym c.eq.ensures ∙ c.if-eq.true);
    }

pub loop-i-preserved : goal.loop-i-preserved
loop-i-preserved c row k =
    passed (c.loop-i.invariant row k) c.loop-i-test.true
    (sym (same_rows c.row_key.ensures k) ∙ sym c.eq.ensures ∙ c.if-eq.false)

pub returns : goal.returns
returns c = record { first = λ row k. not_found (c.loop-i.invariant row k) c.loop-i-test.false }
