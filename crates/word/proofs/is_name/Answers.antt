-- `word::is_name` tests the length, the first byte, then all. Assumes nothing.
use borrow.Author.Tests.{lt-leb, le-leb}
use lib.ListN.{length}
use mathlib.Core.Path.{sym, ◌∙◌}
use native.Mathlib.Nat.{zero-add}
use native.Mathlib.Omega.{arith}
use Rattle.word.specs.Word.{name_form}
use Rattle.word.proofs.is_name.Goals as goal

pub returns-then-n-eq0 : goal.returns-then-n-eq0
unfolding name_form
returns-then-n-eq0 c = simp (lt-leb 1 (length c.args.word.now) (omega arith))

pub returns-then-n-gt-WIDTH : goal.returns-then-n-gt-WIDTH
unfolding name_form
returns-then-n-gt-WIDTH c =
    simp (le-leb 1 (length c.args.word.now) (omega arith), lt-leb _ 16 c.if-n-gt-WIDTH.true)

pub returns-then-not-starts_name : goal.returns-then-not-starts_name
unfolding name_form
returns-then-not-starts_name c =
    let some = le-leb 1 (length c.args.word.now) (omega arith) in
    simp (some, le-leb _ 16 c.if-n-gt-WIDTH.false, sym c.starts_name.ensures ∙ c.if-not-starts_name.true)

pub returns : goal.returns
unfolding name_form
returns c =
    let some = le-leb 1 (length c.args.word.now) (omega arith) in
    let starts = sym c.starts_name.ensures ∙ c.if-not-starts_name.false in
    simp (some, le-leb _ 16 c.if-n-gt-WIDTH.false, starts, c.run_from.ensures, zero-add)
