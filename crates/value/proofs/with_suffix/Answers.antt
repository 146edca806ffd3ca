-- `value::with_suffix`: nothing follows the digits, or one letter. Assumes nothing.
use Rattle.std.proofs.Common.{get_or, ℤ, ap, ◌∙◌, to_z-of_z, rules}
use lib.Ieee.{binary64, of_int}
use Rattle.prefix.specs.Prefix.{prefix_of}
use Rattle.value.proofs.Literals.{at_end_lem, more_letters, one_letter}
use Rattle.value.specs.declared.Value.TheVariants as Value
use Rattle.value.specs.Literal.{reads, lettered, plain}
use Rattle.value.proofs.with_suffix.Goals as goal

pub returns-then-n-i : goal.returns-then-n-i
unfolding plain
returns-then-n-i c =
    ap (λ (x : ℤ). reads (Value.Real (of_int binary64 x)) c.args.i) (to_z-of_z c.ranges.z)
    ∙ at_end_lem c.args.z c.args.s.now c.args.i (search rules)

pub returns-then-n-i-eq1 : goal.returns-then-n-i-eq1
returns-then-n-i-eq1 c =
    c.by_letter.ensures
    ∙ ap (λ (x : ℤ). lettered x c.args.i (prefix_of (get_or c.args.s.now c.args.i 0))) (to_z-of_z c.ranges.z)
    ∙ one_letter c.args.z c.args.s.now c.args.i (search rules) (search rules)

pub returns-else-n-i-eq1 : goal.returns-else-n-i-eq1
returns-else-n-i-eq1 c = more_letters c.args.z c.args.s.now c.args.i (search rules) c.if-n-i-eq1.false
