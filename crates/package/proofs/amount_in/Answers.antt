-- `package::amount_in`: nan, or seven digits and a prefix. Assumes nothing.
use Rattle.std.proofs.Common.{Option}
use Rattle.prefix.specs.declared.Scale.{Scale}
use mathlib.Core.Path.{◌≡◌, sym, ◌∙◌}
use native.Mathlib.Omega.{arith}
use Rattle.package.proofs.Amounts.{Found, is_integer, is_number, no_prefix, seven}
use Rattle.package.specs.Package.{amount_in, number_with}
use Rattle.package.proofs.amount_in.Goals as goal
use Rattle.package.proofs.amount_in.Goals.{After-scale_of}

-- with the number of the seven digits and the prefix e after them
module _ (c : After-scale_of) where
  found : (e : Option Scale) → c.scale_of.result ≡ e
      → Found c.args.s.now c.in_ok-hex_at.field-0 c.value_of-whole.result e
  found e is =
      record {
        number = sym c.is_nan.ensures ∙ c.if-is_nan.false;
        digits = sym c.in_ok-hex_at.ensures;
        value = c.value_of-whole.ensures;
        scale = sym c.scale_of.ensures ∙ is;
      }

pub returns-then-is_nan : goal.returns-then-is_nan
unfolding amount_in
returns-then-is_nan c = simp (sym c.is_nan.ensures ∙ c.if-is_nan.true)

pub value_of-whole-requires : goal.value_of-whole-requires
value_of-whole-requires c = seven c.args.s.now _ (sym c.in_ok-hex_at.ensures)

pub returns-in_err-hex_at : goal.returns-in_err-hex_at
unfolding amount_in number_with
returns-in_err-hex_at c =
    c.from_residual.ensures ∙ simp (sym c.is_nan.ensures ∙ c.if-is_nan.false, sym c.in_err-hex_at.ensures)

pub returns-in_err-exponent : goal.returns-in_err-exponent
returns-in_err-exponent c =
    c.from_residual-in_err-exponent.ensures
    ∙ no_prefix (found (goal.at.returns-in_err-exponent c).After-scale_of _ c.in_err-exponent.was)

pub returns-in-Exponent : goal.returns-in-Exponent
returns-in-Exponent c =
    is_number
    (found (goal.at.returns-in-Exponent c).After-scale_of _ (rw c.in-Exponent.is at c.in_ok-exponent.was))
    (record { sfits = omega arith })

pub returns-in-Integer : goal.returns-in-Integer
returns-in-Integer c =
    is_integer (found (goal.at.returns-in-Integer c).After-scale_of _ (rw c.in-Integer.is at c.in_ok-exponent.was))
