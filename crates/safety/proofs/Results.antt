-- What arithmetic gives is finite, and of the kind of its first operand.
use Rattle.std.proofs.Common.{Result, Ok, Err}
use Rattle.value.specs.declared.Stop.{Stop}
use lib.Ieee as Ieee
use Prim.Native.Nat.{zero, suc}
use mathlib.Core.Path.{◌≡◌, refl}
use mathlib.Core.Bool.{Bool, true, false, cond}
use lib.IntN.{ℤ, pos, negsuc}
use lib.Ieee.{Float, binary64}
use Rattle.value.specs.declared.Value.{Value}
use Rattle.value.specs.declared.Operation.{Operation}
use Rattle.value.specs.Arithmetic.{finite, is_finite, is_zero, checked, wholes, reals, calculated}
use Rattle.table.specs.declared.Kind.{Kind}
use Rattle.table.specs.ReadWrite.{kind_of}

abbrev pub OfKind : Kind → Value → Type 0
OfKind k u = (finite u ≡ true) × (kind_of u ≡ k)

pub checked_got : (x : Float) (u : Value) → checked x ≡ Ok u → OfKind Kind.Real u
unfolding checked finite
checked_got x u e = go (is_finite x) refl e
  where
    go : (f : Bool) → is_finite x ≡ f
        → cond f (Ok (Value.Real x)) (Err Stop.NotFinite) ≡ Ok u → OfKind Kind.Real u
    go true q h =
        let d : u ≡ Value.Real x = cc in
        (rw d q, rw d)
    go false q h = (cc, cc)

given : (z : ℤ) (u : Value) → ◌≡◌ {A = Result Value Stop} (Ok (Value.Whole z)) (Ok u) → OfKind Kind.Whole u
unfolding finite
given z u e =
    let d : u ≡ Value.Whole z = cc in
    (rw d, rw d)

whole_got : (o : Operation) (a b : ℤ) (u : Value) → wholes o a b ≡ Ok u → OfKind Kind.Whole u
unfolding wholes
whole_got Operation.Add a b u e = given _ u e
whole_got Operation.Sub a b u e = given _ u e
whole_got Operation.Mul a b u e = given _ u e
whole_got Operation.Div a (pos zero) u e = (cc, cc)
whole_got Operation.Div a (pos (suc b)) u e = given _ u e
whole_got Operation.Div a (negsuc b) u e = given _ u e

real_got : (o : Operation) (a b : Float) (u : Value) → reals o a b ≡ Ok u → OfKind Kind.Real u
unfolding reals
real_got Operation.Add a b u e = checked_got _ u e
real_got Operation.Sub a b u e = checked_got _ u e
real_got Operation.Mul a b u e = checked_got _ u e
real_got Operation.Div a b u e = go (is_zero b) e
  where
    go : (z : Bool) → cond z (Err Stop.ByZero) (checked (Ieee.div binary64 a b)) ≡ Ok u
        → OfKind Kind.Real u
    go true h = (cc, cc)
    go false h = checked_got _ u h

pub result_got : (o : Operation) (a b u : Value) → calculated o a b ≡ Ok u → OfKind (kind_of a) u
unfolding calculated
result_got o (Value.Whole a) (Value.Whole b) u e = whole_got o a b u e
result_got o (Value.Real a) (Value.Real b) u e = real_got o a b u e
result_got o (Value.Whole a) (Value.Real b) u e = (cc, cc)
result_got o (Value.Real a) (Value.Whole b) u e = (cc, cc)
