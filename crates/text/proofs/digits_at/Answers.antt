-- `text::digits_at` reads the digits from the first to the last. Assumes nothing.
use mathlib.Core.Path.{◌≡◌, ◌∙◌, ap, refl, sym}
use native.Mathlib.Omega.{arith}
use Prim.Native.Nat.{ℕ, ◌+◌, ◌-◌, ◌*◌, ◌^◌, ◌≤◌, ◌<◌}
use Rattle.std.proofs.Common.{List, None, get_or, get_or-drop, get_or-take, drop, length, length-drop, length-take}
use Rattle.std.proofs.Common.{take}
use Rattle.text.proofs.Digits.{Turn, done, few_bits, good, no_digit, no_value, some_value, start, stays}
use Rattle.text.specs.Code.{value_in}
use Rattle.text.specs.Hex.{digit_value}
use Rattle.text.proofs.digits_at.Goals as goal
use Rattle.text.proofs.digits_at.Goals.{In_ok-v}

-- the digit that is read next, of those that are lent
at_place : (s : List ℕ) (at n i : ℕ) → i < n
    → get_or (take (at + n - at) (drop at s)) i 0 ≡ get_or s (at + i) 0
at_place s at n i h = get_or-take (at + n - at) (drop at s) i 0 (omega arith) ∙ get_or-drop at s i 0

many : (s : List ℕ) (at n : ℕ) → at + n ≤ length s → length (take (at + n - at) (drop at s)) ≡ n
many s at n h = omega (arith, length-take (at + n - at) (drop at s), length-drop at s)

-- with the value of the next digit
module _ (c : In_ok-v) where
  turn : Turn c.args.s.now c.args.at c.args.n c.loop-c.v c.loop-c.c-index c.in_ok-v.field-0
  turn =
      let more : c.loop-c.c-index < c.args.n = omega (arith, many _ _ _ c.requires.1) in
      record {
        so_far = c.loop-c.invariant;
        more = more;
        is =
            (some_value _ _ (sym c.digit_value.ensures ∙ c.in_ok-v.was)).0
            ∙ ap digit_value (at_place _ _ _ _ more);
      }

  small : c.in_ok-v.field-0 < 16
  small = (some_value _ _ (sym c.digit_value.ensures ∙ c.in_ok-v.was)).1

pub loop-c-init : goal.loop-c-init
loop-c-init c = start _ _ _ c.requires.0 c.requires.1

pub overflow_mul-v : goal.overflow_mul-v
overflow_mul-v c =
    let more : c.loop-c.c-index < c.args.n = omega (arith, many _ _ _ c.requires.1) in
    let few : c.loop-c.v * 16 + 0 < 16 ^ 7 =
    stays 16 _ 0 _ 7 c.loop-c.invariant.small (omega arith) (omega (arith, c.requires.0)) in
    record { fits = omega arith }

pub returns-in_err-v : goal.returns-in_err-v
returns-in_err-v c =
    let more : c.loop-c.c-index < c.args.n = omega (arith, many _ _ _ c.requires.1) in
    let none : value_in (get_or c.args.s.now (c.args.at + c.loop-c.c-index) 0) ≡ None =
    ap value_in (sym (at_place _ _ _ _ more)) ∙ sym c.digit_value.ensures ∙ c.in_err-v.was in
    c.from_residual.ensures
    ∙ no_digit (record { so_far = c.loop-c.invariant; more = more; is = sym refl }) (no_value _ none)

pub overflow_add-v : goal.overflow_add-v
overflow_add-v c = record { fits = omega (arith, few_bits (turn c) (small c)) }

pub loop-c-preserved : goal.loop-c-preserved
loop-c-preserved c = good (turn (goal.at.loop-c-preserved c).In_ok-v) (small (goal.at.loop-c-preserved c).In_ok-v)

pub returns : goal.returns
returns c = done c.loop-c.invariant (omega (arith, many _ _ _ c.requires.1))
