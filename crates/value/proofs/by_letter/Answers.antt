-- `value::by_letter`, letter by letter. Assumes nothing.
use Rattle.std.proofs.Common.{◌≡◌, ℕ, ◌+◌, ℤ, sym, ap, ◌∙◌, to_z-of_z, w32, to_z, of_z}
use lib.Ieee as Ieee
use lib.Ieee.{binary64, of_bits, of_int}
use Rattle.prefix.specs.Prefix.{in_steps, prefix_of}
use Rattle.text.proofs.Keys.{apart}
use Rattle.text.specs.Bytes.{ascii, byte}
use Rattle.value.proofs.Literals.{Power, by_power, no_letter, powers}
use Rattle.value.specs.declared.Value.TheVariants as Value
use Rattle.value.specs.Literal.{reads, lettered, over, times}
use Rattle.value.proofs.by_letter.Goals as goal
use Rattle.value.proofs.by_letter.Goals.{Start}

-- with the number z and the place `at` of the letter
module _ (c : Start) where
  abbrev z : ℤ
  z = c.args.z

  abbrev at : ℕ
  at = c.args.at

  abbrev read : ℤ
  read = to_z w32 (of_z w32 z)

  -- what the letter makes of the number
  by : (x : ℕ) → c.args.c ≡ x → lettered z at (prefix_of x) ≡ lettered z at (prefix_of c.args.c)
  by x e = ap (λ (b : ℕ). lettered z at (prefix_of b)) (sym e)

  is_over : {n bits : ℕ} → Power n bits
      → reads (Value.Real (Ieee.div binary64 (of_int binary64 read) (of_bits binary64 bits))) (at + 1)
      ≡ reads (Value.Real (over z n)) (at + 1)
  unfolding over
  is_over p = by_power (Ieee.div binary64) z c.ranges.z (at + 1) p

  is_times : {n bits : ℕ} → Power n bits
      → reads (Value.Real (Ieee.mul binary64 (of_int binary64 read) (of_bits binary64 bits))) (at + 1)
      ≡ reads (Value.Real (times z n)) (at + 1)
  unfolding times
  is_times p = by_power (Ieee.mul binary64) z c.ranges.z (at + 1) p

pub returns-in-105 : goal.returns-in-105
unfolding lettered prefix_of in_steps
returns-in-105 c =
    ap (λ (x : ℤ). reads (Value.Whole x) (c.args.at + 1)) (to_z-of_z c.ranges.z)
    ∙ by (goal.at.returns-in-105 c).Start (byte "i") c.in-105.is

pub returns-in-97 : goal.returns-in-97
unfolding lettered prefix_of in_steps
returns-in-97 c =
    is_over (goal.at.returns-in-97 c).Start powers.eighteen ∙ by (goal.at.returns-in-97 c).Start (byte "a") c.in-97.is

pub returns-in-102 : goal.returns-in-102
unfolding lettered prefix_of in_steps
returns-in-102 c =
    is_over (goal.at.returns-in-102 c).Start powers.fifteen ∙ by (goal.at.returns-in-102 c).Start (byte "f") c.in-102.is

pub returns-in-112 : goal.returns-in-112
unfolding lettered prefix_of in_steps
returns-in-112 c =
    is_over (goal.at.returns-in-112 c).Start powers.twelve ∙ by (goal.at.returns-in-112 c).Start (byte "p") c.in-112.is

pub returns-in-110 : goal.returns-in-110
unfolding lettered prefix_of in_steps
returns-in-110 c =
    is_over (goal.at.returns-in-110 c).Start powers.nine ∙ by (goal.at.returns-in-110 c).Start (byte "n") c.in-110.is

pub returns-in-117 : goal.returns-in-117
unfolding lettered prefix_of in_steps
returns-in-117 c =
    is_over (goal.at.returns-in-117 c).Start powers.six ∙ by (goal.at.returns-in-117 c).Start (byte "u") c.in-117.is

pub returns-in-109 : goal.returns-in-109
unfolding lettered prefix_of in_steps
returns-in-109 c =
    is_over (goal.at.returns-in-109 c).Start powers.three ∙ by (goal.at.returns-in-109 c).Start (byte "m") c.in-109.is

pub returns-in-107 : goal.returns-in-107
unfolding lettered prefix_of in_steps
returns-in-107 c =
    is_times (goal.at.returns-in-107 c).Start powers.three ∙ by (goal.at.returns-in-107 c).Start (byte "k") c.in-107.is

pub returns-in-77 : goal.returns-in-77
unfolding lettered prefix_of in_steps
returns-in-77 c =
    is_times (goal.at.returns-in-77 c).Start powers.six ∙ by (goal.at.returns-in-77 c).Start (byte "M") c.in-77.is

pub returns-in-71 : goal.returns-in-71
unfolding lettered prefix_of in_steps
returns-in-71 c =
    is_times (goal.at.returns-in-71 c).Start powers.nine ∙ by (goal.at.returns-in-71 c).Start (byte "G") c.in-71.is

pub returns-in-84 : goal.returns-in-84
unfolding lettered prefix_of in_steps
returns-in-84 c =
    is_times (goal.at.returns-in-84 c).Start powers.twelve ∙ by (goal.at.returns-in-84 c).Start (byte "T") c.in-84.is

pub returns-in-80 : goal.returns-in-80
unfolding lettered prefix_of in_steps
returns-in-80 c =
    is_times (goal.at.returns-in-80 c).Start powers.fifteen ∙ by (goal.at.returns-in-80 c).Start (byte "P") c.in-80.is

pub returns-in-69 : goal.returns-in-69
unfolding lettered prefix_of in_steps
returns-in-69 c =
    is_times (goal.at.returns-in-69 c).Start powers.eighteen ∙ by (goal.at.returns-in-69 c).Start (byte "E") c.in-69.is

pub returns-in_default : goal.returns-in_default
unfolding lettered
returns-in_default c =
    let other = apart c.args.c (ascii "iafpnumkMGTPE") _ c.in_default.in_default-own.rest in
    sym (ap (lettered c.args.z c.args.at) (no_letter other))
