-- What sums and bits say of eight bytes at once: which are of ASCII, which in a range, and what a digit is worth.
-- Assumes nothing.
use lib.Bits.{and_le_r, bit_and, bit_xor}
use lib.Dec.{eqb, ltb}
use mathlib.Core.Bool.{Bool, cond, false, true}
use mathlib.Core.Path.{◌≡◌, ◌∙◌, ap, refl, sym}
use native.Mathlib.Nat.{mul-div_cancel}
use native.Mathlib.Omega.{arith}
use Prim.Native.Nat.{ℕ, ◌+◌, ◌-◌, ◌*◌, ◌/◌, ◌^◌, ◌≤◌, ◌<◌}
use Rattle.text.proofs.Abreast.{Made, added, alike, anded, fits, repeated, same, times, whole, xored}
use Rattle.text.proofs.Every.{every}
use Rattle.text.specs.Code.{capital, in_each, mark, worth}

pub mark_byte : (b : Bool) → mark b < 256
mark_byte true = omega arith
mark_byte false = omega arith

module _ (w : ℕ) (h : w < 2 ^ 64) where
  pub plain_marks : bit_xor (bit_and w 0x8080808080808080) 0x8080808080808080 ≡ in_each (λ c. mark (ltb c 128)) 8 w
  plain_marks =
      let tops = repeated w 128 (omega arith) in
      same (λ c. mark (ltb c 128)) (xored (anded (whole w h) tops) tops) refl

  -- ---- a range

  abbrev sum : ℕ → ℕ
  sum a = bit_and w 0x7F7F7F7F7F7F7F7F + 0x0101010101010101 * (128 - a)

  -- the bits below the top one, raised to it from a on
  raised : (a : ℕ) → Made w (λ c. bit_and c 127 + (128 - a)) (sum a)
  raised a =
      added (anded (whole w h) (repeated w 127 (omega arith))) (repeated w (128 - a) (omega arith))
      (λ c k. omega (arith, and_le_r c 127))

  pub sum_fits : (a : ℕ) → sum a < 2 ^ 64
  sum_fits a = fits (raised a)

  -- from a up to b
  pub range_marks : (a b p : ℕ) (g : ℕ → Bool) → p ≡ in_each (λ c. mark (ltb c 128)) 8 w
      → every (λ c. eqb (bit_and (bit_xor (bit_and c 127 + (128 - a)) (bit_and c 127 + (128 - b))) (mark (ltb c 128)))
      (mark (g c))) 256
      ≡ true
      → bit_and (bit_xor (sum a) (sum b)) p ≡ in_each (λ c. mark (g c)) 8 w
  range_marks a b p g e t =
      same (λ c. mark (g c))
      (anded (xored (raised a) (raised b)) (record { is = e; bytes = λ c k. mark_byte (ltb c 128) })) t

-- ---- what a digit is worth

-- 1 for a letter
abbrev flag : Bool → ℕ
flag b = cond b 1 0

flag_of : (b : Bool) → mark b ≡ flag b * 128
flag_of true = refl
flag_of false = refl

nine_at_most : (b : Bool) → flag b * 9 ≤ 9
nine_at_most true = omega arith
nine_at_most false = omega arith

module _ (w r : ℕ) (h : w < 2 ^ 64) (e : r ≡ in_each (λ c. mark (capital c)) 8 w) where
  flags : r / 128 ≡ in_each (λ c. flag (capital c)) 8 w
  flags =
      ap (λ (n : ℕ). n / 128)
      (e ∙ alike _ (λ c. flag (capital c) * 128) (λ c k. flag_of (capital c)) 8 w
      ∙ sym (times (λ c. flag (capital c)) 128 8 w))
      ∙ mul-div_cancel (in_each (λ c. flag (capital c)) 8 w) (omega arith)

  worth_made : Made w (λ c. bit_and c 15 + flag (capital c) * 9) (bit_and w 0x0F0F0F0F0F0F0F0F + r / 128 * 9)
  worth_made =
      added (anded (whole w h) (repeated w 15 (omega arith)))
      (record {
        is = ap (λ (n : ℕ). n * 9) flags ∙ times (λ c. flag (capital c)) 9 8 w;
        bytes = λ c k. omega (arith, nine_at_most (capital c));
      })
      (λ c k. omega (arith, and_le_r c 15, nine_at_most (capital c)))

  pub worth_fits : bit_and w 0x0F0F0F0F0F0F0F0F + r / 128 * 9 < 2 ^ 64
  worth_fits = fits worth_made

  pub worth_of : bit_and w 0x0F0F0F0F0F0F0F0F + r / 128 * 9 ≡ in_each worth 8 w
  unfolding capital worth
  worth_of = same worth worth_made refl
