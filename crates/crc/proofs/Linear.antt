-- The register's shift is linear, so a table serves it; and it stays below 2 ^ 16. Assumes nothing.
use borrow.Author.Tests.{le-leb, lt-leb}
use Rattle.std.specs.Int.Bits.{xor_assoc}
use lib.Bits.{bit_xor, differ, xor_block, xor_comm, xor_lt, xor_mod, xor_shifted, xor_shr, xor_step, xor_zero_r}
use lib.Dec.{leb}
use lib.Pow.{pow_pos}
use mathlib.Core.Bool.{Bool, true, false, cond}
use mathlib.Core.List.{List, [], ◌∷◌}
use mathlib.Core.Path.{◌≡◌, refl, sym, ◌∙◌, ap, ap₂}
use native.Mathlib.Decide.{dec_le}
use native.Mathlib.Nat.{mul_assoc, mul_comm, pow-suc, mul-le-mul_left, mul-one, add-zero}
use native.Mathlib.Omega.{arith}
use Prim.Native.Nat.{ℕ, zero, suc, ◌+◌, ◌*◌, ◌/◌, ◌%◌, ◌^◌, ◌≤◌, ◌<◌}
use Rattle.crc.specs.Crc.{moved, shift, shifts, step, crc_from}

-- ---- exclusive or, bit by bit

differ_lt : (x y : ℕ) → x < 2 → y < 2 → differ x y < 2
differ_lt zero y h k = k
differ_lt (suc x) zero h k = h
differ_lt (suc zero) (suc zero) h k = omega arith
differ_lt (suc zero) (suc (suc y)) h k = absurd (omega arith)
differ_lt (suc (suc x)) (suc y) h k = absurd (omega arith)

differ_assoc : (x y z : ℕ) → x < 2 → y < 2 → z < 2 → differ (differ x y) z ≡ differ x (differ y z)
differ_assoc zero y z a b d = refl
differ_assoc (suc x) zero z a b d = refl
differ_assoc (suc zero) (suc zero) zero a b d = refl
differ_assoc (suc zero) (suc zero) (suc zero) a b d = refl
differ_assoc (suc zero) (suc zero) (suc (suc z)) a b d = absurd (omega arith)
differ_assoc (suc zero) (suc (suc y)) z a b d = absurd (omega arith)
differ_assoc (suc (suc x)) (suc y) z a b d = absurd (omega arith)

xor_odd : (a b : ℕ) → bit_xor a b % 2 ≡ differ (a % 2) (b % 2)
xor_odd a b =
    let e : bit_xor a b ≡ bit_xor (a / 2) (b / 2) * 2 + differ (a % 2) (b % 2) = xor_step a b in
    let h : differ (a % 2) (b % 2) < 2 = differ_lt (a % 2) (b % 2) (omega arith) (omega arith) in
    omega arith

-- ---- the shift is linear in what it does not throw out

xor_double : (x y : ℕ) → bit_xor x y * 2 ≡ bit_xor (x * 2) (y * 2)
xor_double x y =
    sym
    (ap₂ bit_xor (sym (add-zero (x * 2))) (sym (add-zero (y * 2)))
    ∙ xor_block 1 x y 0 0 (omega arith) (omega arith) ∙ add-zero (bit_xor x y * 2))

moved_xor : (x y : ℕ) → y < 0x8000 → bit_xor x y * 2 % 0x10000 ≡ bit_xor (x * 2 % 0x10000) (y * 2)
moved_xor x y h =
    let e : y * 2 % 0x10000 ≡ y * 2 = omega arith in
    ap (λ (n : ℕ). n % 0x10000) (xor_double x y) ∙ xor_mod (x * 2) (y * 2) 16
    ∙ ap (λ (n : ℕ). bit_xor (x * 2 % 0x10000) n) e

same_top : (x y : ℕ) → y < 0x8000 → leb 0x8000 (bit_xor x y) ≡ leb 0x8000 x
same_top x y h =
    let q : y / 0x8000 ≡ 0 = omega arith in
    let e : bit_xor x y / 0x8000 ≡ x / 0x8000 =
    xor_shr x y 15 ∙ ap (λ (n : ℕ). bit_xor (x / 0x8000) n) q ∙ xor_zero_r (x / 0x8000) in
    by_test x (bit_xor x y) (dec_le 0x8000 x) e
  where
    by_test : (x z : ℕ) → Dec (0x8000 ≤ x) → z / 0x8000 ≡ x / 0x8000 → leb 0x8000 z ≡ leb 0x8000 x
    by_test x z (yes p) e = le-leb 0x8000 z (omega arith) ∙ sym (le-leb 0x8000 x p)
    by_test x z (no p) e = lt-leb 0x8000 z (omega arith) ∙ sym (lt-leb 0x8000 x (omega arith))

abbrev feed : Bool → ℕ → ℕ
feed t r = cond t (bit_xor 0x1021 (moved r)) (moved r)

feed_linear : (t : Bool) (x y : ℕ) → y < 0x8000 → feed t (bit_xor x y) ≡ bit_xor (feed t x) (y * 2)
feed_linear true x y h =
    ap (λ (n : ℕ). bit_xor 0x1021 n) (moved_xor x y h) ∙ sym (xor_assoc 0x1021 (x * 2 % 0x10000) (y * 2))
feed_linear false x y h = moved_xor x y h

shift_linear : (x y : ℕ) → y < 0x8000 → shift (bit_xor x y) ≡ bit_xor (shift x) (y * 2)
unfolding shift
shift_linear x y h = ap (λ (t : Bool). feed t (bit_xor x y)) (same_top x y h) ∙ feed_linear (leb 0x8000 x) x y h

pub shifts_linear : (n x y : ℕ) → y * 2 ^ n < 0x10000 → shifts n (bit_xor x y) ≡ bit_xor (shifts n x) (y * 2 ^ n)
unfolding shifts
shifts_linear zero x y h = ap (λ (n : ℕ). bit_xor x n) (sym (mul-one y))
shifts_linear (suc n) x y h =
    let e : y * 2 ^ suc n ≡ y * 2 * 2 ^ n =
    ap (λ (m : ℕ). y * m) (pow-suc 2 n ∙ mul_comm (2 ^ n) 2) ∙ sym (mul_assoc y 2 (2 ^ n)) in
    let k : y * 2 * 1 ≤ y * 2 * 2 ^ n = mul-le-mul_left (y * 2) (pow_pos n) in
    ap (shifts n) (shift_linear x y (omega arith)) ∙ shifts_linear n (shift x) (y * 2) (omega arith)
    ∙ ap (λ (m : ℕ). bit_xor (shifts n (shift x)) m) (sym e)

-- ---- by a table: what a byte adds is the table's entry at the byte over the register's upper half

pub by_table : (r b : ℕ) → r < 0x10000
    → step r b ≡ bit_xor (r % 0x100 * 0x100) (shifts 8 (bit_xor b (r / 0x100) * 0x100))
unfolding step
by_table r b h =
    let lo : r % 0x100 < 0x100 = omega arith in
    let e : r ≡ r / 0x100 * 0x100 + r % 0x100 = omega arith in
    let t : ℕ = bit_xor b (r / 0x100) in
    let apart : bit_xor (b * 0x100) r ≡ bit_xor (t * 0x100) (r % 0x100) =
    ap₂ bit_xor (sym (add-zero (b * 0x100))) e ∙ xor_block 8 b (r / 0x100) 0 (r % 0x100) (omega arith) lo
    ∙ sym (xor_shifted t 8 (r % 0x100) lo) in
    ap (shifts 8) apart ∙ shifts_linear 8 (t * 0x100) (r % 0x100) (omega arith)
    ∙ xor_comm (shifts 8 (t * 0x100)) (r % 0x100 * 0x100)

-- ---- the register stays below 2 ^ 16

feed_lt : (t : Bool) (r : ℕ) → feed t r < 0x10000
feed_lt true r = xor_lt 16 0x1021 (r * 2 % 0x10000) (omega arith) (omega arith)
feed_lt false r = omega arith

pub shift_lt : (r : ℕ) → shift r < 0x10000
unfolding shift
shift_lt r = feed_lt (leb 0x8000 r) r

pub shifts_lt : (n r : ℕ) → r < 0x10000 → shifts n r < 0x10000
unfolding shifts
shifts_lt zero r h = h
shifts_lt (suc n) r h = shifts_lt n (shift r) (shift_lt r)

pub step_lt : (r b : ℕ) → step r b < 0x10000
unfolding step shifts
step_lt r b = shifts_lt 7 (shift (bit_xor (b * 0x100) r)) (shift_lt (bit_xor (b * 0x100) r))

pub crc_from-lt : (r : ℕ) (s : List ℕ) → r < 0x10000 → crc_from r s < 0x10000
unfolding crc_from
crc_from-lt r [] h = h
crc_from-lt r (b ∷ s) h = crc_from-lt (step r b) s (step_lt r b)
