-- Sets of names as the bits of a word. Assumes nothing.
use Prim.Native.Nat.{ℕ, zero, suc, ◌+◌, ◌*◌, ◌/◌, ◌%◌, ◌^◌, ◌≤◌, ◌<◌, min, max}
use mathlib.Core.Path.{◌≡◌, refl, sym, ap, ap₂, ◌∙◌, subst}
use mathlib.Core.Bool.{Bool, true, false, not, ◌&&◌, ◌||◌}
use mathlib.Core.List.{[], ◌∷◌}
use native.Mathlib.Omega.{arith}
use native.Mathlib.Nat.{pow-zero, pow-suc, mod-eq_of_lt, max-zero, mod-lt, div-one, one-mul, zero-lt-suc}
use native.Mathlib.Nat.{not-suc-le-zero, le_of_suc-le-suc}
use lib.Dec.{eqb}
use lib.ListN.{length, get_or, set, drop, get_or-eq_default}
use lib.Pow.{shr-shr, pow-lt}
use lib.Bits.{bit_and, bit_or, and_step, or_step, or_zero_r, shifted_half, shifted_even}
use borrow.Author.Tests.{eq-eqb, ne_eqb, eqb-true, eqb-false}
use Rattle.table.specs.ReadWrite.{Names, has}
use Rattle.sets.specs.Names.{both, either, outside, bits_of, set_of, NameSet, names_of, nothing, everything}

pub none_there : set_of 0 ≡ nothing
unfolding set_of bits_of
none_there = refl

pub all_there : set_of 4294967295 ≡ everything
unfolding set_of bits_of
all_there = refl

pub length-bits : (n w : ℕ) → length (bits_of n w) ≡ n
unfolding bits_of
length-bits zero w = refl
length-bits (suc n) w = ap suc (length-bits n (w / 2))

pub length-names : (w : ℕ) → length (set_of w) ≡ 32
unfolding set_of
length-names w = length-bits 32 w

-- ---- the lowest bit and the others

low_digit : (r c : ℕ) → c < 2 → (r * 2 + c) % 2 ≡ c
low_digit r c h = omega arith

high_digits : (r c : ℕ) → c < 2 → (r * 2 + c) / 2 ≡ r
high_digits r c h = omega arith

-- a word by its lowest bit and the others
split_bits : (m r c : ℕ) (w : ℕ) → w ≡ r * 2 + c → c < 2 → bits_of (suc m) w ≡ eqb c 1 ∷ bits_of m r
unfolding bits_of
split_bits m r c w e h =
    ap₂ (λ (x : Bool) (l : Names). x ∷ l)
    (ap (λ (v : ℕ). eqb (v % 2) 1) e ∙ ap (λ (v : ℕ). eqb v 1) (low_digit r c h))
    (ap (λ (v : ℕ). bits_of m (v / 2)) e ∙ ap (bits_of m) (high_digits r c h))

bit : (w : ℕ) → w % 2 < 2
bit w = mod-lt w (zero-lt-suc 1)

-- ---- a name in the set

halved : (w n : ℕ) → w / 2 / 2 ^ n ≡ w / 2 ^ suc n
halved w n = shr-shr w 1 n ∙ ap (λ (k : ℕ). w / 2 ^ k) (omega arith)

bit_at : (m w n : ℕ) → n < m → get_or (bits_of m w) n false ≡ eqb (w / 2 ^ n % 2) 1
unfolding bits_of
bit_at zero w n h = absurd (not-suc-le-zero h)
bit_at (suc m) w zero h =
    ap (λ (x : ℕ). eqb (x % 2) 1) (sym (div-one w) ∙ ap (λ (k : ℕ). w / k) (sym (pow-zero 2)))
bit_at (suc m) w (suc n) h =
    bit_at m (w / 2) n (le_of_suc-le-suc h) ∙ ap (λ (x : ℕ). eqb (x % 2) 1) (halved w n)

pub there : (w n : ℕ) → n < 32 → eqb (w / 2 ^ n % 2) 1 ≡ has (set_of w) n
unfolding set_of
there w n h = sym (bit_at 32 w n h)

pub not_there : (w n : ℕ) → 32 ≤ n → false ≡ has (set_of w) n
not_there w n h = sym (get_or-eq_default (set_of w) _ (omega (arith, length-names w)))

-- ---- two sets, bit by bit

-- of two bits the lower is set where both are, the higher where either is
lower : (a b : ℕ) → a < 2 → b < 2 → (eqb (min a b) 1 ≡ (eqb a 1 && eqb b 1)) × (min a b < 2)
lower zero zero h k = (refl, omega arith)
lower zero (suc zero) h k = (refl, omega arith)
lower (suc zero) zero h k = (refl, omega arith)
lower (suc zero) (suc zero) h k = (refl, omega arith)
lower zero (suc (suc b)) h k = absurd (omega arith)
lower (suc zero) (suc (suc b)) h k = absurd (omega arith)
lower (suc (suc a)) b h k = absurd (omega arith)

higher : (a b : ℕ) → a < 2 → b < 2 → (eqb (max a b) 1 ≡ (eqb a 1 || eqb b 1)) × (max a b < 2)
higher zero zero h k = (refl, omega arith)
higher zero (suc zero) h k = (refl, omega arith)
higher (suc zero) zero h k = (refl, omega arith)
higher (suc zero) (suc zero) h k = (refl, omega arith)
higher zero (suc (suc b)) h k = absurd (omega arith)
higher (suc zero) (suc (suc b)) h k = absurd (omega arith)
higher (suc (suc a)) b h k = absurd (omega arith)

both_bits : (m a b : ℕ) → bits_of m (bit_and a b) ≡ both (bits_of m a) (bits_of m b)
unfolding bits_of
both_bits zero a b = refl
both_bits (suc m) a b =
    let d = lower (a % 2) (b % 2) (bit a) (bit b) in
    split_bits m (bit_and (a / 2) (b / 2)) (min (a % 2) (b % 2)) (bit_and a b) (and_step a b) d.1
    ∙ ap₂ (λ (x : Bool) (l : Names). x ∷ l) d.0 (both_bits m (a / 2) (b / 2))

pub both_names : (a b : ℕ) → set_of (bit_and a b) ≡ both (set_of a) (set_of b)
unfolding set_of
both_names a b = both_bits 32 a b

either_bits : (m a b : ℕ) → bits_of m (bit_or a b) ≡ either (bits_of m a) (bits_of m b)
unfolding bits_of
either_bits zero a b = refl
either_bits (suc m) a b =
    let d = higher (a % 2) (b % 2) (bit a) (bit b) in
    split_bits m (bit_or (a / 2) (b / 2)) (max (a % 2) (b % 2)) (bit_or a b) (or_step a b) d.1
    ∙ ap₂ (λ (x : Bool) (l : Names). x ∷ l) d.0 (either_bits m (a / 2) (b / 2))

pub either_names : (a b : ℕ) → set_of (bit_or a b) ≡ either (set_of a) (set_of b)
unfolding set_of
either_names a b = either_bits 32 a b

-- ---- a name more

put_bits : (m w n : ℕ) → n < m → bits_of m (bit_or w (1 * 2 ^ n)) ≡ set (bits_of m w) n true
unfolding bits_of
put_bits zero w n h = absurd (not-suc-le-zero h)
put_bits (suc m) w zero h =
    split_bits m (w / 2) 1 (bit_or w (1 * 2 ^ 0))
    (or_step w 1 ∙ ap₂ (λ (x y : ℕ). x * 2 + y) (or_zero_r (w / 2)) (omega (arith, bit w)))
    (omega arith)
put_bits (suc m) w (suc n) h =
    split_bits m (bit_or (w / 2) (1 * 2 ^ n)) (w % 2) (bit_or w (1 * 2 ^ suc n))
    (or_step w (1 * 2 ^ suc n)
    ∙ ap₂ (λ (x y : ℕ). bit_or (w / 2) x * 2 + max (w % 2) y) (shifted_half 1 n) (shifted_even 1 n)
    ∙ ap (λ (y : ℕ). bit_or (w / 2) (1 * 2 ^ n) * 2 + y) (max-zero (w % 2)))
    (bit w)
    ∙ ap (λ (l : Names). eqb (w % 2) 1 ∷ l) (put_bits m (w / 2) n (le_of_suc-le-suc h))

pub put_name : (w n : ℕ) → n < 32 → set_of (bit_or w (1 * 2 ^ n % 2 ^ 32)) ≡ set (set_of w) n true
unfolding set_of
put_name w n h =
    let e : 1 * 2 ^ n < 2 ^ 32 = subst (λ (x : ℕ). x < 2 ^ 32) (sym (one-mul (2 ^ n))) (pow-lt h) in
    ap (λ (x : ℕ). bits_of 32 (bit_or w x)) (mod-eq_of_lt e) ∙ put_bits 32 w n h

set_beyond : (l : Names) (n : ℕ) (b : Bool) → length l ≤ n → l ≡ set l n b
set_beyond [] n b h = refl
set_beyond (x ∷ l) zero b h = absurd (not-suc-le-zero h)
set_beyond (x ∷ l) (suc n) b h = ap (λ (t : Names). x ∷ t) (set_beyond l n b (le_of_suc-le-suc h))

pub put_none : (w n : ℕ) → 32 ≤ n → set_of w ≡ set (set_of w) n true
put_none w n h = set_beyond (set_of w) n true (omega (arith, length-names w))

-- ---- a name of the first set is not in the second: the two do not have in common what the first has

-- two words of one lowest bit
same_low : (x y c : ℕ) → eqb (x * 2 + c) (y * 2 + c) ≡ eqb x y
same_low x y c = by (eqb x y) refl
  where
    by : (b : Bool) → eqb x y ≡ b → eqb (x * 2 + c) (y * 2 + c) ≡ b
    by true e = eq-eqb (x * 2 + c) (y * 2 + c) (ap (λ (z : ℕ). z * 2 + c) (eqb-true x y e))
    by false e = ne_eqb (x * 2 + c) (y * 2 + c) (λ q. eqb-false x y e (omega arith))

-- r in common of a and another word, with lowest bits p and q
outside_step : (r a p q : ℕ) (o : Bool) → p < 2 → q < 2 → not (eqb r a) ≡ o
    → not (eqb (r * 2 + min p q) (a * 2 + p)) ≡ (eqb p 1 && not (eqb q 1) || o)
outside_step r a zero zero o h k e = ap not (same_low r a 0) ∙ e
outside_step r a zero (suc zero) o h k e = ap not (same_low r a 0) ∙ e
outside_step r a (suc zero) zero o h k e = ap not (ne_eqb (r * 2 + 0) (a * 2 + 1) (λ d. omega arith))
outside_step r a (suc zero) (suc zero) o h k e = ap not (same_low r a 1) ∙ e
outside_step r a zero (suc (suc q)) o h k e = absurd (omega arith)
outside_step r a (suc zero) (suc (suc q)) o h k e = absurd (omega arith)
outside_step r a (suc (suc p)) q o h k e = absurd (omega arith)

whole : (a : ℕ) → a ≡ a / 2 * 2 + a % 2
whole a = omega arith

half_below : (m a : ℕ) → a < 2 ^ suc m → a / 2 < 2 ^ m
half_below m a h = omega (arith, rw (pow-suc 2 m) at h)

outside_bits : (m a b : ℕ) → a < 2 ^ m → not (eqb (bit_and a b) a) ≡ outside (bits_of m a) (bits_of m b)
unfolding bits_of
outside_bits zero a b h =
    let z : a ≡ 0 = omega (arith, rw (pow-zero 2) at h) in
    rw z refl
outside_bits (suc m) a b h =
    ap₂ (λ (x y : ℕ). not (eqb x y)) (and_step a b) (whole a)
    ∙ outside_step (bit_and (a / 2) (b / 2)) (a / 2) (a % 2) (b % 2) _ (bit a) (bit b)
    (outside_bits m (a / 2) (b / 2) (half_below m a h))

pub outside_names : (a b : ℕ) → a < 2 ^ 32 → not (eqb (bit_and a b) a) ≡ outside (set_of a) (set_of b)
unfolding set_of
outside_names a b h = outside_bits 32 a b h

-- ---- no two words are one set

same_bit : (p q : ℕ) → p < 2 → q < 2 → eqb p 1 ≡ eqb q 1 → p ≡ q
same_bit zero zero h k e = refl
same_bit zero (suc zero) h k e = absurd (eqb-false 0 1 refl (eqb-true 0 1 e))
same_bit (suc zero) zero h k e = absurd (eqb-false 0 1 refl (eqb-true 0 1 (sym e)))
same_bit (suc zero) (suc zero) h k e = refl
same_bit zero (suc (suc q)) h k e = absurd (omega arith)
same_bit (suc zero) (suc (suc q)) h k e = absurd (omega arith)
same_bit (suc (suc p)) q h k e = absurd (omega arith)

same_bits : (m x y : ℕ) → x < 2 ^ m → y < 2 ^ m → bits_of m x ≡ bits_of m y → x ≡ y
unfolding bits_of
same_bits zero x y h k e = omega (arith, rw (pow-zero 2) at h, rw (pow-zero 2) at k)
same_bits (suc m) x y h k e =
    let low : x % 2 ≡ y % 2 = same_bit (x % 2) (y % 2) (bit x) (bit y) (ap (λ (l : Names). get_or l 0 false) e) in
    let high : x / 2 ≡ y / 2 = same_bits m (x / 2) (y / 2) (half_below m x h) (half_below m y k) (ap (drop 1) e) in
    omega arith

same_word : {x y : ℕ} → x < 2 ^ 32 → y < 2 ^ 32 → set_of x ≡ set_of y → x ≡ y
unfolding set_of
same_word {x} {y} h k e = same_bits 32 x y h k e

pub one_word : (x y : NameSet) → x.0 < 2 ^ 32 → y.0 < 2 ^ 32 → names_of x ≡ names_of y → x ≡ y
one_word x y h k e = λ i. record { 0 = (same_word h k e) i }

-- what the operations on sets cite, for their attributes
pub ruleset sets =
    (none_there, all_there, there, not_there, put_name, put_none, both_names, either_names, outside_names)
