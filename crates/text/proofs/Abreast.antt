-- Bytes side by side in a number: what is done to the number is done to each of its bytes. Assumes nothing.
use borrow.Author.Tests.{eq-eqb, eqb-false, eqb-true, ne_eqb}
use lib.Arith.{digits_div, digits_mod}
use lib.Bits.{and_block, and_lt, bit_and, bit_xor, xor_block, xor_lt}
use lib.Dec.{eqb}
use mathlib.Core.Bool.{Bool, ◌&&◌, false, true}
use mathlib.Core.Path.{◌≡◌, ◌∙◌, ap, refl, sym}
use native.Mathlib.Nat.{add-mul, mul_assoc, mul_right_comm, pow-suc, suc-add, zero-add, zero-mul}
use native.Mathlib.Omega.{arith}
use Prim.Native.Nat.{ℕ, zero, suc, ◌+◌, ◌*◌, ◌/◌, ◌%◌, ◌^◌, ◌<◌}
use Rattle.text.proofs.Every.{at_each, every}
use Rattle.text.specs.Code.{in_each}

-- ---- what f makes of each byte of a number

-- a byte of each byte
abbrev pub Bytes : (ℕ → ℕ) → Type 0
Bytes f = (c : ℕ) → c < 256 → f c < 256

pub below : (f : ℕ → ℕ) → Bytes f → (k n : ℕ) → in_each f k n < 256 ^ k
unfolding in_each
below f h zero n = omega arith
below f h (suc k) n = omega (arith, h (n % 256) (omega arith), below f h k (n / 256), pow-suc 256 k)

pub alike : (f g : ℕ → ℕ) → ((c : ℕ) → c < 256 → f c ≡ g c) → (k n : ℕ) → in_each f k n ≡ in_each g k n
unfolding in_each
alike f g h zero n = refl
alike f g h (suc k) n = rw (alike f g h k (n / 256), h (n % 256) (omega arith)) refl

itself : (k n : ℕ) → n < 256 ^ k → n ≡ in_each (λ c. c) k n
unfolding in_each
itself zero n h = omega arith
itself (suc k) n h = omega (arith, itself k (n / 256) (omega (arith, pow-suc 256 k)))

pub times : (f : ℕ → ℕ) (t k n : ℕ) → in_each f k n * t ≡ in_each (λ c. f c * t) k n
unfolding in_each
times f t zero n = zero-mul t
times f t (suc k) n =
    let rest : ℕ = in_each f k (n / 256) in
    add-mul (rest * 256) (f (n % 256)) t ∙ rw (mul_right_comm rest 256 t, times f t k (n / 256)) refl

-- the bytes of m stand behind those of n
pub behind : (f : ℕ → ℕ) (j k n m : ℕ) → m < 256 ^ j
    → in_each f (j + k) (n * 256 ^ j + m) ≡ in_each f k n * 256 ^ j + in_each f j m
unfolding in_each
behind f zero k n m h =
    let none : n * 1 + m ≡ n = omega arith in
    rw (zero-add k, none) (omega arith)
behind f (suc j) k n m h =
    let power : 256 ^ suc j ≡ 256 ^ j * 256 = pow-suc 256 j in
    let up : (x : ℕ) → x * 256 ^ suc j ≡ x * 256 ^ j * 256 = λ x. rw power (sym (mul_assoc x (256 ^ j) 256)) in
    let rest : (n * 256 ^ suc j + m) / 256 ≡ n * 256 ^ j + m / 256 = omega (arith, up n) in
    let last : (n * 256 ^ suc j + m) % 256 ≡ m % 256 = omega (arith, up n) in
    rw (suc-add j k, rest, last, behind f j k n (m / 256) (omega arith)) (omega (arith, up (in_each f k n)))

-- numbers in front of numbers below b are equal where both are
pub pairs : (b n m x y : ℕ) → x < b → y < b → eqb (n * b + x) (m * b + y) ≡ (eqb n m && eqb x y)
pairs b n m x y h k = by_tests (eqb n m) refl (eqb x y) refl
  where
    by_tests : (p : Bool) → eqb n m ≡ p → (q : Bool) → eqb x y ≡ q → eqb (n * b + x) (m * b + y) ≡ (p && q)
    by_tests true e true f = eq-eqb (n * b + x) (m * b + y) (rw (eqb-true n m e, eqb-true x y f) refl)
    by_tests true e false f =
        ne_eqb (n * b + x) (m * b + y)
        (λ z. eqb-false x y f (sym (digits_mod n h) ∙ ap (λ (a : ℕ). a % b) z ∙ digits_mod m k))
    by_tests false e q f =
        ne_eqb (n * b + x) (m * b + y)
        (λ z. eqb-false n m e (sym (digits_div n h) ∙ ap (λ (a : ℕ). a / b) z ∙ digits_div m k))

-- ---- an operation on numbers that goes byte by byte

record Bytewise (op : ℕ → ℕ → ℕ) : Type 0 where
  none : op 0 0 ≡ 0
  more : (n m x y : ℕ) → x < 256 → y < 256 → op (n * 256 + x) (m * 256 + y) ≡ op n m * 256 + op x y

in_each_lem : {op : ℕ → ℕ → ℕ} → Bytewise op → (f g : ℕ → ℕ) → Bytes f → Bytes g
    → (k n : ℕ) → op (in_each f k n) (in_each g k n) ≡ in_each (λ c. op (f c) (g c)) k n
unfolding in_each
in_each_lem o f g p q zero n = o.none
in_each_lem o f g p q (suc k) n =
    let c : ℕ = n % 256 in
    let h : c < 256 = omega arith in
    o.more (in_each f k (n / 256)) (in_each g k (n / 256)) (f c) (g c) (p c h) (q c h)
    ∙ rw (in_each_lem o f g p q k (n / 256)) refl

-- ---- eight bytes

-- r has in each place the byte that f makes of w's
pub record Made (w : ℕ) (f : ℕ → ℕ) (r : ℕ) : Type 0 where
  pub is : r ≡ in_each f 8 w
  pub bytes : Bytes f

pub fits : {w r : ℕ} {f : ℕ → ℕ} → Made w f r → r < 2 ^ 64
fits {w} {f = f} x = rw x.is (below f x.bytes 8 w)

pub whole : (w : ℕ) → w < 2 ^ 64 → Made w (λ c. c) w
whole w h = record { is = itself 8 w h; bytes = λ c k. k }

pub repeated : (w a : ℕ) → a < 256 → Made w (λ c. a) (0x0101010101010101 * a)
unfolding in_each
repeated w a h = record { is = omega arith; bytes = λ c k. h }

by : {op : ℕ → ℕ → ℕ} {w n m : ℕ} {f g : ℕ → ℕ} → Bytewise op → Made w f n → Made w g m
    → Bytes (λ c. op (f c) (g c)) → Made w (λ c. op (f c) (g c)) (op n m)
by {w = w} {f = f} {g = g} o x y b =
    record { is = rw (x.is, y.is) (in_each_lem o f g x.bytes y.bytes 8 w); bytes = b }

pub anded : {w n m : ℕ} {f g : ℕ → ℕ} → Made w f n → Made w g m → Made w (λ c. bit_and (f c) (g c)) (bit_and n m)
anded x y =
    by (record { none = refl; more = and_block 8 }) x y (λ c h. and_lt 8 _ _ (x.bytes c h) (y.bytes c h))

pub xored : {w n m : ℕ} {f g : ℕ → ℕ} → Made w f n → Made w g m → Made w (λ c. bit_xor (f c) (g c)) (bit_xor n m)
xored x y =
    by (record { none = refl; more = xor_block 8 }) x y (λ c h. xor_lt 8 _ _ (x.bytes c h) (y.bytes c h))

pub added : {w n m : ℕ} {f g : ℕ → ℕ} → Made w f n → Made w g m → Bytes (λ c. f c + g c)
    → Made w (λ c. f c + g c) (n + m)
added x y b = by {op = ◌+◌} (record { none = refl; more = λ n m x y h k. omega arith }) x y b

-- one test of every byte
pub same : {w r : ℕ} {f : ℕ → ℕ} (g : ℕ → ℕ) → Made w f r → every (λ c. eqb (f c) (g c)) 256 ≡ true → r ≡ in_each g 8 w
same {w} {f = f} g x t =
    x.is ∙ alike f g (λ c h. eqb-true (f c) (g c) (at_each (λ b. eqb (f b) (g b)) 256 c t h)) 8 w
