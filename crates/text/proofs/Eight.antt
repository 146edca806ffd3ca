-- Digits read as eight bytes at once: all are judged by one sum, and what they are worth makes the number.
-- Assumes nothing.
use Rattle.std.proofs.Common.{Fits, Some, None, w8, w64}
use Rattle.std.specs.Int.{from_le_bytes, to_le_bytes}
use Rattle.std.proofs.lemmas.Nat.{le_bytes_8}
use borrow.Author.Tests.{eqb-true}
use lib.Arith.{digits_div, digits_mod}
use lib.Dec.{eqb}
use lib.ListN.{drop, get_or, length, length-drop, length-take, replicate, take}
use mathlib.Core.Bool.{Bool, ◌&&◌, and_comm, and-eq-true_iff, cond, false, true}
use mathlib.Core.List.{List, [], ◌∷◌, ◌++◌, append-nil}
use mathlib.Core.Path.{◌≡◌, ◌∙◌, ap, refl, sym}
use native.Mathlib.Nat.{add-mul, div-div-eq-div-mul, mul_assoc, mul_comm, pow-suc, suc-add, zero-add}
use native.Mathlib.Omega.{arith}
use Prim.Native.Nat.{ℕ, zero, suc, ◌+◌, ◌-◌, ◌*◌, ◌/◌, ◌%◌, ◌^◌, ◌≤◌, ◌<◌}
use Rattle.text.proofs.Abreast.{Made, added, alike, fits, pairs, repeated}
use Rattle.text.proofs.Digits.{below_from, reads_part}
use Rattle.text.proofs.Every.{at_each, every}
use Rattle.text.proofs.Put.{fitting}
use Rattle.text.proofs.Ranges.{mark_byte}
use Rattle.text.specs.Bytes.{byte, digit}
use Rattle.text.specs.Code.{apart, capital, in_each, is_hex, mark, of_each, weighed, worth}
use Rattle.text.specs.Hex.{digit_value, hex_from, read_hex}
use Rattle.text.specs.Put.{put, put_in}

-- ---- a byte

-- it is marked where it is in one of the two ranges
ranged : ℕ → Bool
ranged c = eqb (mark (digit c) + mark (capital c)) (mark (is_hex c))

-- and is then worth its value
valued : ℕ → Bool
valued c = cond (is_hex c) (eqb (worth c) (digit_value c)) true

right : ℕ → Bool
right c = ranged c && valued c

all_right : every right 256 ≡ true
unfolding capital digit digit_value is_hex ranged right valued worth
all_right = refl

right_at : (c : ℕ) → c < 256 → (ranged c ≡ true) × (valued c ≡ true)
unfolding right
right_at c h = (and-eq-true_iff (ranged c) (valued c)).0 (at_each right 256 c all_right h)

in_a_range : (c : ℕ) → c < 256 → mark (digit c) + mark (capital c) ≡ mark (is_hex c)
unfolding ranged
in_a_range c h = eqb-true _ _ (right_at c h).0

worth_is : (c : ℕ) → c < 256 → is_hex c ≡ true → worth c ≡ digit_value c
unfolding valued
worth_is c h e = eqb-true _ _ (rw e at (right_at c h).1)

-- ---- all of eight bytes are marked

mark_is : (b : Bool) → eqb (mark b) 128 ≡ b
mark_is true = refl
mark_is false = refl

all_marked : (p : ℕ → Bool) (k n : ℕ) → eqb (in_each (λ c. mark (p c)) k n) (in_each (λ c. 128) k n) ≡ of_each p k n
unfolding in_each of_each
all_marked p zero n = refl
all_marked p (suc k) n =
    pairs 256 _ _ (mark (p (n % 256))) 128 (mark_byte (p (n % 256))) (omega arith)
    ∙ rw (mark_is (p (n % 256)), all_marked p k (n / 256)) (and_comm (of_each p k (n / 256)) (p (n % 256)))

module _ (w a b : ℕ) (x : a ≡ in_each (λ c. mark (digit c)) 8 w) (y : b ≡ in_each (λ c. mark (capital c)) 8 w) where
  marks : Made w (λ c. mark (digit c) + mark (capital c)) (a + b)
  marks =
      added (record { is = x; bytes = λ c h. mark_byte (digit c) })
      (record { is = y; bytes = λ c h. mark_byte (capital c) })
      (λ c h. rw (in_a_range c h) (mark_byte (is_hex c)))

  pub marks_fit : a + b < 2 ^ 64
  marks_fit = fits marks

  pub judged : eqb (a + b) 0x8080808080808080 ≡ of_each is_hex 8 w
  judged =
      let all : a + b ≡ in_each (λ c. mark (is_hex c)) 8 w = marks.is ∙ alike _ _ in_a_range 8 w in
      let tops : 0x0101010101010101 * 128 ≡ in_each (λ c. 128) 8 w = (repeated w 128 (omega arith)).is in
      rw (all, tops) (all_marked is_hex 8 w)

-- ---- what eight digits are worth

worth_byte : (c : ℕ) → worth c < 256
unfolding worth
worth_byte c = by_test (capital c)
  where
    by_test : (b : Bool) → c % 16 + cond b 9 0 < 256
    by_test true = omega arith
    by_test false = omega arith

-- a digit's value in front of k others
in_front_lem : (k v d w : ℕ) → v * 16 ^ suc k + (d * 16 ^ k + w) ≡ (v * 16 + d) * 16 ^ k + w
in_front_lem k v d w =
    let more : v * 16 ^ suc k ≡ v * 16 * 16 ^ k =
    rw (pow-suc 16 k, mul_comm (16 ^ k) 16) (sym (mul_assoc v 16 (16 ^ k))) in
    let both : (v * 16 + d) * 16 ^ k ≡ v * 16 * 16 ^ k + d * 16 ^ k = add-mul (v * 16) d (16 ^ k) in
    omega (arith, more, both)

turn : (k v c w : ℕ) (cs : List ℕ) (b q : Bool) → c < 256 → is_hex c ≡ b
    → hex_from (v * 16 + digit_value c) cs ≡ cond q (Some ((v * 16 + digit_value c) * 16 ^ k + w)) None
    → hex_from v (c ∷ cs) ≡ cond (b && q) (Some (v * 16 ^ suc k + (worth c * 16 ^ k + w))) None
unfolding hex_from is_hex
turn k v c w cs true q h e rest = rw (e, worth_is c h e, in_front_lem k v (digit_value c) w) rest
turn k v c w cs false q h e rest = rw e refl

numbered : (k v n : ℕ)
    → hex_from v (apart k n)
    ≡ cond (of_each is_hex k n) (Some (v * 16 ^ k + weighed k (in_each worth k n))) None
unfolding apart hex_from in_each of_each weighed
numbered zero v n = ap (λ (x : ℕ). Some x) (omega arith)
numbered (suc k) v n =
    let c : ℕ = n % 256 in
    let rest : ℕ = in_each worth k (n / 256) in
    rw (digits_mod rest (worth_byte c), digits_div rest (worth_byte c))
    (turn k v c (weighed k rest) (apart k (n / 256)) (is_hex c) (of_each is_hex k (n / 256)) (omega arith) refl
    (numbered k (v * 16 + digit_value c) (n / 256)))

pub weigh_four : (v : ℕ)
    → v % 256 * 4096 + v / 256 % 256 * 256 + v / 65536 % 256 * 16 + v / 16777216 % 256 ≡ weighed 4 v
unfolding weighed
weigh_four v = rw (div-div-eq-div-mul v 256 256, div-div-eq-div-mul v 65536 256) (omega arith)

weigh_eight : (v : ℕ) → weighed 4 v * 65536 + weighed 4 (v / 2 ^ 32) ≡ weighed 8 v
unfolding weighed
weigh_eight v =
    let above : v / 2 ^ 32 ≡ v / 256 / 256 / 256 / 256 =
    sym
    (rw (div-div-eq-div-mul v 256 256, div-div-eq-div-mul v 65536 256) (div-div-eq-div-mul v 16777216 256)) in
    rw above (omega arith)

pub weighed_below : (v : ℕ) → weighed 4 v < 2 ^ 21
unfolding weighed
weighed_below v = omega arith

pub refuses : (w : ℕ) → of_each is_hex 8 w ≡ false → None ≡ hex_from 0 (apart 8 w)
refuses w h = sym (numbered 8 0 w ∙ rw h refl)

-- all are digits, worth v, of which x is the number of the first four, y that of the last
pub record Weighed (w v x y : ℕ) : Type 0 where
  pub digits : of_each is_hex 8 w ≡ true
  pub worth : v ≡ in_each worth 8 w
  pub first : x ≡ weighed 4 v
  pub last : y ≡ weighed 4 (v / 2 ^ 32)

module _ {w v x y : ℕ} (d : Weighed w v x y) where
  pub reads : Some (x * 65536 + y) ≡ hex_from 0 (apart 8 w)
  reads =
      let number : x * 65536 + y ≡ weighed 8 (in_each worth 8 w) =
      rw (d.first, d.last) (weigh_eight v ∙ ap (weighed 8) d.worth) in
      ap (λ (n : ℕ). Some n) number ∙ sym (numbered 8 0 w ∙ rw d.digits (rw (zero-add _) refl))

  pub short : x * 65536 + y < 2 ^ 32
  unfolding apart
  short = below_from (apart 8 w) 0 0 _ (omega arith) (sym reads)

-- ---- a word's bytes, and those of two words

pub four_apart : (a b c d : ℕ) → a < 256 → b < 256 → c < 256 → d < 256
    → apart 4 (a + b * 256 + c * 65536 + d * 16777216) ≡ a ∷ b ∷ c ∷ d ∷ []
unfolding apart
four_apart a b c d h i j k =
    let once : (a + b * 256 + c * 65536 + d * 16777216) / 256 ≡ b + c * 256 + d * 65536 = omega arith in
    let twice : (b + c * 256 + d * 65536) / 256 ≡ c + d * 256 = omega arith in
    let thrice : (c + d * 256) / 256 ≡ d = omega arith in
    let first : (a + b * 256 + c * 65536 + d * 16777216) % 256 ≡ a = omega arith in
    let second : (b + c * 256 + d * 65536) % 256 ≡ b = omega arith in
    let third : (c + d * 256) % 256 ≡ c = omega arith in
    let fourth : d % 256 ≡ d = omega arith in
    rw (once, twice, thrice, first, second, third, fourth) refl

apart_behind : (j k n m : ℕ) → n < 256 ^ j → apart (j + k) (n + m * 256 ^ j) ≡ apart j n ++ apart k m
unfolding apart
apart_behind zero k n m h =
    let none : n + m * 1 ≡ m = omega arith in
    rw (zero-add k, none) refl
apart_behind (suc j) k n m h =
    let up : m * 256 ^ suc j ≡ m * 256 ^ j * 256 = rw (pow-suc 256 j) (sym (mul_assoc m (256 ^ j) 256)) in
    let low : n / 256 < 256 ^ j = omega (arith, pow-suc 256 j) in
    let rest : (n + m * 256 ^ suc j) / 256 ≡ n / 256 + m * 256 ^ j = omega (arith, up) in
    let last : (n + m * 256 ^ suc j) % 256 ≡ n % 256 = omega (arith, up) in
    rw (suc-add j k, rest, last) (ap (λ (cs : List ℕ). n % 256 ∷ cs) (apart_behind j k (n / 256) m low))

pub eight_apart : (n m : ℕ) → n < 2 ^ 32 → apart 8 (n + m * 2 ^ 32) ≡ apart 4 n ++ apart 4 m
eight_apart n m h = apart_behind 4 4 n m h

-- ---- as the library reads them

bytes_of : (n : ℕ) → apart 8 n ≡ to_le_bytes w64 n
unfolding apart
bytes_of n =
    rw (
      div-div-eq-div-mul n 256 256,
      div-div-eq-div-mul n 65536 256,
      div-div-eq-div-mul n 16777216 256,
      div-div-eq-div-mul n (2 ^ 32) 256,
      div-div-eq-div-mul n (2 ^ 40) 256,
      div-div-eq-div-mul n (2 ^ 48) 256,
    ) refl

pub apart_as : (bs : List ℕ) (n : ℕ) → length bs ≡ 8 → ((i : ℕ) → Fits w8 (get_or bs i 0)) → n ≡ from_le_bytes w64 bs
    → apart 8 n ≡ bs
apart_as bs n long small e = bytes_of n ∙ le_bytes_8 bs n long (λ i. (small i).fits) e

-- ---- the digits at a place, behind zeros

zero_front : (cs : List ℕ) → hex_from 0 (byte "0" ∷ cs) ≡ hex_from 0 cs
unfolding digit_value hex_from
zero_front cs = refl

zeros_front : (k m : ℕ) (cs : List ℕ) → hex_from 0 (take k (replicate m (byte "0")) ++ cs) ≡ hex_from 0 cs
zeros_front zero m cs = refl
zeros_front (suc k) zero cs = refl
zeros_front (suc k) (suc m) cs = zero_front _ ∙ zeros_front k m cs

pub read_behind : (s : List ℕ) (at n : ℕ) → n ≤ 7 → at + n ≤ length s
    → hex_from 0 (put_in (replicate 8 (byte "0")) (8 - n) (take (at + n - at) (drop at s))) ≡ read_hex n s at
unfolding put
read_behind s at n h k =
    let few : at + n - at ≡ n = omega arith in
    let vs : List ℕ = take n (drop at s) in
    let long : length vs ≡ n = omega (arith, length-take n (drop at s), length-drop at s) in
    let end : 8 - n + length vs ≡ 8 = omega (arith, long) in
    let laid : put_in (replicate 8 (byte "0")) (8 - n) vs ≡ take (8 - n) (replicate 8 (byte "0")) ++ vs =
    fitting (replicate 8 (byte "0")) vs (8 - n) (omega (arith, long)) ∙ rw end (append-nil _) in
    rw (few, laid) (zeros_front (8 - n) 8 vs ∙ sym (reads_part s at n h k))
