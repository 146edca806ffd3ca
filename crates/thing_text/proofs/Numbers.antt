-- Numbers in sixteen digits.
use lib.ListN.{drop}
use mathlib.Core.List.{List, ◌++◌}
use mathlib.Core.Path.{◌≡◌, refl, ap, ◌∙◌}
use native.Mathlib.Nat.{mod-lt, mod-eq_of_lt, div-add-mod'}
use native.Mathlib.Omega.{arith}
use Prim.Native.Nat.{ℕ, ◌+◌, ◌*◌, ◌/◌, ◌%◌, ◌<◌}
use Rattle.text.proofs.Digits.{hex4_back}
use Rattle.text.specs.Hex.{hex4}
use Rattle.thing_text.specs.Read.{hex_value, read_hex4, read_hex16}
use Rattle.thing_text.specs.Thing.{hex16}

pub four_read : (v : ℕ) (s : List ℕ) → v < 65536 → read_hex4 (hex4 v ++ s) ≡ v
unfolding hex4
four_read v s h = ap hex_value (hex4_back v h)

pub four_past : (v : ℕ) (s : List ℕ) → drop 4 (hex4 v ++ s) ≡ s
unfolding hex4
four_past v s = refl

low : (n : ℕ) → n % 65536 < 65536
low n = mod-lt n (omega arith)

whole_again : (n : ℕ) → n / 65536 * 65536 + n % 65536 ≡ n
whole_again n = div-add-mod' n 65536

below_word : (n m : ℕ) → n < m * 65536 → n / 65536 < m
below_word n m h = omega (arith, whole_again n)

four_words : (n : ℕ) → n < 18446744073709551616
    → let a = n / 65536 in
    let b = a / 65536 in
    ((b / 65536 % 65536 * 65536 + b % 65536) * 65536 + a % 65536) * 65536 + n % 65536 ≡ n
four_words n h =
    let a = n / 65536 in
    let b = a / 65536 in
    let c = b / 65536 in
    let p : a < 281474976710656 = below_word n 281474976710656 h in
    let q : b < 4294967296 = below_word a 4294967296 p in
    let s : c < 65536 = below_word b 65536 q in
    rw (mod-eq_of_lt s, whole_again b, whole_again a) (whole_again n)

same_words : (p q r s a b c d : ℕ) → p ≡ a → q ≡ b → r ≡ c → s ≡ d
    → ((p * 65536 + q) * 65536 + r) * 65536 + s ≡ ((a * 65536 + b) * 65536 + c) * 65536 + d
same_words p q r s a b c d e f g h = rw (e, f, g, h)

pub sixteen_read : (n : ℕ) → n < 18446744073709551616 → read_hex16 (hex16 n) ≡ n
unfolding hex16 hex4
sixteen_read n h =
    same_words (read_hex4 (hex16 n)) (read_hex4 (drop 4 (hex16 n))) (read_hex4 (drop 8 (hex16 n)))
    (read_hex4 (drop 12 (hex16 n)))
    (n / 65536 / 65536 / 65536 % 65536) (n / 65536 / 65536 % 65536) (n / 65536 % 65536) (n % 65536)
    (ap hex_value (hex4_back (n / 65536 / 65536 / 65536 % 65536) (low (n / 65536 / 65536 / 65536))))
    (ap hex_value (hex4_back (n / 65536 / 65536 % 65536) (low (n / 65536 / 65536))))
    (ap hex_value (hex4_back (n / 65536 % 65536) (low (n / 65536))))
    (ap hex_value (hex4_back (n % 65536) (low n)))
    ∙ four_words n h
