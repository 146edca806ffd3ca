-- Laws of `contains`: by a loop, in joined lists, in digits. Assumes nothing.
use Rattle.std.proofs.Common.{◌≡◌, ℕ, zero, suc, ◌+◌, ◌-◌, ◌/◌, Bool, true, false, cond, ◌||◌, eqb, ltb}
use Rattle.std.proofs.Common.{List, [], ◌∷◌, ◌++◌, refl, ap, ◌∙◌, ap₂, arith}
use Rattle.std.proofs.Common.{ne_eqb}
use Rattle.std.specs.List.{list_any}
use Rattle.frame.specs.Frame.{contains}
use Rattle.text.specs.Bytes.{byte}
use Rattle.text.specs.Hex.{digit_of, hex2, hex4, hex_of}

-- ---- as the library tells it

pub is_any : (c : ℕ) (s : List ℕ) → list_any (λ x. eqb x c) s ≡ contains c s
unfolding contains
is_any c [] = refl
is_any c (x ∷ s) = ap (λ (b : Bool). eqb x c || b) (is_any c s)

-- ---- in joined lists, and in digits

pub in_joined : (c : ℕ) (s t : List ℕ) → contains c (s ++ t) ≡ contains c s || contains c t
unfolding contains
in_joined c [] t = refl
in_joined c (x ∷ s) t = by_test (eqb x c) (in_joined c s t)
  where
    by_test : (b : Bool) → contains c (s ++ t) ≡ contains c s || contains c t
        → b || contains c (s ++ t) ≡ b || contains c s || contains c t
    by_test true ih = refl
    by_test false ih = ih

pub neither : (c : ℕ) (s t : List ℕ) → contains c s ≡ false → contains c t ≡ false → contains c (s ++ t) ≡ false
neither c s t h k = in_joined c s t ∙ ap₂ (λ (x y : Bool). x || y) h k

-- no digit is a newline
a_digit : (n : ℕ) → eqb (digit_of n) (byte "\n") ≡ false
unfolding digit_of
a_digit n = by_test (ltb n 10)
  where
    by_test : (b : Bool) → eqb (cond b (byte "0" + n) (byte "A" + (n - 10))) (byte "\n") ≡ false
    by_test true = ne_eqb (byte "0" + n) (byte "\n") (λ e. omega arith)
    by_test false = ne_eqb (byte "A" + (n - 10)) (byte "\n") (λ e. omega arith)

in_hex : (n v : ℕ) → contains (byte "\n") (hex_of n v) ≡ false
unfolding contains hex_of
in_hex zero v = refl
in_hex (suc n) v = neither (byte "\n") (hex_of n (v / 16)) _ (in_hex n (v / 16)) (simp a_digit)

pub in_hex2 : (v : ℕ) → contains (byte "\n") (hex2 v) ≡ false
unfolding hex2
in_hex2 v = in_hex 2 v

pub in_hex4 : (v : ℕ) → contains (byte "\n") (hex4 v) ≡ false
unfolding hex4
in_hex4 v = in_hex 4 v
