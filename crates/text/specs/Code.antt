-- What only the code's shape needs: bytes side by side in a number, the first the lowest. Assumes nothing.
use Rattle.std.specs.Prelude.{Option, Some, None}
use Rattle.std.specs.Prelude.{leb, ltb, Bool, ◌&&◌, cond, true, List, [], ◌∷◌, ℕ, zero, suc, ◌+◌, ◌*◌, ◌/◌, ◌%◌, ◌^◌}
use Rattle.text.specs.Bytes.{byte}
use Rattle.text.specs.Hex.{digit_value}

-- the k lowest bytes of n
unfoldable pub apart : ℕ → ℕ → List ℕ
apart zero n = []
apart (suc k) n = n % 256 ∷ apart k (n / 256)

-- what f makes of each of them, in its place
unfoldable pub in_each : (ℕ → ℕ) → ℕ → ℕ → ℕ
in_each f zero n = 0
in_each f (suc k) n = in_each f k (n / 256) * 256 + f (n % 256)

-- whether p holds of each of them
unfoldable pub of_each : (ℕ → Bool) → ℕ → ℕ → Bool
of_each p zero n = true
of_each p (suc k) n = p (n % 256) && of_each p k (n / 256)

-- their number, if they are digits' values
unfoldable pub weighed : ℕ → ℕ → ℕ
weighed zero n = 0
weighed (suc k) n = n % 256 * 16 ^ k + weighed k (n / 256)

-- a byte is marked by its top bit
abbrev pub mark : Bool → ℕ
mark b = cond b 128 0

unfoldable pub is_hex : ℕ → Bool
is_hex c = ltb (digit_value c) 16

-- the value of a digit
unfoldable pub value_in : ℕ → Option ℕ
value_in c = cond (is_hex c) (Some (digit_value c)) None

unfoldable pub capital : ℕ → Bool
capital c = leb (byte "A") c && leb c (byte "F")

-- what a digit is worth: its four lowest bits, and nine more for a letter
unfoldable pub worth : ℕ → ℕ
worth c = c % 16 + cond (capital c) 9 0
