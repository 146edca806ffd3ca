-- Decimal numbers as digits, out and in. Assumes nothing.
use Rattle.std.specs.Prelude.{leb, ltb, length, drop, replicate, ◌&&◌, cond, List, [], ◌∷◌, ◌++◌, ℕ, zero, suc, min}
use Rattle.std.specs.Prelude.{◌+◌, ◌-◌, ◌*◌, ◌/◌, ◌%◌, ◌^◌}
use Rattle.text.specs.Bytes.{byte}
use Rattle.text.specs.declared.Decimal.{Decimal}
use Rattle.text.specs.declared.Number.{Number}

-- ---- out

-- with so many digits at the most: below ten one digit; otherwise those of the tenth, and the last
unfoldable pub digits : ℕ → ℕ → List ℕ
digits zero n = []
digits (suc most) n = cond (ltb n 10) ((byte "0" + n) ∷ []) (digits most (n / 10) ++ ((byte "0" + n % 10) ∷ []))

-- a number has no more digits than it has units, and 0 has one
unfoldable pub decimal : ℕ → List ℕ
decimal n = digits (suc n) n

-- the digits at the end of twenty bytes, which are 0 before them
unfoldable pub decimal_of : ℕ → Decimal
decimal_of n =
    record {
      bytes = replicate (20 - length (decimal n)) 0 ++ decimal n;
      from = 20 - length (decimal n);
    }

-- those digits
abbrev pub digits_in : Decimal → List ℕ
digits_in d = drop d.from d.bytes

-- ---- in

-- how many digits stand in front
abbrev pub digit_run : List ℕ → ℕ
digit_run [] = 0
digit_run (c ∷ s) = cond (leb (byte "0") c && leb c (byte "9")) (suc (digit_run s)) 0

-- the number of the digits in front, behind digits that make v
abbrev pub number_from : ℕ → List ℕ → ℕ
number_from v [] = v
number_from v (c ∷ s) = cond (leb (byte "0") c && leb c (byte "9")) (number_from (v * 10 + (c - byte "0")) s) v

abbrev pub number : List ℕ → ℕ
number s = number_from 0 s

-- the number of the digits at a place, for a larger one the largest of 64 bits; and the place behind them
unfoldable pub number_at : List ℕ → ℕ → Number
number_at s at = record { number = min (number (drop at s)) (2 ^ 64 - 1); next = at + digit_run (drop at s) }
