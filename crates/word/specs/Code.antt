-- What only the code's shape needs: rows as numbers of eight bytes.
use Rattle.std.specs.Prelude.{Option}
use Rattle.std.specs.Prelude.{eqb, length, take, drop, replicate, Bool, ◌&&◌, List, [], ◌∷◌, ◌++◌, ◌≡◌, ℕ, ◌+◌, ◌*◌}
use Rattle.std.specs.Prelude.{◌%◌, ◌^◌, ◌<◌}
use Rattle.text.specs.Bytes.{byte}
use Rattle.word.specs.declared.Key.{Key}
use Rattle.word.specs.Word.{place}

-- bytes as one number, the first the lowest
unfoldable pub low : List ℕ → ℕ
low [] = 0
low (c ∷ s) = c + 256 * low s

pub data Bytes : List ℕ → Type 0 where
  none : Bytes []
  more : {c : ℕ} {s : List ℕ} → c < 256 → Bytes s → Bytes (c ∷ s)

-- n is the first eight of these as a number
pub record Eight (s : List ℕ) (n : ℕ) : Type 0 where
  pub is : n ≡ low (take 8 s)
  pub bytes : Bytes (take 8 s)

-- a word from a place on, and spaces behind it
abbrev pub filled_from : List ℕ → ℕ → List ℕ
filled_from w i = drop i w ++ replicate 8 (byte " ")

-- r is the byte c, and behind it seven of the eight bytes of n
pub record Pushed (c n r : ℕ) : Type 0 where
  pub is : r ≡ c + 256 * (n % 256 ^ 7)
  pub byte : c < 256

-- k is a row of sixteen bytes
pub record KeyOf (row : List ℕ) (k : Key) : Type 0 where
  pub size : length row ≡ 16
  pub front : Eight row k.low
  pub back : Eight (drop 8 row) k.high

abbrev pub same_key : Key → Key → Bool
same_key a b = eqb a.low b.low && eqb a.high b.high

-- f is the first row that is the one whose key this is
pub record FoundBy (k : Key) (rows : List (List ℕ)) (f : Option ℕ) : Type 0 where
  pub first : (row : List ℕ) → KeyOf row k → f ≡ place 0 rows row
