-- What only the code's shape needs: words looked for by their letter, and a line that is over before its arguments are.
use Rattle.std.specs.Prelude.{Option, Some, None}
use Rattle.std.specs.Prelude.{ltb, eqb, get_or, length, Bool, ◌&&◌, cond, List, ℕ}

-- the row of a word that was found at a place, in a list of their rows
abbrev pub row_of : List ℕ → Option ℕ → Option ℕ
row_of rows None = None
row_of rows (Some i) = cond (ltb i (length rows)) (Some (get_or rows i 0)) None

-- a letter asks for nothing, and the line of n bytes is at its end
abbrev pub over : ℕ → ℕ → ℕ → Bool
over letter n i = eqb letter 32 && eqb i n

-- so do the letters from the fourth on
abbrev pub all_over : List ℕ → ℕ → ℕ → Bool
all_over k n i = (over (get_or k 3 0) n i && eqb (get_or k 4 0) 32) && eqb (get_or k 5 0) 32
