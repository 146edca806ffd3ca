-- 01, "Script text": words, names, types, the small numbers n, and words of a table.
use Rattle.std.specs.Prelude.{Option, Some, None}
use Rattle.std.specs.Prelude.{leb, eqb, length, take, drop, get_or, replicate, Bool, true, false, not, ◌&&◌, ◌||◌, cond}
use Rattle.std.specs.Prelude.{List, [], ◌∷◌, ◌++◌, ℕ, suc, ◌+◌, ◌-◌, ◌*◌}
use Rattle.text.specs.Bytes.{byte, blank, lower, starts, name_byte}
use Rattle.text.specs.Decimal.{digit_run, number}
use Rattle.word.specs.declared.Class.{Class}
use Rattle.word.specs.declared.Span.{Span}

unfoldable pub in_class : Class → ℕ → Bool
in_class Class.Blank c = blank c
in_class Class.Solid c = not (blank c)
in_class Class.NameByte c = name_byte c

-- how many bytes at the front are of a class
unfoldable pub run : Class → List ℕ → ℕ
run k [] = 0
run k (c ∷ s) = cond (in_class k c) (suc (run k s)) 0

-- ---- words: the next one from a place; where there is none, an empty one at the end

abbrev pub solid_from : List ℕ → ℕ → Span
solid_from s f = record { start = f; end = f + run Class.Solid (drop f s) }

unfoldable pub word_at : List ℕ → ℕ → Span
word_at s i = solid_from s (i + run Class.Blank (drop i s))

-- the bytes of a part
abbrev pub part : List ℕ → Span → List ℕ
part s w = take (w.end - w.start) (drop w.start s)

-- only spaces and tabs, or starting with # after them
unfoldable pub skipped : List ℕ → Bool
skipped s = eqb (run Class.Blank s) (length s) || eqb (get_or s (run Class.Blank s) 0) (byte "#")

-- ---- names, types, small numbers

-- up to 16 bytes: a letter or underscore, then letters, digits, underscores
unfoldable pub name_form : List ℕ → Bool
name_form w =
    leb 1 (length w) && (leb (length w) 16 && (starts (get_or w 0 0) && eqb (run Class.NameByte w) (length w)))

-- two lower-case letters, the first times 256 and the second
unfoldable pub read_type : List ℕ → Option ℕ
read_type w =
    cond (eqb (length w) 2 && (lower (get_or w 0 0) && lower (get_or w 1 0)))
    (Some (get_or w 0 0 * 256 + get_or w 1 0)) None

-- digits 0 to 255, in any count
unfoldable pub read_small : List ℕ → Option ℕ
read_small w = cond (eqb (digit_run w) (length w) && leb (number w) 255) (Some (number w)) None

unfoldable pub small_of : List ℕ → Option ℕ
small_of w = cond (leb 1 (length w)) (read_small w) None

-- ---- words of a table: 16 bytes a row, filled up with spaces, which no word holds

unfoldable pub padded : List ℕ → List ℕ
padded w = take 16 w ++ replicate (16 - length w) (byte " ")

unfoldable pub same_bytes : List ℕ → List ℕ → Bool
same_bytes [] [] = true
same_bytes [] (d ∷ t) = false
same_bytes (c ∷ s) [] = false
same_bytes (c ∷ s) (d ∷ t) = eqb c d && same_bytes s t

-- the first row that is the word, counted from i
unfoldable pub place : ℕ → List (List ℕ) → List ℕ → Option ℕ
place i [] w = None
place i (r ∷ rs) w = cond (same_bytes r w) (Some i) (place (i + 1) rs w)

-- the row of a table that is the word; none for a word that no row can hold
unfoldable pub seek : List (List ℕ) → List ℕ → Option ℕ
seek rows w = cond (leb (length w) 16) (place 0 rows (padded w)) None
