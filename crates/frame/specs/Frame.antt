-- 01, Frames: a framed line, the reader and the writer. Assumes nothing.
use Rattle.std.specs.Prelude.{Option, Some, None}
use Rattle.std.specs.Prelude.{ℕ, ◌+◌, ◌-◌, ◌%◌, Bool, false, cond, not, ◌&&◌, ◌||◌, List, [], ◌∷◌, ◌++◌, length, take}
use Rattle.std.specs.Prelude.{◌==◌, nat_lt}
use Rattle.crc.specs.Crc.{crc}
use Rattle.text.specs.Hex.{read_hex, hex2, hex4}
use Rattle.text.specs.Put.{put}

-- an answer: a refusal's number and place (0: it has none), which yields nothing; or so many bytes, and the next number
pub data Answer : Type 0 where
  refused : (number place : ℕ) → Answer
  accepted : ℕ → ℕ → Answer

-- "each counts up by one, FF to 00"
unfoldable pub next : ℕ → ℕ
next n = (n + 1) % 256

unfoldable pub contains : ℕ → List ℕ → Bool
contains c [] = false
contains c (x ∷ s) = x == c || contains c s

-- ---- "content (0 to 127 bytes, no newline), two hex digits of line number, four of CRC, newline"

-- what the CRC is over: "content and the two number digits"
unfoldable pub numbered : List ℕ → ℕ → List ℕ
numbered content n = content ++ hex2 n

unfoldable pub framed : List ℕ → ℕ → List ℕ
framed content n = numbered content n ++ hex4 (crc (numbered content n)) ++ 10 ∷ []

-- ---- "The reader takes one line without its newline and the expected number, and tests 2, 1, 3, 4"

-- digits that are upper hex and say a number
abbrev pub says : Option ℕ → ℕ → Bool
says (Some v) n = v == n
says None n = false

-- k bytes of content are followed by two digits and four: "A newline inside is 3, a CRC digit not upper hex 3"
unfoldable pub right_crc : List ℕ → ℕ → Bool
right_crc line k = not (contains 10 line) && says (read_hex 4 line (k + 2)) (crc (take (k + 2) line))

-- "such a number digit 4"
unfoldable pub right_number : List ℕ → ℕ → ℕ → Bool
right_number line k expected = says (read_hex 2 line k) expected

-- with k bytes of content
unfoldable pub read_content : List ℕ → ℕ → ℕ → Answer
read_content line k expected =
    cond (nat_lt 127 k) (refused 1 0)
    (cond (not (right_crc line k)) (refused 3 0)
    (cond (not (right_number line k expected)) (refused 4 0)
    (accepted k (next expected))))

unfoldable pub read : List ℕ → ℕ → Answer
unfolding read_content
read line expected = cond (nat_lt (length line) 6) (refused 2 0) (read_content line (length line - 6) expected)

-- ---- "The writer tests 1, then 5, and writes no byte after the newline"

-- an answer, and the lent buffer as it then is
pub data Written : Type 0 where
  leaves : Answer → List ℕ → Written

-- "content over 127 bytes (writer: or newline in it)"
unfoldable pub unfit : List ℕ → Bool
unfit content = nat_lt 127 (length content) || contains 10 content

unfoldable pub write : List ℕ → ℕ → List ℕ → Written
write content n buf =
    cond (unfit content) (leaves (refused 1 0) buf)
    (cond (nat_lt (length buf) (length content + 7)) (leaves (refused 5 0) buf)
    (leaves (accepted (length content + 7) (next n)) (put buf 0 (framed content n))))
