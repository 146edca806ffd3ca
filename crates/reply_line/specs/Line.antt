-- 01, Packages and replies, with 02's scans: what one line of a reply is, by itself. Assumes nothing.
use Rattle.std.specs.Prelude.{Option, Some, None}
use Rattle.std.specs.Prelude.{leb, ltb, eqb, length, get_or, drop, Bool, ◌&&◌, ◌||◌, cond, List, [], ◌∷◌, ℕ}
use Rattle.package.specs.Package.{Verdict, verdict_of, package_of}
use Rattle.reply_line.specs.declared.RowKind.{RowKind}
use Rattle.reply_line.specs.declared.Line.{Line}
use Rattle.reply_line.specs.declared.Refusal.{Refusal}
use Rattle.text.specs.Bytes.{byte}
use Rattle.text.specs.Decimal.{digit_run}
use Rattle.text.specs.Hex.{read_hex}

-- ---- the table of numbers

unfoldable pub number_of : Refusal → ℕ
number_of Refusal.BadPart = 40
number_of Refusal.TooManyParts = 41
number_of Refusal.NoEnding = 50
number_of Refusal.UnknownLine = 51
number_of Refusal.OutOfPlace = 52
number_of Refusal.NinthOpen = 53
number_of Refusal.ShortTable = 54
number_of Refusal.TooLong = 55

-- the kinds of rows: S, M, L; 02: "a row of kind C"
unfoldable pub letter_of : RowKind → ℕ
letter_of RowKind.Script = byte "S"
letter_of RowKind.Sweep = byte "M"
letter_of RowKind.Loop = byte "L"
letter_of RowKind.Scan = byte "C"

abbrev pub unknown : Line
unknown = Line.Refused Refusal.UnknownLine

-- ---- "an error line `e!hhhh`, not 0000, alone or followed by `: ` and anything"

unfoldable pub non_zero : Option ℕ → Option ℕ
non_zero (Some v) = cond (eqb v 0) None (Some v)
non_zero None = None

unfoldable pub ends_error : List ℕ → Bool
ends_error s =
    leb (length s) 6 || (eqb (get_or s 6 0) (byte ":") && (leb 8 (length s) && eqb (get_or s 7 0) (byte " ")))

unfoldable pub error_code : List ℕ → Option ℕ
unfolding non_zero ends_error
error_code s =
    cond (leb 6 (length s) && (eqb (get_or s 0 0) (byte "e") && (eqb (get_or s 1 0) (byte "!") && ends_error s)))
    (non_zero (read_hex 4 s 2)) None

-- ---- "A reply's first line is `e`, or an error line"; row 0 of the n rows belongs to it

unfoldable pub with_row : ℕ → Line → Line
with_row n l = cond (ltb 0 n) l (Line.Refused Refusal.ShortTable)

unfoldable pub first_error : ℕ → Option ℕ → Line
unfolding with_row
first_error n (Some v) = with_row n (Line.Error v)
first_error n None = unknown

unfoldable pub is_e : List ℕ → Bool
is_e s = eqb (length s) 1 && eqb (get_or s 0 0) (byte "e")

unfoldable pub first_line : ℕ → List ℕ → Line
unfolding is_e error_code first_error
first_line n s = cond (is_e s) (with_row n Line.Quiet) (first_error n (error_code s))

-- ---- "Later lines"

-- a byte that stands alone
unfoldable pub alone_in : List ℕ → Line → Line
alone_in s l = cond (eqb (length s) 1) l unknown

-- "`M` and four hex opens a measuring loop"
unfoldable pub mark_of : Option ℕ → Line
mark_of (Some v) = Line.Opens RowKind.Sweep v
mark_of None = unknown

unfoldable pub mark_line : List ℕ → Line
unfolding mark_of
mark_line s = cond (eqb (length s) 5) (mark_of (read_hex 4 s 1)) unknown

-- 02: "`C` opens a scan", mark 0000. The instrument prints the cycle's number behind it, four decimal digits, which is
-- not kept
unfoldable pub has_cycle : List ℕ → Bool
has_cycle s = eqb (length s) 5 && eqb (digit_run (drop 1 s)) 4

unfoldable pub scan_line : List ℕ → Line
unfolding has_cycle alone_in
scan_line s = cond (has_cycle s) (Line.Opens RowKind.Scan 0) (alone_in s (Line.Opens RowKind.Scan 0))

-- a package, by its own verdict: 40 and 41 are given at the line
unfoldable pub package_line : Verdict → Line
package_line v =
    cond (eqb v.number 0) Line.Package
    (cond (eqb v.number 40) (Line.Refused Refusal.BadPart) (Line.Refused Refusal.TooManyParts))

unfoldable pub later_error : Option ℕ → Line
later_error (Some v) = Line.Error v
later_error None = unknown

-- a row for each first byte; `pk` is what a package comes to
abbrev pub later_rows : Line → List ℕ → List (ℕ × Line)
later_rows pk s =
    (byte "M", mark_line s)
    ∷ (byte "*", alone_in s (Line.Closes RowKind.Sweep))
    ∷ (byte "L", alone_in s (Line.Opens RowKind.Loop 0))
    ∷ (byte "+", alone_in s (Line.Closes RowKind.Loop))
    ∷ (byte "P", pk)
    ∷ (byte "T", Line.Quiet)
    ∷ (byte "h", alone_in s Line.Quiet)
    ∷ (byte "H", alone_in s Line.Quiet)
    ∷ (byte "Y", alone_in s Line.Quiet)
    ∷ (byte "Z", alone_in s Line.Quiet)
    ∷ (byte "e", later_error (error_code s))
    ∷ (byte "C", scan_line s)
    ∷ (byte "-", alone_in s (Line.Closes RowKind.Scan))
    ∷ []

abbrev pub row_of : ℕ → List (ℕ × Line) → Line
row_of c [] = unknown
row_of c (r ∷ rs) = cond (eqb c r.0) r.1 (row_of c rs)

unfoldable pub by_first : Line → ℕ → List ℕ → Line
unfolding alone_in mark_line scan_line later_error error_code
by_first pk c s = row_of c (later_rows pk s)

unfoldable pub later_line : List ℕ → Line
unfolding by_first package_line
later_line s = cond (leb 1 (length s)) (by_first (package_line (verdict_of (package_of s))) (get_or s 0 0) s) Line.Empty

-- line k, from 1, for a table of n rows
unfoldable pub line_at : ℕ → ℕ → List ℕ → Line
unfolding first_line later_line
line_at n k s = cond (eqb k 1) (first_line n s) (later_line s)
