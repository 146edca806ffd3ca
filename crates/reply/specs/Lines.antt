-- A reader of a reply's lines: it stands over the lent bytes at a place, serves the line there, and goes on behind it.
-- Assumes nothing.
use Rattle.std.specs.Prelude.{Option, Some, None, ◌≡◌, cond, List, ℕ, ◌+◌, ltb, length, drop}
use Rattle.std.specs.Borrow.{Bor}
use Rattle.text.specs.Cut.{before}
use Rattle.reply.specs.declared.LineReader.{LineReader}
use Rattle.reply.specs.declared.NextLine.{NextLine}

-- where the line that starts at a place ends
abbrev pub end_at : List ℕ → ℕ → ℕ
end_at s at = at + before 10 (drop at s)

-- it stands from a up to e, and the next one starts at x
abbrev pub line_to : ℕ → ℕ → ℕ → Option NextLine
line_to a e x = Some (record { start = a; end = e; next = x })

abbrev pub none_left : Option NextLine
none_left = None

unfoldable pub next_line : List ℕ → ℕ → Option NextLine
next_line s at = cond (ltb (end_at s at) (length s)) (line_to at (end_at s at) (end_at s at + 1)) none_left

-- where a reader stands after a line; with no line left, where it stood
unfoldable pub place_after : Option NextLine → ℕ → ℕ
place_after (Some line) at = line.next
place_after None at = at

-- a new reader r stands over the reply s, at its first line
pub record Begins (s : Bor (List ℕ)) (r : LineReader) : Type 0 where
  pub over : r.reply ≡ s
  pub place : r.at ≡ 0

-- the reader h serves the line l and is then r, over the same reply
pub record Serves (h : LineReader) (l : Option NextLine) (r : LineReader) : Type 0 where
  pub line : l ≡ next_line h.reply.now h.at
  pub over : r.reply ≡ h.reply
  pub place : r.at ≡ place_after (next_line h.reply.now h.at) h.at
