-- Laws of what may open inside what. Assumes nothing.
use mathlib.Core.Bool.{true, false≢true}
use mathlib.Core.List.{List, [], ◌∷◌}
use mathlib.Core.Path.{◌≡◌, refl}
use Rattle.reply_line.specs.declared.RowKind.{RowKind}
use Rattle.reply_line.specs.Line.{letter_of}
use Rattle.reply_step.specs.Step.{innermost, may_open, closes, outer}

-- the innermost alone decides
pub by_innermost : (k : RowKind) (ls : List RowKind) → may_open k ls ≡ may_open k (innermost ls ∷ [])
unfolding may_open
by_innermost k ls = refl

-- a scan stands in a measuring loop
pub scan_inside : (l : RowKind) → may_open RowKind.Scan (l ∷ []) ≡ true → l ≡ RowKind.Sweep
unfolding may_open letter_of
scan_inside RowKind.Script e = absurd (false≢true e)
scan_inside RowKind.Sweep e = refl
scan_inside RowKind.Loop e = absurd (false≢true e)
scan_inside RowKind.Scan e = absurd (false≢true e)

-- and nothing in a scan
pub none_inside_scan : (k : RowKind) → may_open k (RowKind.Scan ∷ []) ≡ true → ⊥
unfolding may_open letter_of
none_inside_scan RowKind.Script e = false≢true e
none_inside_scan RowKind.Sweep e = false≢true e
none_inside_scan RowKind.Loop e = false≢true e
none_inside_scan RowKind.Scan e = false≢true e

-- what is closed was open
pub some_closed : (k : RowKind) (ls : List RowKind) → closes k ls ≡ true → ls ≡ innermost ls ∷ outer ls
unfolding closes
some_closed k [] e = absurd (false≢true e)
some_closed k (l ∷ ls) e = refl
