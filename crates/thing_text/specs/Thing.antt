-- The text of each thing that a step hands out (01, The machine): `M0000` or `L` when a loop is entered, `*` or `+`
-- when it is left, a package's start, part or end, a text, an order, or nothing. What a thing carries stands behind its
-- word, each part behind a colon. Assumes nothing.
use Rattle.std.specs.Prelude.{ltb, ℤ, pos, negsuc, nat_abs, Bool, true, false, cond, ℕ, ◌/◌, ◌%◌}
use Rattle.std.specs.Prelude.{List, [], ◌++◌, length}
use Rattle.std.specs.Float.{binary64}
use Rattle.std.specs.Float.Ieee.{to_bits}
use Rattle.state.specs.declared.LoopSort.{LoopSort}
use Rattle.state.specs.State.{Out, nought, enters, leaves as leaves_loop, pack_start, pack_end, pack_part, says, waits}
use Rattle.state.specs.State.{sets_e, sets_mode, switches_cell}
use Rattle.text.specs.Bytes.{ascii}
use Rattle.text.specs.Decimal.{decimal}
use Rattle.text.specs.Hex.{hex4}
use Rattle.text.specs.Put.{put}
use Rattle.value.specs.declared.Value.{Value}

-- ---- numbers

abbrev pub sign_text : ℤ → List ℕ
sign_text (pos n) = []
sign_text (negsuc n) = ascii "-"

unfoldable pub whole_text : ℤ → List ℕ
whole_text z = sign_text z ++ decimal (nat_abs z)

-- 64 bits in sixteen digits
unfoldable pub hex16 : ℕ → List ℕ
hex16 n =
    hex4 (n / 65536 / 65536 / 65536 % 65536)
    ++ hex4 (n / 65536 / 65536 % 65536)
    ++ hex4 (n / 65536 % 65536)
    ++ hex4 (n % 65536)

-- `i` and a whole number, or `f` and the bits of a float
unfoldable pub value_text : Value → List ℕ
value_text (Value.Whole n) = ascii "i" ++ whole_text n
value_text (Value.Real x) = ascii "f" ++ hex16 (to_bits binary64 x)

-- what an order carries is a float, whose letter is left out
unfoldable pub amount_text : Value → List ℕ
amount_text (Value.Whole n) = ascii "i" ++ whole_text n
amount_text (Value.Real x) = hex16 (to_bits binary64 x)

-- ---- things

abbrev pub enter_text : LoopSort → List ℕ
enter_text LoopSort.Sweep = ascii "M0000"
enter_text LoopSort.Loop = ascii "L"

abbrev pub leave_text : LoopSort → List ℕ
leave_text LoopSort.Sweep = ascii "*"
leave_text LoopSort.Loop = ascii "+"

abbrev pub cell_text : Bool → List ℕ
cell_text true = ascii "cell_on"
cell_text false = ascii "cell_off"

abbrev pub text_of : Out → List ℕ
text_of nought = ascii "nothing"
text_of (enters s) = enter_text s
text_of (leaves_loop s) = leave_text s
text_of pack_start = ascii "start"
text_of pack_end = ascii "end"
text_of (pack_part v t) = ascii "part:" ++ hex4 t ++ ascii ":" ++ value_text v
text_of (says t) = ascii "text:" ++ decimal t.start ++ ascii ":" ++ decimal t.end
text_of (waits v) = ascii "wait:" ++ amount_text v
text_of (sets_e v) = ascii "set_e:" ++ amount_text v
text_of (sets_mode n) = ascii "set_pgstat_mode:" ++ decimal n
text_of (switches_cell b) = cell_text b

-- ---- written into a lent buffer

-- an answer: a refusal's number and place (0: it has none); or so many bytes
pub data Answer : Type 0 where
  refused : (number place : ℕ) → Answer
  accepted : ℕ → Answer

-- an answer, and the lent buffer as it then is
pub data Written : Type 0 where
  leaves : Answer → List ℕ → Written

-- 5 where the buffer is too short, which then stays as it was
unfoldable pub write : List ℕ → List ℕ → Written
write text buf =
    cond (ltb (length buf) (length text)) (leaves (refused 5 0) buf) (leaves (accepted (length text)) (put buf 0 text))
