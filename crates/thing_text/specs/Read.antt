-- The text tells the thing: a reader of the texts, which gives each thing back (proofs/ReadBack.antt). Assumes nothing.
use Rattle.std.specs.Prelude.{Option, Some, None}
use Rattle.std.specs.Prelude.{eqb, T, ℤ, pos, negsuc, true, false, cond, ◌≡◌, ℕ, zero, suc, ◌+◌, ◌*◌, ◌<◌}
use Rattle.std.specs.Prelude.{List, [], ◌∷◌, take, drop}
use Rattle.std.specs.Float.{binary64}
use Rattle.std.specs.Float.Ieee.{fits, of_bits}
use Rattle.state.specs.declared.LoopSort.TheVariants as LoopSort
use Rattle.state.specs.State.{Out, nought, enters, leaves, pack_start}
use Rattle.state.specs.State.{pack_end, pack_part, says, waits, sets_e, sets_mode}
use Rattle.state.specs.State.{switches_cell}
use Rattle.text.specs.Bytes.{ascii}
use Rattle.text.specs.Decimal.{digit_run, number}
use Rattle.text.specs.Hex.{hex_from}
use Rattle.thing_text.specs.Thing.{text_of}
use Rattle.value.specs.declared.Value.{Value}

-- ---- numbers

-- what stands behind the digits in front
abbrev pub behind_number : List ℕ → List ℕ
behind_number s = drop (digit_run s) s

abbrev pub minus : ℕ → ℤ
minus zero = pos 0
minus (suc n) = negsuc n

-- no digit stands in front of a minus
abbrev pub by_sign : ℕ → List ℕ → ℤ
by_sign v [] = pos v
by_sign v (c ∷ s) = minus (number s)

abbrev pub read_whole : List ℕ → ℤ
read_whole s = by_sign (number s) (behind_number s)

abbrev pub hex_value : Option ℕ → ℕ
hex_value (Some v) = v
hex_value None = 0

abbrev pub read_hex4 : List ℕ → ℕ
read_hex4 s = hex_value (hex_from 0 (take 4 s))

abbrev pub read_hex16 : List ℕ → ℕ
read_hex16 s =
    ((read_hex4 s * 65536 + read_hex4 (drop 4 s)) * 65536 + read_hex4 (drop 8 s)) * 65536 + read_hex4 (drop 12 s)

-- behind `i` a whole number, behind `f` a float
abbrev pub read_value : List ℕ → Value
read_value [] = Value.Whole (pos 0)
read_value (c ∷ s) = cond (eqb c 105) (Value.Whole (read_whole s)) (Value.Real (of_bits binary64 (read_hex16 s)))

-- without `i` a float
abbrev pub read_amount : List ℕ → Value
read_amount [] = Value.Whole (pos 0)
read_amount (c ∷ s) = cond (eqb c 105) (Value.Whole (read_whole s)) (Value.Real (of_bits binary64 (read_hex16 (c ∷ s))))

-- ---- things

-- what f makes of the bytes behind the word, where the text begins with it; otherwise o
abbrev pub behind : List ℕ → List ℕ → (List ℕ → Out) → Out → Out
behind [] s f o = f s
behind (c ∷ w) [] f o = o
behind (c ∷ w) (d ∷ s) f o = cond (eqb c d) (behind w s f o) o

abbrev pub part_of : List ℕ → Out
part_of s = pack_part (read_value (drop 5 s)) (read_hex4 s)

abbrev pub range_of : List ℕ → Out
range_of s = says (record { start = number s; end = number (drop 1 (behind_number s)) })

abbrev pub read_thing : List ℕ → Out
read_thing s =
    behind (ascii "M0000") s (λ r. enters LoopSort.Sweep)
    (behind (ascii "L") s (λ r. enters LoopSort.Loop)
    (behind (ascii "*") s (λ r. leaves LoopSort.Sweep)
    (behind (ascii "+") s (λ r. leaves LoopSort.Loop)
    (behind (ascii "start") s (λ r. pack_start)
    (behind (ascii "part:") s part_of
    (behind (ascii "end") s (λ r. pack_end)
    (behind (ascii "text:") s range_of
    (behind (ascii "wait:") s (λ r. waits (read_amount r))
    (behind (ascii "set_e:") s (λ r. sets_e (read_amount r))
    (behind (ascii "set_pgstat_mode:") s (λ r. sets_mode (number r))
    (behind (ascii "cell_on") s (λ r. switches_cell true)
    (behind (ascii "cell_off") s (λ r. switches_cell false) nought))))))))))))

-- ---- the law

-- a float of 64 bits, and a type of 16: those of the code are
abbrev pub SoundValue : Value → Type 0
SoundValue (Value.Whole n) = Unit {0}
SoundValue (Value.Real x) = T (fits binary64 x)

abbrev pub Sound : Out → Type 0
Sound nought = Unit {0}
Sound (enters s) = Unit {0}
Sound (leaves s) = Unit {0}
Sound pack_start = Unit {0}
Sound pack_end = Unit {0}
Sound (pack_part v t) = SoundValue v × (t < 65536)
Sound (says t) = Unit {0}
Sound (waits v) = SoundValue v
Sound (sets_e v) = SoundValue v
Sound (sets_mode n) = Unit {0}
Sound (switches_cell b) = Unit {0}

abbrev pub ReadsBack : Type 0
ReadsBack = (o : Out) → Sound o → read_thing (text_of o) ≡ o
