-- The text tells the thing.
use borrow.Author.Tests.{ltb-true, ltb-false, ne_eqb}
use lib.Dec.{eqb, ltb, T}
use lib.Ieee.Bits.{of_bits-to_bits, to_bits-lt}
use lib.Ieee.{Float, binary64, fits, of_bits, to_bits}
use lib.IntN.{ℤ, pos, negsuc}
use lib.ListN.{length, take, drop}
use mathlib.Core.Bool.{Bool, true, false, cond}
use mathlib.Core.List.{List, [], ◌∷◌, ◌++◌, append_assoc}
use mathlib.Core.Path.{◌≡◌, refl, sym, ap, ap₂, ◌∙◌}
use native.Mathlib.Nat.{mod-lt}
use native.Mathlib.Omega.{arith}
use Prim.Native.Nat.{ℕ, suc, ◌+◌, ◌-◌, ◌/◌, ◌%◌, ◌<◌}
use Rattle.state.specs.declared.LoopSort.TheVariants as LoopSort
use Rattle.state.specs.State.{Out, nought, enters, leaves as leaves_loop, pack_start, pack_end, pack_part, says, waits}
use Rattle.state.specs.State.{sets_e, sets_mode, switches_cell}
use Rattle.text.proofs.Decimals.{alone_back, alone_rest, decimal_back, decimal_rest}
use Rattle.text.proofs.Put.{front}
use Rattle.text.specs.Decimal.{decimal, number}
use Rattle.text.specs.Hex.{digit_of, hex4}
use Rattle.text.specs.Put.{put}
use Rattle.thing_text.proofs.Numbers.{four_read, sixteen_read}
use Rattle.thing_text.specs.Read.{minus, by_sign, read_whole, read_hex16}
use Rattle.thing_text.specs.Read.{read_value, read_amount, part_of, range_of}
use Rattle.thing_text.specs.Read.{read_thing, SoundValue, Sound, ReadsBack}
use Rattle.thing_text.specs.Thing.{amount_text, text_of, refused, accepted, leaves, write}
use Rattle.thing_text.specs.Thing.{whole_text, hex16, value_text}
use Rattle.value.specs.declared.Value.{Value}

-- ---- numbers

whole_back : (z : ℤ) → read_whole (whole_text z) ≡ z
unfolding whole_text
whole_back (pos n) = ap₂ by_sign (alone_back n) (alone_rest n)
whole_back (negsuc n) = ap minus (alone_back (suc n))

bits_back : (x : Float) → T (fits binary64 x) → read_hex16 (hex16 (to_bits binary64 x)) ≡ to_bits binary64 x
bits_back x h =
    let b : to_bits binary64 x < 18446744073709551616 = to_bits-lt binary64 x h in
    sixteen_read (to_bits binary64 x) b

float_back : (x : Float) → T (fits binary64 x) → of_bits binary64 (read_hex16 (hex16 (to_bits binary64 x))) ≡ x
float_back x h = ap (λ (n : ℕ). of_bits binary64 n) (bits_back x h) ∙ of_bits-to_bits binary64 x h

value_back : (v : Value) → SoundValue v → read_value (value_text v) ≡ v
unfolding value_text
value_back (Value.Whole n) h = ap Value.Whole (whole_back n)
value_back (Value.Real x) h = ap Value.Real (float_back x h)

-- ---- a float without its letter

no_letter : (k : ℕ) → k < 16 → eqb (digit_of k) 105 ≡ false
unfolding digit_of
no_letter k h = go (ltb k 10) refl
  where
    go : (b : Bool) → ltb k 10 ≡ b → eqb (cond b (48 + k) (65 + (k - 10))) 105 ≡ false
    go true e = ne_eqb (48 + k) 105 (λ q. omega (arith, ltb-true k 10 e))
    go false e = ne_eqb (65 + (k - 10)) 105 (λ q. omega (arith, ltb-false k 10 e))

read_float : (c : ℕ) (s : List ℕ) → eqb c 105 ≡ false
    → read_amount (c ∷ s) ≡ Value.Real (of_bits binary64 (read_hex16 (c ∷ s)))
read_float c s e = rw e

amount_float : (n : ℕ) → read_amount (hex16 n) ≡ Value.Real (of_bits binary64 (read_hex16 (hex16 n)))
unfolding hex16 hex4
amount_float n =
    let k = n / 65536 / 65536 / 65536 % 65536 / 16 / 16 / 16 % 16 in
    read_float (digit_of k) (drop 1 (hex16 n))
    (no_letter k (mod-lt (n / 65536 / 65536 / 65536 % 65536 / 16 / 16 / 16) (omega arith)))

amount_back : (v : Value) → SoundValue v → read_amount (amount_text v) ≡ v
unfolding amount_text
amount_back (Value.Whole n) h = ap Value.Whole (whole_back n)
amount_back (Value.Real x) h = amount_float (to_bits binary64 x) ∙ ap Value.Real (float_back x h)

-- ---- things

same_part : {v w : Value} {t u : ℕ} → v ≡ w → t ≡ u → pack_part v t ≡ pack_part w u
same_part p q = rw (p, q)

part_back : (v : Value) (t : ℕ) → SoundValue v → t < 65536
    → part_of (hex4 t ++ (58 ∷ []) ++ value_text v) ≡ pack_part v t
unfolding hex4
part_back v t h k = same_part (value_back v h) (four_read t (58 ∷ value_text v) k)

abbrev ranged : ℕ → ℕ → Out
ranged a b = says (record { start = a; end = b })

range_back : (a b : ℕ) → range_of (decimal a ++ (58 ∷ []) ++ decimal b) ≡ ranged a b
range_back a b =
    let behind : List ℕ = 58 ∷ decimal b in
    ap (λ (s : List ℕ). range_of s) (append_assoc (decimal a) (58 ∷ []) (decimal b))
    ∙ ap₂ (λ (n : ℕ) (s : List ℕ). ranged n (number (drop 1 s))) (decimal_back a behind refl)
    (decimal_rest a behind refl)
    ∙ ap (λ (n : ℕ). ranged a n) (alone_back b)

pub reads_back : ReadsBack
reads_back nought h = refl
reads_back (enters LoopSort.Loop) h = refl
reads_back (enters LoopSort.Sweep) h = refl
reads_back (leaves_loop LoopSort.Loop) h = refl
reads_back (leaves_loop LoopSort.Sweep) h = refl
reads_back pack_start h = refl
reads_back pack_end h = refl
reads_back (pack_part v t) h = part_back v t h.0 h.1
reads_back (says t) h = range_back t.start t.end
reads_back (waits v) h = ap waits (amount_back v h)
reads_back (sets_e v) h = ap sets_e (amount_back v h)
reads_back (sets_mode n) h = ap sets_mode (alone_back n)
reads_back (switches_cell true) h = refl
reads_back (switches_cell false) h = refl

-- two things with one text are one
pub tells : (o p : Out) → Sound o → Sound p → text_of o ≡ text_of p → o ≡ p
tells o p h k e = sym (reads_back o h) ∙ ap read_thing e ∙ reads_back p k

-- and what was written into a buffer gives the thing back
pub written_back : (o : Out) (buf after : List ℕ) (n : ℕ) → Sound o
    → write (text_of o) buf ≡ leaves (accepted n) after
    → read_thing (take n after) ≡ o
unfolding write
written_back o buf after n h e = go (ltb (length buf) (length (text_of o))) e
  where
    go : (b : Bool)
        → cond b (leaves (refused 5 0) buf) (leaves (accepted (length (text_of o))) (put buf 0 (text_of o)))
        ≡ leaves (accepted n) after
        → read_thing (take n after) ≡ o
    go true q = let z : ◌≡◌ {A = ℕ} 0 1 = cc in absurd (omega arith)
    go false q =
        let a : length (text_of o) ≡ n = cc in
        let l : put buf 0 (text_of o) ≡ after = cc in
        rw (← a, ← l, front buf (text_of o)) (reads_back o h)
