-- No second answer fits the contract on what is spoken of. And what reading promises leaves one count, one rest and the
-- same bytes at the buffer's start, wherever the reader's bytes are known and no read failed. Assumes nothing.
use Rattle.std.proofs.Common.{◌≡◌, ℕ, ◌+◌, ◌<◌, Bool, List, ◌++◌, length, take, Result, Ok, Some, sym, ◌∙◌}
use Rattle.std.proofs.Common.{ap, arith, length-append, length-take-le, min}
use Rattle.std.proofs.Math.Nat.{eq-or-lt_of_le}
use Rattle.std.proofs.Math.Seq.{take-append_seam}
use Rattle.std.proofs.lemmas.List.{append_cancel_left}
use Rattle.std.specs.declared.io.Error.{Error}
use mathlib.Core.Logic.{◌⊎◌, inl, inr}
use Rattle.stream.specs.Stream.{Reads, speaks_of}

pub only_speaks_of : {A : Type 0} (written : Result A Error) (a b : Bool) → a ≡ speaks_of written
    → b ≡ speaks_of written → a ≡ b
only_speaks_of written a b p q = p ∙ sym q

-- so many come: all that there are, or as many as the buffer has room for
count : {E : Type 0} (xs rest bytes : List ℕ) (n : ℕ) → Reads {E = E} (Some xs) (Some rest) (Ok n) bytes
    → n ≡ min (length xs) (length bytes)
count xs rest bytes n r = by_room (eq-or-lt_of_le r.within.0)
  where
    all : length xs ≡ n + length rest
    all =
        ap length r.taken.0 ∙ length-append (take n bytes) rest
        ∙ ap (λ k. k + length rest) (length-take-le n bytes r.within.0)

    by_room : (n ≡ length bytes) ⊎ (n < length bytes) → n ≡ min (length xs) (length bytes)
    by_room (inl full) = omega (arith, all, full)
    by_room (inr more) =
        let none : length rest ≡ 0 = ap length (r.taken.1 more) in
        omega (arith, all, none, more)

-- they are the first ones
first : {E : Type 0} (xs rest bytes : List ℕ) (n : ℕ) → Reads {E = E} (Some xs) (Some rest) (Ok n) bytes
    → take n bytes ≡ take n xs
first xs rest bytes n r =
    sym (take-append_seam (take n bytes) rest) ∙ ap (λ k. take k (take n bytes ++ rest)) (sym r.within.1)
    ∙ ap (take n) (sym r.taken.0)

pub only_read_whole : {E : Type 0} (xs rest left bytes held : List ℕ) (n m : ℕ) → length bytes ≡ length held
    → Reads {E = E} (Some xs) (Some rest) (Ok n) bytes → Reads {E = E} (Some xs) (Some left) (Ok m) held
    → (n ≡ m) × (take n bytes ≡ take m held) × (rest ≡ left)
only_read_whole xs rest left bytes held n m room r s =
    let same : n ≡ m =
    count xs rest bytes n r ∙ ap (min (length xs)) room ∙ sym (count xs left held m s) in
    let front : take n bytes ≡ take m held =
    first xs rest bytes n r ∙ ap (λ k. take k xs) same ∙ sym (first xs left held m s) in (
      same,
      front,
      append_cancel_left (take n bytes) rest left
          (sym r.taken.0 ∙ s.taken.0 ∙ ap (λ (l : List ℕ). l ++ left) (sym front)),
    )
