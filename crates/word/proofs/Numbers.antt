-- Laws of small numbers. Assumes nothing.
use Rattle.std.proofs.Common.{Result, Ok, Err, Some, None}
use Rattle.std.specs.Result.{OkIff, result_ok}
use borrow.Author.Tests.{eq-eqb, le-leb, lt-leb, ne_eqb, leb-true}
use lib.Dec.{eqb, leb}
use lib.ListN.{length}
use mathlib.Core.Bool.{Bool, true, false}
use mathlib.Core.List.{List}
use mathlib.Core.Path.{◌≡◌, refl, ◌∙◌, ap, sym}
use native.Mathlib.Nat.{zero-add}
use native.Mathlib.Omega.{arith}
use Prim.Native.Nat.{ℕ, min, ◌-◌, ◌^◌, ◌<◌}
use Rattle.text.specs.Decimal.{digit_run, number, number_at}
use Rattle.text.specs.declared.Number.{Number}
use Rattle.word.specs.Word.{read_small, small_of}

pub none : (w : List ℕ) → length w ≡ 0 → None ≡ small_of w
unfolding small_of
none w h = simp (lt-leb 1 (length w) (omega arith))

-- what was read of a word that is not empty
module _ (w : List ℕ) (some : length w ≡ 0 → ⊥) {read : Number} (e : read ≡ number_at w 0) where
  opened : read_small w ≡ small_of w
  unfolding small_of
  opened = simp (le-leb 1 (length w) (omega arith))

  next_is : read.next ≡ digit_run w
  unfolding number_at
  next_is = ap (λ (r : Number). r.next) e ∙ zero-add (digit_run w)

  number_is : read.number ≡ min (number w) (2 ^ 64 - 1)
  unfolding number_at
  number_is = ap (λ (r : Number). r.number) e

  pub other_bytes : (read.next ≡ length w → ⊥) → None ≡ small_of w
  unfolding read_small
  other_bytes n =
      let bad : read_small w ≡ None = simp (ne_eqb (digit_run w) (length w) (λ q. n (next_is ∙ q))) in
      sym bad ∙ opened

  -- digits alone
  module _ (all : read.next ≡ length w) where
    runs : eqb (digit_run w) (length w) ≡ true
    runs = eq-eqb (digit_run w) (length w) (sym next_is ∙ all)

    pub as_small : {E : Type 0} (r : Result ℕ E) → OkIff r (read.number < 256) read.number → result_ok r ≡ small_of w
    unfolding read_small
    as_small (Ok v) h =
        let k : read.number ≡ number w = omega (arith, number_is, h.0) in
        let good : read_small w ≡ Some (number w) = simp (runs, le-leb (number w) 255 (omega (arith, k, h.0))) in
        rw (h.1, k) (sym good ∙ opened)
    as_small (Err e) h = large (leb (number w) 255) refl
      where
        large : (b : Bool) → leb (number w) 255 ≡ b → None ≡ small_of w
        large true l = absurd (h (omega (arith, number_is, leb-true (number w) 255 l)))
        large false l =
            let bad : read_small w ≡ None = simp (runs, l) in
            sym bad ∙ opened
