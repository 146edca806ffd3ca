-- What is read and what is written, as sets. Assumes nothing.
use Prim.Native.Nat.{ℕ, zero, suc, ◌≤◌, ◌<◌}
use mathlib.Core.Path.{◌≡◌, refl, sym, ap, ◌∙◌}
use mathlib.Core.Bool.{Bool, true, false, not, ◌&&◌, ◌||◌, or-false}
use mathlib.Core.List.{List, [], ◌∷◌}
use native.Mathlib.Omega.{arith}
use native.Mathlib.Nat.{not-suc-le-zero, le_of_suc-le-suc}
use lib.ListN.{length, set, replicate, length-set}
use borrow.Author.Tests.{ltb-true}
use Rattle.laws.proofs.Bools.{and_l, and_r}
use Rattle.table.specs.ReadWrite.{Names, has, gone, missing}
use Rattle.table.specs.Shape.{operand_ok, reads_ok}
use Rattle.table.specs.declared.Operand.{Operand}
use Rattle.table.specs.declared.Read.{Read}
use Rattle.table.specs.declared.Write.{Write}
use Rattle.sets.specs.Names.{nothing, either, outside, ask, asks, put}

-- ---- written

set-either : (s t : Names) (n : ℕ) → length s ≡ length t → set (either s t) n true ≡ either s (set t n true)
set-either [] t n e = refl
set-either (a ∷ s) [] n e = absurd (omega arith)
set-either (a ∷ s) (b ∷ t) zero e = ap (λ (x : Bool). x ∷ either s t) (sym (or_true a))
  where
    or_true : (a : Bool) → (a || true) ≡ true
    or_true true = refl
    or_true false = refl
set-either (a ∷ s) (b ∷ t) (suc n) e = ap (λ (l : Names). (a || b) ∷ l) (set-either s t n (omega arith))

put_more : (s t : Names) (gs : List Write) → length s ≡ length t → put (either s t) gs ≡ either s (put t gs)
put_more s t [] e = refl
put_more s t (Write.Like n x ∷ gs) e =
    ap (λ (l : Names). put l gs) (set-either s t n e) ∙ put_more s (set t n true) gs (e ∙ sym (length-set t n true))
put_more s t (Write.Float n ∷ gs) e =
    ap (λ (l : Names). put l gs) (set-either s t n e) ∙ put_more s (set t n true) gs (e ∙ sym (length-set t n true))

either_none : (m : ℕ) (s : Names) → length s ≡ m → either s (replicate m false) ≡ s
either_none zero [] e = refl
either_none zero (a ∷ s) e = absurd (omega arith)
either_none (suc m) [] e = absurd (omega arith)
either_none (suc m) (a ∷ s) e = rw (or-false a, either_none m s (omega arith))

-- what is written to a set is the set and what is written to none
pub put_either : (s : Names) (gs : List Write) → length s ≡ 32 → either s (put nothing gs) ≡ put s gs
put_either s gs e = sym (put_more s nothing gs e) ∙ ap (λ (l : Names). put l gs) (either_none 32 s e)

-- ---- read

outside_none : (m : ℕ) (s : Names) → outside (replicate m false) s ≡ false
outside_none zero s = refl
outside_none (suc m) [] = outside_none m []
outside_none (suc m) (b ∷ s) = outside_none m s

-- a name more is outside too, or it is in the second set
outside_set : (t s : Names) (n : ℕ) → n < length t → length t ≡ length s
    → outside (set t n true) s ≡ (outside t s || not (has s n))
outside_set [] s n h e = absurd (not-suc-le-zero h)
outside_set (a ∷ t) [] n h e = absurd (omega arith)
outside_set (a ∷ t) (b ∷ s) zero h e = by a b (outside t s)
  where
    by : (a b o : Bool) → (not b || o) ≡ (a && not b || o || not b)
    by true true true = refl
    by true true false = refl
    by true false o = refl
    by false true true = refl
    by false true false = refl
    by false false true = refl
    by false false false = refl
outside_set (a ∷ t) (b ∷ s) (suc n) h e =
    ap (λ (x : Bool). a && not b || x) (outside_set t s n (le_of_suc-le-suc h) (omega arith))
    ∙ by (a && not b) (outside t s) (not (has s n))
  where
    by : (x y z : Bool) → (x || (y || z)) ≡ (x || y || z)
    by true y z = refl
    by false y z = refl

length-ask : (t : Names) (x : Operand) → length (ask t x) ≡ length t
length-ask t (Operand.Name n) = length-set t n true
length-ask t (Operand.Literal l) = refl

swap : (a b c : Bool) → (a || b || c) ≡ (a || (c || b))
swap true b c = refl
swap false true true = refl
swap false true false = refl
swap false false true = refl
swap false false false = refl

swap_two : (a b c d : Bool) → (a || b || c || d) ≡ (a || (d || (b || c)))
swap_two true b c d = refl
swap_two false true true true = refl
swap_two false true true false = refl
swap_two false true false true = refl
swap_two false true false false = refl
swap_two false false true true = refl
swap_two false false true false = refl
swap_two false false false true = refl
swap_two false false false false = refl

-- the names are fewer than the flags
module _ (names : ℕ) (s : Names) (few : names ≤ length s) where
  outside_ask : (t : Names) (x : Operand) → length t ≡ length s → operand_ok names x ≡ true
      → outside (ask t x) s ≡ (outside t s || gone (has s) x)
  outside_ask t (Operand.Name n) e o = outside_set t s n (omega (arith, ltb-true n names o)) e
  outside_ask t (Operand.Literal l) e o = sym (or-false (outside t s))

  outside_asks : (t : Names) (ws : List Read) → length t ≡ length s → reads_ok names ws ≡ true
      → outside (asks t ws) s ≡ (outside t s || missing (has s) ws)
  outside_asks t [] e o = sym (or-false (outside t s))
  outside_asks t (Read.Any x ∷ ws) e o =
      outside_asks (ask t x) ws (length-ask t x ∙ e) (and_l (reads_ok names ws) (operand_ok names x) o)
      ∙ ap (λ (b : Bool). b || missing (has s) ws)
      (outside_ask t x e (and_r (reads_ok names ws) (operand_ok names x) o))
      ∙ swap (outside t s) (gone (has s) x) (missing (has s) ws)
  outside_asks t (Read.Alike x y ∷ ws) e o =
      let f : length (ask t x) ≡ length s = length-ask t x ∙ e in
      let rest : reads_ok names ws ≡ true = and_l (reads_ok names ws) (operand_ok names x && operand_ok names y) o in
      let two = and_r (reads_ok names ws) (operand_ok names x && operand_ok names y) o in
      let one : operand_ok names x ≡ true = and_l (operand_ok names x) (operand_ok names y) two in
      let other : operand_ok names y ≡ true = and_r (operand_ok names x) (operand_ok names y) two in
      outside_asks (ask (ask t x) y) ws (length-ask (ask t x) y ∙ f) rest
      ∙ ap (λ (b : Bool). b || missing (has s) ws) (outside_ask (ask t x) y f other)
      ∙ ap (λ (b : Bool). b || gone (has s) y || missing (has s) ws) (outside_ask t x e one)
      ∙ swap_two (outside t s) (gone (has s) x) (gone (has s) y) (missing (has s) ws)
  outside_asks t (Read.Float x ∷ ws) e o =
      outside_asks (ask t x) ws (length-ask t x ∙ e) (and_l (reads_ok names ws) (operand_ok names x) o)
      ∙ ap (λ (b : Bool). b || missing (has s) ws)
      (outside_ask t x e (and_r (reads_ok names ws) (operand_ok names x) o))
      ∙ swap (outside t s) (gone (has s) x) (missing (has s) ws)

-- a name is read that is not among those that are there
pub read_outside : (names : ℕ) (s : Names) (ws : List Read) → names ≤ 32 → length s ≡ 32 → reads_ok names ws ≡ true
    → outside (asks nothing ws) s ≡ missing (has s) ws
read_outside names s ws h e o =
    outside_asks names s (omega arith) nothing ws (sym e) o
    ∙ ap (λ (b : Bool). b || missing (has s) ws) (outside_none 32 s)
