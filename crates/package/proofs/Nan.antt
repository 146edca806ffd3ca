-- Laws of `nan`: its eight bytes, compared as one, and what stands still to be seen of them. Assumes nothing.
use borrow.Author.Tests.{eq-eqb, eqb-false, eqb-true, ne_eqb}
use lib.Dec.{eqb}
use lib.ListN.{drop, get_or, length, length-drop, take}
use lib.Seq.{take_all}
use mathlib.Core.Bool.{Bool, ◌&&◌, false, true}
use mathlib.Core.List.{List, [], ◌∷◌}
use mathlib.Core.Path.{◌≡◌, refl, sym, ◌∙◌}
use native.Mathlib.Omega.{arith}
use Prim.Native.Nat.{ℕ, ◌+◌, ◌-◌, ◌≤◌}
use Rattle.std.specs.List.{starts_with}
use Rattle.package.specs.Package.{is_nan}
use Rattle.text.specs.Bytes.{ascii}

eqb_comm : (a b : ℕ) → eqb a b ≡ eqb b a
eqb_comm a b = by_test (eqb a b) refl
  where
    by_test : (x : Bool) → eqb a b ≡ x → x ≡ eqb b a
    by_test true p = sym (eq-eqb b a (sym (eqb-true a b p)))
    by_test false p = sym (ne_eqb b a (λ e. eqb-false a b p (sym e)))

and_true : (b : Bool) → (b && true) ≡ b
and_true true = refl
and_true false = refl

nan_behind : (s : List ℕ) → 10 ≤ length s → starts_with eqb (drop 2 s) (ascii "     nan") ≡ is_nan s
unfolding is_nan
nan_behind (a ∷ b ∷ c ∷ d ∷ e ∷ f ∷ g ∷ h ∷ i ∷ j ∷ s) l =
    rw (
      eqb_comm 32 c,
      eqb_comm 32 d,
      eqb_comm 32 e,
      eqb_comm 32 f,
      eqb_comm 32 g,
      eqb_comm 110 h,
      eqb_comm 97 i,
      eqb_comm 110 j,
      and_true (eqb j 110),
    ) refl
nan_behind [] l = absurd (omega arith)
nan_behind (_ ∷ []) l = absurd (omega arith)
nan_behind (_ ∷ _ ∷ []) l = absurd (omega arith)
nan_behind (_ ∷ _ ∷ _ ∷ []) l = absurd (omega arith)
nan_behind (_ ∷ _ ∷ _ ∷ _ ∷ []) l = absurd (omega arith)
nan_behind (_ ∷ _ ∷ _ ∷ _ ∷ _ ∷ []) l = absurd (omega arith)
nan_behind (_ ∷ _ ∷ _ ∷ _ ∷ _ ∷ _ ∷ []) l = absurd (omega arith)
nan_behind (_ ∷ _ ∷ _ ∷ _ ∷ _ ∷ _ ∷ _ ∷ []) l = absurd (omega arith)
nan_behind (_ ∷ _ ∷ _ ∷ _ ∷ _ ∷ _ ∷ _ ∷ _ ∷ []) l = absurd (omega arith)
nan_behind (_ ∷ _ ∷ _ ∷ _ ∷ _ ∷ _ ∷ _ ∷ _ ∷ _ ∷ []) l = absurd (omega arith)

-- as the code has it: in what stands from the third byte on
pub nan_is : (s : List ℕ) → 10 ≤ length s
    → starts_with eqb (take (length s - 2) (drop 2 s)) (ascii "     nan") ≡ is_nan s
nan_is s l = rw (take_all (length s - 2) (drop 2 s) (omega (arith, length-drop 2 s))) (nan_behind s l)

-- ---- byte by byte

-- these bytes stand in s from a place on
unfoldable pub stands : List ℕ → List ℕ → ℕ → Bool
stands [] s i = true
stands (x ∷ []) s i = eqb (get_or s i 0) x
stands (x ∷ y ∷ xs) s i = eqb (get_or s i 0) x && stands (y ∷ xs) s (i + 1)

-- the bytes before a place are those of `nan`, and xs are the rest
pub record Left (s xs : List ℕ) (i : ℕ) : Type 0 where
  pub same : stands xs s i ≡ is_nan s

pub all_left : (s : List ℕ) → Left s (ascii "     nan") 2
unfolding is_nan stands
all_left s = record { same = refl }

pub one_less : {s xs : List ℕ} {x y i : ℕ} → Left s (x ∷ y ∷ xs) i → get_or s i 0 ≡ x → Left s (y ∷ xs) (i + 1)
unfolding stands
one_less l e = record { same = sym (simp (eq-eqb _ _ e)) ∙ l.same }

pub differs : {s xs : List ℕ} {x y i : ℕ} → Left s (x ∷ y ∷ xs) i → (get_or s i 0 ≡ x → ⊥) → false ≡ is_nan s
unfolding stands
differs l n = sym (simp (ne_eqb _ _ n)) ∙ l.same

pub last_one : {s : List ℕ} {x i : ℕ} → Left s (x ∷ []) i → eqb (get_or s i 0) x ≡ is_nan s
unfolding stands
last_one l = l.same
