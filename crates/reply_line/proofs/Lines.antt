-- Laws of a line: by its first byte; judged and known. Assumes nothing.
use Rattle.std.proofs.Common.{Some, None, Err}
use borrow.Author.Tests.{eq-eqb, eqb-false, eqb-true, le-leb, ne_eqb}
use lib.Dec.{eqb, leb}
use lib.ListN.{drop, get_or, length}
use mathlib.Core.Bool.{Bool, cond, false, true}
use mathlib.Core.List.{List, [], ◌∷◌}
use mathlib.Core.Logic.{◌⊎◌, inl, inr}
use mathlib.Core.Path.{◌≡◌, refl, sym}
use native.Mathlib.Omega.{arith}
use Prim.Native.Nat.{ℕ, ◌+◌, ◌≤◌}
use Rattle.package.specs.declared.Refusal as packages
use Rattle.package.specs.Package.{Verdict, meaning, number_of, package_of, verdict_of}
use Rattle.reply_line.specs.Code.{later_by, of_package, package_by}
use Rattle.reply_line.specs.declared.Line.{Line}
use Rattle.reply_line.specs.declared.Refusal.{Refusal}
use Rattle.reply_line.specs.Line.{by_first, later_line, later_rows, non_zero, package_line}
use Rattle.reply_line.specs.Line.{row_of, unknown}
use Rattle.text.proofs.Keys.{Apart, also, none}
use Rattle.text.specs.Bytes.{ascii}
use Rattle.text.specs.Decimal.{digit_run, number_at}

-- ---- the code of an error

pub zero_code : (v : ℕ) → v ≡ 0 → None ≡ non_zero (Some v)
unfolding non_zero
zero_code v e = simp (eq-eqb v 0 e)

pub other_code : (v : ℕ) → (v ≡ 0 → ⊥) → Some v ≡ non_zero (Some v)
unfolding non_zero
other_code v n = simp (ne_eqb v 0 n)

-- ---- a cycle's number: digits from the second byte to the end of five

pub cycle_next : (s : List ℕ) → eqb (number_at s 1).next 5 ≡ eqb (digit_run (drop 1 s)) 4
unfolding number_at
cycle_next s = by_test (eqb (digit_run (drop 1 s)) 4) refl
  where
    m : ℕ
    m = digit_run (drop 1 s)

    by_test : (b : Bool) → eqb m 4 ≡ b → eqb (1 + m) 5 ≡ b
    by_test true p = eq-eqb (1 + m) 5 (omega (arith, eqb-true m 4 p))
    by_test false p = ne_eqb (1 + m) 5 (λ q. eqb-false m 4 p (omega arith))

-- ---- a later line, by its first byte

pub later_is : (known : Bool) (s : List ℕ) (c : ℕ) → 1 ≤ length s → get_or s 0 0 ≡ c
    → by_first (package_by known s) c s ≡ later_by known s
unfolding later_by
later_is known s c h e = rw (le-leb 1 (length s) h, e) refl

-- ---- a byte that begins no line

abbrev keys : List (ℕ × Line) → List ℕ
keys [] = []
keys (r ∷ rs) = r.0 ∷ keys rs

no_row : {c : ℕ} (rs : List (ℕ × Line)) → Apart c (keys rs) → row_of c rs ≡ unknown
no_row [] none = refl
no_row {c} (r ∷ rs) (also n a) = rw (ne_eqb c r.0 n) (no_row rs a)

pub no_line : (pk : Line) (c : ℕ) (s : List ℕ) → Apart c (ascii "M*L+PThHYZeC-") → by_first pk c s ≡ unknown
unfolding by_first
no_line pk c s a = no_row (later_rows pk s) a

-- ---- a package that is refused

pub refused_package : (w : packages.Refusal) (k : ℕ) → Line.Refused (of_package w) ≡ package_line (meaning (Err (w, k)))
unfolding of_package package_line meaning number_of
refused_package packages.Refusal.BadPart k = refl
refused_package packages.Refusal.TooManyParts k = refl

-- ---- a line that is judged is the line

pub judged : (s : List ℕ) → later_by false s ≡ later_line s
unfolding later_by package_by later_line
judged s = refl

-- ---- a line that is not refused is the same where it is known to be good

abbrev Refused : Line → Type 0
Refused l = (r : Refusal) × (l ≡ Line.Refused r)

abbrev judged_package : List ℕ → Line
judged_package s = package_line (verdict_of (package_of s))

same_or_refused : (v : Verdict) → (package_line v ≡ Line.Package) ⊎ Refused (package_line v)
unfolding package_line
same_or_refused v = by_tests (eqb v.number 0) (eqb v.number 40)
  where
    choice : Bool → Bool → Line
    choice a b = cond a Line.Package (cond b (Line.Refused Refusal.BadPart) (Line.Refused Refusal.TooManyParts))

    by_tests : (a b : Bool) → (choice a b ≡ Line.Package) ⊎ Refused (choice a b)
    by_tests true b = inl refl
    by_tests false true = inr (Refusal.BadPart, refl)
    by_tests false false = inr (Refusal.TooManyParts, refl)

-- two tables of first bytes, alike but for what a package comes to, judged and known
data Alike (pk : Line) : List (ℕ × Line) → List (ℕ × Line) → Type 0 where
  here : {p : ℕ} {rs : List (ℕ × Line)} → Alike pk ((p, pk) ∷ rs) ((p, Line.Package) ∷ rs)
  further : {r : ℕ × Line} {rs qs : List (ℕ × Line)} → Alike pk rs qs → Alike pk (r ∷ rs) (r ∷ qs)

alike : (pk : Line) (s : List ℕ) → Alike pk (later_rows pk s) (later_rows Line.Package s)
alike pk s = further (further (further (further here)))

same_row : (c : ℕ) (pk : Line) → (pk ≡ Line.Package) ⊎ Refused pk → {rs qs : List (ℕ × Line)} → Alike pk rs qs
    → (Refused (row_of c rs) → ⊥) → row_of c qs ≡ row_of c rs
same_row c pk either (here {p} {rs}) = by_test (eqb c p)
  where
    by_package : (pk ≡ Line.Package) ⊎ Refused pk → (Refused pk → ⊥) → Line.Package ≡ pk
    by_package (inl e) fine = sym e
    by_package (inr r) fine = absurd (fine r)

    by_test : (b : Bool) → (Refused (cond b pk (row_of c rs)) → ⊥)
        → cond b Line.Package (row_of c rs) ≡ cond b pk (row_of c rs)
    by_test true fine = by_package either fine
    by_test false fine = refl
same_row c pk either (further {r} {rs} {qs} a) = by_test (eqb c r.0) (same_row c pk either a)
  where
    by_test : (b : Bool) → ((Refused (row_of c rs) → ⊥) → row_of c qs ≡ row_of c rs)
        → (Refused (cond b r.1 (row_of c rs)) → ⊥) → cond b r.1 (row_of c qs) ≡ cond b r.1 (row_of c rs)
    by_test true rest fine = refl
    by_test false rest fine = rest fine

pub known_same : (s : List ℕ) → ((r : Refusal) → later_line s ≡ Line.Refused r → ⊥) → later_by true s ≡ later_line s
unfolding later_by package_by later_line by_first
known_same s fine = go (leb 1 (length s)) (λ q. fine q.0 q.1)
  where
    later : Bool → Line → Line
    later b pk = cond b (by_first pk (get_or s 0 0) s) Line.Empty

    go : (b : Bool) → (Refused (later b (judged_package s)) → ⊥)
        → later b Line.Package ≡ later b (judged_package s)
    go false fine = refl
    go true fine =
        same_row (get_or s 0 0) (judged_package s) (same_or_refused (verdict_of (package_of s)))
        (alike (judged_package s) s) fine
