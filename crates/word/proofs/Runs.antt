-- Laws of runs of bytes and of words. Assumes nothing.
use mathlib.Core.Path.{◌≡◌, refl, ap}
use mathlib.Core.Bool.{Bool, true, false, cond}
use mathlib.Core.List.{List, [], ◌∷◌}
use Prim.Native.Nat.{ℕ, suc, max, ◌+◌, ◌-◌, ◌≤◌, ◌<◌}
use native.Mathlib.Numerals.{add-one}
use native.Mathlib.Omega.{arith}
use lib.Dec.{eqb, leb}
use lib.ListN.{length, drop, get_or, drop_of_length-le, length-drop}
use lib.Seq.{drop-cons}
use borrow.Author.Tests.{eq-eqb, ne_eqb, leb-true, leb-false}
use Rattle.word.specs.declared.Class.{Class}
use Rattle.word.specs.declared.Span.{Span}
use Rattle.word.specs.Word.{in_class, run, word_at, skipped}

run_more : (k : Class) (s : List ℕ) (i : ℕ) → i < length s → in_class k (get_or s i 0) ≡ true
    → run k (drop i s) ≡ suc (run k (drop (i + 1) s))
unfolding run
run_more k s i h t = rw (add-one i, drop-cons s i 0 h) (simp t)

run_stop : (k : Class) (s : List ℕ) (i : ℕ) → i < length s → in_class k (get_or s i 0) ≡ false → run k (drop i s) ≡ 0
unfolding run
run_stop k s i h t = rw (drop-cons s i 0 h) (simp t)

pub run_end : (k : Class) (s : List ℕ) (i : ℕ) → length s ≤ i → run k (drop i s) ≡ 0
unfolding run
run_end k s i h = rw (drop_of_length-le s h) refl

-- ---- a run from `at` that has come to i

-- where it stops, seen from i, is where it stops
pub record Running (k : Class) (s : List ℕ) (at i : ℕ) : Type 0 where
  pub same : i + run k (drop i s) ≡ at + run k (drop at s)

pub goes_on : {k : Class} {s : List ℕ} {at i : ℕ} → Running k s at i → i < length s → in_class k (get_or s i 0) ≡ true
    → Running k s at (i + 1)
goes_on {k} {s} {at} {i} r h t = record { same = omega (arith, r, run_more k s i h t) }

pub stops : {k : Class} {s : List ℕ} {at i : ℕ} → Running k s at i → i < length s → in_class k (get_or s i 0) ≡ false
    → i ≡ at + run k (drop at s)
stops {k} {s} {at} {i} r h t = omega (arith, r, run_stop k s i h t)

-- where the line ends before it does, or has ended before the run begins
pub at_end : {k : Class} {s : List ℕ} {at i r : ℕ} → Running k s at i → r ≡ max at (length s) → length s ≤ i
    → (at ≤ length s → i ≤ length s) → r ≡ at + run k (drop at s)
at_end {k} {s} {at} {i} {r} c e h w = go (leb at (length s)) refl
  where
    go : (t : Bool) → leb at (length s) ≡ t → r ≡ at + run k (drop at s)
    go true l =
        let here : i ≤ length s = w (leb-true at (length s) l) in
        omega (arith, c, run_end k s i h, leb-true at (length s) l)
    go false l =
        let past : length s < at = leb-false at (length s) l in
        omega (arith, run_end k s at (omega arith))

-- ---- words

pub run_le : (k : Class) (s : List ℕ) → run k s ≤ length s
unfolding run
run_le k [] = omega arith
run_le k (c ∷ s) = either (in_class k c) (run_le k s)
  where
    either : (t : Bool) {n m : ℕ} → n ≤ m → cond t (suc n) 0 ≤ suc m
    either true h = omega arith
    either false h = omega arith

-- a word stands inside its line
pub inside : (w : Span) (s : List ℕ) (i : ℕ) → w ≡ word_at s i → i ≤ length s
    → (w.start ≤ w.end) × (w.end ≤ length s)
unfolding word_at
inside w s i e h =
    let f : ℕ = i + run Class.Blank (drop i s) in
    let es : w.start ≡ f = ap (λ (x : Span). x.start) e in
    let ee : w.end ≡ f + run Class.Solid (drop f s) = ap (λ (x : Span). x.end) e in
    let a : run Class.Blank (drop i s) ≤ length s - i = rw (← length-drop i s) (run_le Class.Blank (drop i s)) in
    let b : run Class.Solid (drop f s) ≤ length s - f = rw (← length-drop f s) (run_le Class.Solid (drop f s)) in
    (omega arith, omega arith)

-- ---- lines that are skipped

pub skip_some : (s : List ℕ) (i : ℕ) → i ≡ 0 + run Class.Blank (drop 0 s) → i < length s
    → eqb (get_or s i 0) 35 ≡ skipped s
unfolding skipped
skip_some s i e h =
    let z : run Class.Blank s ≡ i = omega arith in
    rw z (simp (ne_eqb i (length s) (λ q. omega arith)))

pub skip_none : (s : List ℕ) (i : ℕ) → i ≡ 0 + run Class.Blank (drop 0 s) → length s ≤ i → true ≡ skipped s
unfolding skipped
skip_none s i e h =
    let z : run Class.Blank s ≡ length s = omega (arith, run_le Class.Blank s) in
    simp (eq-eqb (run Class.Blank s) (length s) z)
