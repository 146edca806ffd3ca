-- Laws of words as rows of a table. Assumes nothing.
use Rattle.std.proofs.Common.{Option, Some, None}
use borrow.Author.Tests.{leb-true, leb-false}
use mathlib.Core.Path.{◌≡◌, refl, sym, ◌∙◌, ap}
use mathlib.Core.Bool.{Bool, true, false, cond}
use mathlib.Core.List.{List, [], ◌++◌}
use Prim.Native.Nat.{ℕ, min, ◌+◌, ◌-◌, ◌≤◌, ◌<◌}
use native.Mathlib.Numerals.{add-one}
use native.Mathlib.Omega.{arith}
use lib.Dec.{leb}
use Rattle.std.proofs.lemmas.List.{drop-replicate}
use lib.ListN.{length, take, drop, get_or, replicate, drop_of_length-le}
use lib.Seq.{drop-cons, take_all, take-length}
use Rattle.word.specs.Word.{padded, same_bytes, place}

-- ---- filling up with spaces

-- a word that is cut, and one that ends
cut : (w : List ℕ) → 16 ≤ length w → take 16 w ++ replicate (16 - 16) 32 ≡ padded w
unfolding padded
cut w h =
    let z : 16 - length w ≡ 0 = omega arith in
    rw z refl

whole : (w : List ℕ) → length w ≤ 16 → take (length w) w ++ replicate (16 - length w) 32 ≡ padded w
unfolding padded
whole w h = rw (take-length w, take_all 16 w h) refl

-- the first bytes of a word over sixteen spaces
pub laid : (w front : List ℕ) (n : ℕ) → n ≡ min (length w) 16 → front ≡ take n w
    → front ++ drop n (replicate 16 32) ≡ padded w
laid w front n least e = rw (e, drop-replicate {X = ℕ} n 16 32) (go (leb (length w) 16) refl)
  where
    go : (t : Bool) → leb (length w) 16 ≡ t → take n w ++ replicate (16 - n) 32 ≡ padded w
    go true l =
        let k : n ≡ length w = omega (arith, leb-true (length w) 16 l) in
        rw k (whole w (leb-true (length w) 16 l))
    go false l =
        let k : n ≡ 16 = omega (arith, leb-false (length w) 16 l) in
        rw k (cut w (omega (arith, leb-false (length w) 16 l)))

-- ---- looking a row up

-- the row that is still to be found from i on is the one of the whole table
pub record Seeking (rows : List (List ℕ)) (key : List ℕ) (i : ℕ) : Type 0 where
  pub within : i ≤ length rows
  pub rest : place i (drop i rows) key ≡ place 0 rows key

place_next : (rows : List (List ℕ)) (i : ℕ) (key : List ℕ) → i < length rows
    → place i (drop i rows) key
    ≡ cond (same_bytes (get_or rows i []) key) (Some i) (place (i + 1) (drop (i + 1) rows) key)
unfolding place
place_next rows i key h =
    let past : ℕ → Option ℕ =
    λ n. cond (same_bytes (get_or rows i []) key) (Some i) (place (i + 1) (drop n rows) key) in
    rw (drop-cons rows i [] h) (ap past (sym (add-one i)))

pub passed : {rows : List (List ℕ)} {key : List ℕ} {i : ℕ} → Seeking rows key i → i < length rows
    → same_bytes (get_or rows i []) key ≡ false → Seeking rows key (i + 1)
passed {rows} {key} {i} s h f =
    record { within = omega arith; rest = sym (place_next rows i key h ∙ simp f) ∙ s.rest }

pub found : {rows : List (List ℕ)} {key : List ℕ} {i : ℕ} → Seeking rows key i → i < length rows
    → same_bytes (get_or rows i []) key ≡ true → Some i ≡ place 0 rows key
found {rows} {key} {i} s h t = sym (place_next rows i key h ∙ simp t) ∙ s.rest

pub not_found : {rows : List (List ℕ)} {key : List ℕ} {i : ℕ} → Seeking rows key i → length rows ≤ i
    → None ≡ place 0 rows key
unfolding place
not_found {rows} {key} {i} s h = sym (rw (drop_of_length-le rows h) refl) ∙ s.rest
