-- A loaded table is in shape against its script (01, "Table in shape"). Assumes nothing.
use mathlib.Core.Path.{◌≡◌, refl, ◌∙◌, ap, subst}
use mathlib.Core.Bool.{Bool, true, false, ◌&&◌, cond}
use mathlib.Core.List.{List, [], ◌∷◌, ◌++◌}
use Prim.Native.Nat.{ℕ, zero, suc, ◌+◌, ◌≤◌, ◌<◌}
use native.Mathlib.Omega.{arith}
use native.Mathlib.Numerals.{add-one}
use lib.Dec.{ltb, eqb}
use lib.ListN.{length, take, set, length-set, length-take, length-append}
use borrow.Author.Tests.{le-leb, ltb-true, eqb-false}
use Rattle.text.specs.Cut.{lines}
use Rattle.table.specs.declared.Item.{Item}
use Rattle.table.specs.declared.Slot.{Slot}
use Rattle.table.specs.declared.Table.{Table}
use Rattle.table.specs.Shape.{items_in, items_of, item_ok, items_ok, in_shape}
use Rattle.word.specs.Word.{skipped}
use Rattle.line.specs.Line.{Judgement, item, refused, judged}
use Rattle.loader.specs.Load.{Outcome, empty_table, refusal, accepted, declares, counted, appended, Line}
use Rattle.loader.specs.Load.{nothing, given, Step, taking, taken_by, line_step, name_row, named, walk, loaded}
use Rattle.loader.proofs.Room.{apart, Few, room, count_few}
use Rattle.loader.proofs.Items.{judged_fit}

-- ---- one item more

items_more : (ss : List Slot) (n : ℕ) (x : Slot) → n < length ss
    → items_in (suc n) (set ss n x) ≡ items_in n ss ++ (x.item ∷ [])
items_more [] n x h = absurd (omega arith)
items_more (s ∷ ss) zero x h = refl
items_more (s ∷ ss) (suc n) x h = ap (λ (l : List Item). s.item ∷ l) (items_more ss n x (omega arith))

items_ok_lem : (n size : ℕ) (xs : List Item) (x : Item) → items_ok n size xs ≡ true → item_ok n size x ≡ true
    → items_ok n size (xs ++ (x ∷ [])) ≡ true
items_ok_lem n size [] x h k = simp k
items_ok_lem n size (y ∷ xs) x h k =
    go (item_ok n size y) (items_ok n size xs) refl refl (λ q. items_ok_lem n size xs x q k) h
  where
    go : (a b : Bool) → item_ok n size y ≡ a → items_ok n size xs ≡ b
        → (items_ok n size xs ≡ true → items_ok n size (xs ++ (x ∷ [])) ≡ true) → (a && b) ≡ true
        → (item_ok n size y && items_ok n size (xs ++ (x ∷ []))) ≡ true
    go true true p q more r = simp (p, more q)
    go true false p q more r = apart cc
    go false b p q more r = apart cc

-- ---- a table in shape, with however many names may still come

record Sound (size : ℕ) (p : Table) : Type 0 where
  pub long : length p.items ≡ 128
  pub most : p.count ≤ 128
  pub known : p.names ≤ 32
  pub fits : (n : ℕ) → p.names ≤ n → items_ok n size (items_of p) ≡ true

empty_sound : (size : ℕ) → Sound size empty_table
empty_sound size = record { long = refl; most = omega arith; known = omega arith; fits = λ n h. refl }

module _ (size : ℕ) (p : Table) (names : List (List ℕ)) (upto : List ℕ) (i nr : ℕ)
    (s : Sound size p) (e : p.names ≡ length names) (u : length upto ≤ size) where
  more : (it : Item) → judged names upto i ≡ item it → p.count < 128 → Sound size (appended p it nr)
  unfolding appended
  more it q c =
      let f : Few p.names (counted p.names it) =
      count_few p.names it s.known (λ d. omega (arith, room names upto i it q d)) in
      let x : Slot = record { item = it; line = nr } in
      let room_left : p.count < length p.items = omega (arith, s.long) in
      record {
        long = length-set p.items p.count x ∙ s.long;
        most = omega arith;
        known = f.most;
        fits = λ n h.
            ap (λ (m : ℕ). items_ok n size (items_in m (set p.items p.count x))) (add-one p.count)
            ∙ ap (items_ok n size) (items_more p.items p.count x room_left)
            ∙ items_ok_lem n size (items_of p) it (s.fits n (omega (arith, h, f.kept)))
            (judged_fit names upto i it n size q (subst (λ (m : ℕ). counted m it ≤ n) e h) u);
      }

  by_line : (j : Judgement) → judged names upto i ≡ j → p.count < 128 → Sound size (taking p nr (given j)).table
  by_line (refused k) q c = s
  by_line (item it) q c = more it q c

  step_sound : (line : List ℕ) → Sound size (line_step p names line upto i nr).table
  unfolding line_step
  step_sound line = tests (ltb 127 (length line)) (skipped line) (ltb p.count 128) refl
    where
      tests : (a b c : Bool) → ltb p.count 128 ≡ c
          → Sound size (taking p nr (cond a (given (refused 12))
          (cond b nothing (cond c (given (judged names upto i)) (given (refused 13)))))).table
      tests true b c q = s
      tests false true c q = s
      tests false false true q = by_line (judged names upto i) refl (ltb-true _ _ q)
      tests false false false q = s

-- ---- the names are as many as the table counts

named-length : (p : Table) (names : List (List ℕ)) (nr : ℕ) (j : Line) (line : List ℕ)
    → p.names ≡ length names → (taking p nr j).table.names ≡ length (named names j line)
unfolding named appended counted
named-length p names nr nothing line e = e
named-length p names nr (given (refused k)) line e = e
named-length p names nr (given (item it)) line e = go (declares it)
  where
    go : (b : Bool) → cond b (p.names + 1) p.names ≡ length (cond b (names ++ (name_row line ∷ [])) names)
    go true = omega (arith, length-append names (name_row line ∷ []))
    go false = e

step-length : (p : Table) (names : List (List ℕ)) (upto : List ℕ) (i nr : ℕ) (line : List ℕ)
    → p.names ≡ length names
    → (line_step p names line upto i nr).table.names
    ≡ length (named names (taken_by p.count names line upto i) line)
unfolding line_step
step-length p names upto i nr line e = named-length p names nr (taken_by p.count names line upto i) line e

-- ---- the whole script

no : {X : Type 0} (a b : ℕ) → eqb a b ≡ false → a ≡ b → X
no a b e q = absurd (eqb-false a b e q)

done : (size : ℕ) (p : Table) (nr : ℕ) → Sound size p → in_shape size (accepted p nr).table ≡ true
unfolding in_shape
done size p nr s =
    simp (le-leb p.count 128 s.most, le-leb p.names 32 s.known, s.fits p.names (omega arith))

walk_sound : (text : List ℕ) (p : Table) (names : List (List ℕ)) (i nr : ℕ) (ls : List (List ℕ))
    → Sound (length text) p → p.names ≡ length names
    → (walk text p names i nr ls).number ≡ 0 → in_shape (length text) (walk text p names i nr ls).table ≡ true
unfolding walk
walk_sound text p names i nr [] s e z = absurd (omega arith)
walk_sound text p names i nr (l ∷ ls) s e z =
    go (eqb (length l) 0) (eqb t.number 0) refl
    (walk_sound text t.table names' (i + length l + 1) (nr + 1) ls
    (step_sound (length text) p names (take (i + length l) text) i nr s e
    (omega (arith, length-take (i + length l) text)) l)
    (step-length p names (take (i + length l) text) i nr l e))
    z
  where
    t : Step
    t = line_step p names l (take (i + length l) text) i nr

    names' : List (List ℕ)
    names' = named names (taken_by p.count names l (take (i + length l) text) i) l

    rest : Outcome
    rest = walk text t.table names' (i + length l + 1) (nr + 1) ls

    go : (a b : Bool) → eqb t.number 0 ≡ b → (rest.number ≡ 0 → in_shape (length text) rest.table ≡ true)
        → (cond a (accepted p nr) (cond b rest (refusal t.number nr))).number ≡ 0
        → in_shape (length text) (cond a (accepted p nr) (cond b rest (refusal t.number nr))).table ≡ true
    go true b q r z = done (length text) p nr s
    go false true q r z = r z
    go false false q r z = no t.number 0 q z

-- a script that passes form gives a table in shape
pub in_shape_lem : (text : List ℕ) → (loaded text).number ≡ 0 → in_shape (length text) (loaded text).table ≡ true
unfolding loaded
in_shape_lem text z = go (ltb 8192 (length text)) z
  where
    go : (b : Bool) → (cond b (refusal 10 0) (walk text empty_table [] 0 1 (lines text))).number ≡ 0
        → in_shape (length text) (cond b (refusal 10 0) (walk text empty_table [] 0 1 (lines text))).table ≡ true
    go true z = absurd (omega arith)
    go false z = walk_sound text empty_table [] 0 1 (lines text) (empty_sound (length text)) refl z
