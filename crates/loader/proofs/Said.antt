-- What an argument's word says is in shape: names below their count, literals finite, texts inside. Assumes nothing.
use Rattle.std.proofs.Common.{Option, Some, None, Ok, Err}
use mathlib.Core.Path.{◌≡◌, refl}
use mathlib.Core.Bool.{Bool, true, false, cond}
use mathlib.Core.List.{List, [], ◌∷◌}
use Prim.Native.Nat.{ℕ, suc, ◌+◌, ◌≤◌, ◌<◌}
use native.Mathlib.Omega.{arith}
use lib.Dec.{ltb, leb, eqb}
use lib.ListN.{length, drop, get_or}
use borrow.Author.Tests.{lt-ltb, le-leb, ltb-true}
use Rattle.text.specs.Cut.{before}
use Rattle.value.specs.Arithmetic.{finite}
use Rattle.value.specs.Literal.{Literal, literal}
use Rattle.value.proofs.Finite.{Sound, literal_sound}
use Rattle.table.specs.Shape.{operand_ok, inside}
use Rattle.word.specs.declared.Class.TheVariants as Class
use Rattle.word.specs.Word.{run, word_at, part, name_form, read_type, small_of, padded, same_bytes, place, seek}
use Rattle.argument.specs.Refusal.{number_of}
use Rattle.argument.specs.declared.Refusal.{Refusal}
use Rattle.argument.specs.declared.Refusal.TheVariants as R
use Rattle.argument.specs.declared.Argument.{Argument}
use Rattle.argument.specs.declared.Argument.TheVariants as A
use Rattle.argument.specs.declared.Form.{Form}
use Rattle.argument.specs.declared.Form.TheVariants as F
use Rattle.argument.specs.Holds.{name_of, operand_of, value_of, text_of, wrong_of}
use Rattle.argument.specs.Argument.{empty_said, known, name_said, fresh, new_said, valued_by, literal_said}
use Rattle.argument.specs.Argument.{known_operand, literal_operand, operand_said, lettered_by, type_said, numbered_by}
use Rattle.argument.specs.Argument.{number_said, signs}
use Rattle.argument.specs.Argument.{compared_by, comparison_said, said, closed_at, text_at, is_text, stopped, said_at}
use Rattle.loader.proofs.Room.{is_new, apart, never}

-- ---- a row that is found is one of the table

abbrev Below : ℕ → Option ℕ → Type 0
Below n (Some i) = i < n
Below n None = Unit {0}

widen : (f : Option ℕ) {n m : ℕ} → n ≤ m → Below n f → Below m f
widen (Some i) h b = omega arith
widen None h b = tt

pick : (b : Bool) (n : ℕ) (x y : Option ℕ) → Below n x → Below n y → Below n (cond b x y)
pick true n x y h k = h
pick false n x y h k = k

place_below : (j : ℕ) (rows : List (List ℕ)) (key : List ℕ) → Below (j + length rows) (place j rows key)
unfolding place
place_below j [] key = tt
place_below j (r ∷ rows) key =
    let l : j + 1 + length rows ≤ j + suc (length rows) = omega arith in
    let m : j < j + suc (length rows) = omega arith in
    let later : Option ℕ = place (j + 1) rows key in
    pick (same_bytes r key) (j + suc (length rows)) (Some j) later m (widen later l (place_below (j + 1) rows key))

pub seek_below : (rows : List (List ℕ)) (w : List ℕ) → Below (length rows) (seek rows w)
unfolding seek
seek_below rows w =
    let l : 0 + length rows ≤ length rows = omega arith in
    let row : Option ℕ = place 0 rows (padded w) in
    pick (leb (length w) 16) (length rows) row None (widen row l (place_below 0 rows (padded w))) tt

-- ---- an argument in shape, in a table of n names over so many bytes

pub record Fit (n size : ℕ) (x : Argument) : Type 0 where
  pub operand : operand_ok n (operand_of x) ≡ true
  pub value : finite (value_of x) ≡ true
  pub text : inside (text_of x) size ≡ true

module _ (n size : ℕ) where
  nothing_inside : leb 0 size ≡ true
  nothing_inside = le-leb 0 size (omega arith)

  either : (b : Bool) (x y : Argument) → Fit n size x → Fit n size y → Fit n size (cond b x y)
  either true x y h k = h
  either false x y h k = k

  empty_fit : Fit n size A.Nothing
  unfolding finite
  empty_fit = record { operand = refl; value = refl; text = nothing_inside }

  wrong_fit : (r : Refusal) → Fit n size (A.Wrong r)
  unfolding finite
  wrong_fit r = record { operand = refl; value = refl; text = nothing_inside }

  name_fit : (i : ℕ) → Fit n size (A.Name i)
  unfolding finite
  name_fit i = record { operand = refl; value = refl; text = nothing_inside }

  known_fit : (f : Option ℕ) → Fit n size (known f)
  known_fit (Some i) = name_fit i
  known_fit None = wrong_fit R.Undeclared

  fresh_fit : (k : ℕ) (f : Option ℕ) → Fit n size (fresh k f)
  fresh_fit k (Some i) = wrong_fit R.DeclaredTwice
  fresh_fit k None = either (ltb k 32) _ _ (name_fit k) (wrong_fit R.TooManyNames)

  valued_fit : (l : Literal) → Sound l → Fit n size (valued_by l)
  unfolding finite
  valued_fit (Ok (v, i)) h = record { operand = refl; value = h; text = nothing_inside }
  valued_fit (Err i) h = wrong_fit R.BadArguments

  known_operand_fit : (f : Option ℕ) → Below n f → Fit n size (known_operand f)
  unfolding finite
  known_operand_fit (Some i) h = record { operand = lt-ltb i n h; value = refl; text = nothing_inside }
  known_operand_fit None h = wrong_fit R.Undeclared

  literal_operand_fit : (l : Literal) → Sound l → Fit n size (literal_operand l)
  unfolding finite
  literal_operand_fit (Ok (v, i)) h = record { operand = h; value = refl; text = nothing_inside }
  literal_operand_fit (Err i) h = wrong_fit R.BadArguments

  type_fit : (t : Option ℕ) → Fit n size (lettered_by t)
  unfolding finite
  type_fit (Some t) = record { operand = refl; value = refl; text = nothing_inside }
  type_fit None = wrong_fit R.BadArguments

  number_fit : (k : Option ℕ) → Fit n size (numbered_by k)
  unfolding finite
  number_fit (Some k) = record { operand = refl; value = refl; text = nothing_inside }
  number_fit None = wrong_fit R.BadArguments

  compared_fit : (f : Option ℕ) → Fit n size (compared_by f)
  unfolding finite
  compared_fit (Some i) = record { operand = refl; value = refl; text = nothing_inside }
  compared_fit None = wrong_fit R.BadArguments

  said_fit : (form : Form) (names : List (List ℕ)) (w : List ℕ) → length names ≤ n → Fit n size (said form names w)
  unfolding said empty_said new_said name_said operand_said literal_said type_said number_said comparison_said
  said_fit F.Nothing names w h = either (eqb (length w) 0) _ _ empty_fit (wrong_fit R.BadArguments)
  said_fit F.New names w h =
      either (name_form w) _ _ (fresh_fit (length names) (seek names w)) (wrong_fit R.BadArguments)
  said_fit F.Name names w h = either (name_form w) _ _ (known_fit (seek names w)) (wrong_fit R.BadArguments)
  said_fit F.Operand names w h =
      let row = widen (seek names w) h (seek_below names w) in
      either (name_form w) _ _ (known_operand_fit (seek names w) row)
      (literal_operand_fit (literal w) (literal_sound w))
  said_fit F.Literal names w h = valued_fit (literal w) (literal_sound w)
  said_fit F.Letters names w h = type_fit (read_type w)
  said_fit F.Number names w h = number_fit (small_of w)
  said_fit F.Comparison names w h = compared_fit (seek signs w)
  said_fit F.Text names w h = wrong_fit R.BadArguments

  closed_fit : (line : List ℕ) (f q : ℕ) → f ≤ q → length line ≤ size → Fit n size (closed_at line f q).argument
  unfolding finite
  closed_fit line f q h k = go (ltb q (length line)) refl
    where
      go : (b : Bool) → ltb q (length line) ≡ b
          → Fit n size (cond b (stopped (A.Text (record { start = f; end = q })) (q + 1))
          (stopped (A.Wrong R.BadArguments) (length line))).argument
      go true e =
          let l : q ≤ size = omega (arith, ltb-true q (length line) e) in
          record { operand = refl; value = refl; text = simp (le-leb f q h, le-leb q size l) }
      go false e = wrong_fit R.BadArguments

  text_fit : (line : List ℕ) (i : ℕ) → length line ≤ size → Fit n size (text_at line i).argument
  unfolding text_at
  text_fit line i k = go (eqb (get_or line (i + run Class.Blank (drop i line)) 0) 34)
    where
      f : ℕ
      f = i + run Class.Blank (drop i line) + 1

      go : (b : Bool)
          → Fit n size (cond b (closed_at line f (f + before 34 (drop f line)))
          (stopped (A.Wrong R.BadArguments) (length line))).argument
      go true = closed_fit line f (f + before 34 (drop f line)) (omega arith) k
      go false = wrong_fit R.BadArguments

  pub fit : (names : List (List ℕ)) (line : List ℕ) (form : Form) (i : ℕ) → length names ≤ n → length line ≤ size
      → Fit n size (said_at names line form i).argument
  unfolding said_at
  fit names line form i h k = go (is_text form)
    where
      go : (b : Bool)
          → Fit n size (cond b (text_at line i)
          (stopped (said form names (part line (word_at line i))) (word_at line i).end)).argument
      go true = text_fit line i k
      go false = said_fit form names (part line (word_at line i)) h

-- ---- a name's number is below the count of names, the name that is declared counted

unfoldable pub is_named : Form → Bool
is_named F.Nothing = false
is_named F.New = true
is_named F.Name = true
is_named F.Operand = false
is_named F.Literal = false
is_named F.Letters = false
is_named F.Number = false
is_named F.Comparison = false
is_named F.Text = false

old_named : (names : List (List ℕ)) (w : List ℕ) (n : ℕ) → length names ≤ n → wrong_of (name_said names w) ≡ None
    → ltb (name_of (name_said names w)) n ≡ true
unfolding name_said number_of
old_named names w n h k = go (name_form w) (seek names w) (widen (seek names w) h (seek_below names w)) k
  where
    go : (b : Bool) (f : Option ℕ) → Below n f → wrong_of (cond b (known f) (A.Wrong R.BadArguments)) ≡ None
        → ltb (name_of (cond b (known f) (A.Wrong R.BadArguments))) n ≡ true
    go true (Some i) l k = lt-ltb i n l
    go true None l k = never k
    go false f l k = never k

new_named : (names : List (List ℕ)) (w : List ℕ) (n : ℕ) → length names < n → wrong_of (new_said names w) ≡ None
    → ltb (name_of (new_said names w)) n ≡ true
unfolding new_said number_of
new_named names w n h k = go (name_form w) (seek names w) (ltb (length names) 32) k
  where
    go : (b : Bool) (f : Option ℕ) (t : Bool)
        → wrong_of (cond b (fresh (length names) f) (A.Wrong R.BadArguments)) ≡ None
        → ltb (name_of (cond b (fresh (length names) f) (A.Wrong R.BadArguments))) n ≡ true
    go true (Some i) t k = never k
    go true None t k = full (ltb (length names) 32) k
      where
        full : (b : Bool) → wrong_of (cond b (A.Name (length names)) (A.Wrong R.TooManyNames)) ≡ None
            → ltb (name_of (cond b (A.Name (length names)) (A.Wrong R.TooManyNames))) n ≡ true
        full true k = lt-ltb (length names) n h
        full false k = never k
    go false f t k = never k

pub named_fit : (names : List (List ℕ)) (line : List ℕ) (form : Form) (i n : ℕ) → is_named form ≡ true
    → cond (is_new form) (length names + 1) (length names) ≤ n
    → wrong_of (said_at names line form i).argument ≡ None → ltb (name_of (said_at names line form i).argument) n ≡ true
unfolding said_at said is_named is_new
named_fit names line F.New i n e h k = new_named names (part line (word_at line i)) n (omega arith) k
named_fit names line F.Name i n e h k = old_named names (part line (word_at line i)) n h k
named_fit names line F.Nothing i n e h k = apart cc
named_fit names line F.Operand i n e h k = apart cc
named_fit names line F.Literal i n e h k = apart cc
named_fit names line F.Letters i n e h k = apart cc
named_fit names line F.Number i n e h k = apart cc
named_fit names line F.Comparison i n e h k = apart cc
named_fit names line F.Text i n e h k = apart cc
