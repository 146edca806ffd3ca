-- Rows in front of lent numbers, four a row: a row is read back and put, so the second pass writes the definition's.
-- Assumes nothing.
use Rattle.std.proofs.Common.{Ok, Err}
use mathlib.Core.Bool.{true, false}
use mathlib.Core.List.{List, [], ◌∷◌, ◌++◌, append_assoc, append-nil}
use mathlib.Core.Path.{◌≡◌, refl, sym, ◌∙◌, ap, ap₂}
use native.Mathlib.Nat.{suc-add, mod-eq_of_lt}
use native.Mathlib.Omega.{arith}
use Prim.Native.Nat.{ℕ, zero, suc, ◌+◌, ◌*◌, ◌/◌, ◌<◌, ◌≤◌}
use borrow.Author.Tests.{lt-ltb, eq-eqb, ne_eqb}
use lib.Dec.{eqb}
use lib.ListN.{length, take, drop, get_or, set, length-set}
use Rattle.text.specs.Put.{put}
use Rattle.text.proofs.Put.{length-put, put_more}
use Rattle.reply_line.specs.declared.RowKind.{RowKind}
use Rattle.reply_line.specs.Line.{letter_of}
use Rattle.reply.specs.declared.Row.{Row}
use Rattle.reply.specs.Code.{cut_row, put_row, Passed, fours, left_by}
use Rattle.reply.specs.Numbers.{ReadNumbers, four_of, listed, room_in, numbers_after, numbers_of, kind_of}
use Rattle.reply.specs.Numbers.{row_at, row_in}
use Rattle.reply.specs.Reply.{Answer, verdict}
use Rattle.reply.specs.Rows.{script_row, rows_of}
use Rattle.reply.proofs.Pass.{Small, Shows}
use Rattle.reply.proofs.Whole.{after, says_verdict, whole_is}

-- ---- rows in front of lent numbers

pub length-listed : (rows : List Row) → length (listed rows) ≡ length rows * 4
unfolding listed four_of
length-listed [] = refl
length-listed (r ∷ rows) = let e : length (listed rows) ≡ length rows * 4 = length-listed rows in omega (arith, e)

pub listed_more : (rows : List Row) (r : Row) → listed (rows ++ (r ∷ [])) ≡ listed rows ++ four_of r
unfolding listed
listed_more [] r = append-nil (four_of r)
listed_more (x ∷ rows) r =
    ap (λ (l : List ℕ). four_of x ++ l) (listed_more rows r)
    ∙ sym (append_assoc (four_of x) (listed rows) (four_of r))

-- a row's k-th number stands at its place
at_row : (rows : List Row) (rest : List ℕ) (i k : ℕ) → i < length rows → k < 4
    → get_or (listed rows ++ rest) (i * 4 + k) 0 ≡ get_or (four_of (get_or rows i script_row)) k 0
unfolding listed four_of
at_row [] rest i k h f = absurd (none i h)
  where
    none : (i : ℕ) → i < 0 → ⊥
    none i h = omega arith
at_row (r ∷ rows) rest zero k h f = by_number k f
  where
    by_number : (k : ℕ) → k < 4 → get_or (listed (r ∷ rows) ++ rest) (zero * 4 + k) 0 ≡ get_or (four_of r) k 0
    by_number zero f = refl
    by_number (suc zero) f = refl
    by_number (suc (suc zero)) f = refl
    by_number (suc (suc (suc zero))) f = refl
    by_number (suc (suc (suc (suc k)))) f = absurd (none k f)
      where
        none : (k : ℕ) → suc (suc (suc (suc k))) < 4 → ⊥
        none k f = omega arith
at_row (r ∷ rows) rest (suc i) k h f =
    let e : suc i * 4 + k ≡ suc (suc (suc (suc (i * 4 + k)))) = omega arith in
    ap (λ (m : ℕ). get_or (listed (r ∷ rows) ++ rest) m 0) e ∙ at_row rows rest i k (omega arith) f

kind_back : (k : RowKind) → kind_of (letter_of k) ≡ k
unfolding kind_of letter_of
kind_back RowKind.Script = refl
kind_back RowKind.Sweep = refl
kind_back RowKind.Loop = refl
kind_back RowKind.Scan = refl

-- by the tests that the code makes: x is the letter of k, or is not
module _ {x m : ℕ} (k : RowKind) (letter : m ≡ letter_of k) where
  pub letter_is : x ≡ m → eqb x (letter_of k) ≡ true
  letter_is e = eq-eqb x (letter_of k) (e ∙ letter)

  pub letter_not : (x ≡ m → ⊥) → eqb x (letter_of k) ≡ false
  letter_not n = ne_eqb x (letter_of k) (λ e. n (e ∙ sym letter))

same_row : (lent : List ℕ) (rows : List Row) (i : ℕ) → i < length rows
    → row_at (put lent 0 (listed rows)) i ≡ get_or rows i script_row
unfolding row_at put four_of
same_row lent rows i h =
    let at : (k : ℕ) → k < 4
    → get_or (put lent 0 (listed rows)) (i * 4 + k) 0 ≡ get_or (four_of (get_or rows i script_row)) k 0 =
    λ k f. at_row rows (drop (0 + length (listed rows)) lent) i k h f in
    let e : i * 4 ≡ i * 4 + 0 = omega arith in
    let first : get_or (put lent 0 (listed rows)) (i * 4) 0 ≡ get_or (put lent 0 (listed rows)) (i * 4 + 0) 0 =
    ap (λ (m : ℕ). get_or (put lent 0 (listed rows)) m 0) e in
    λ j. record {
      kind = (ap kind_of (first ∙ at 0 (omega arith)) ∙ kind_back (get_or rows i script_row).kind) j;
      mark = at 1 (omega arith) j;
      parent = at 2 (omega arith) j;
      packages = at 3 (omega arith) j;
    }

-- as many rows as there are fours
pub four_fit : (m : ℕ) → m / 4 * 4 ≤ m
four_fit m = omega arith

fits_four : (i n m : ℕ) → i < n → n * 4 ≤ m → i < m / 4
fits_four i n m h f = omega arith

pub row_back : (lent : List ℕ) (rows : List Row) (i : ℕ) → i < length rows → length rows * 4 ≤ length lent
    → row_in (put lent 0 (listed rows)) i ≡ get_or rows i script_row
unfolding row_in
row_back lent rows i h fit =
    let same : length (put lent 0 (listed rows)) ≡ length lent =
    length-put lent (listed rows) 0 (omega (arith, length-listed rows)) in
    rw
    (lt-ltb i (length (put lent 0 (listed rows)) / 4)
    (fits_four i (length rows) (length (put lent 0 (listed rows))) h (omega arith)))
    (same_row lent rows i h)

-- ---- a row that is put among them

whole_row : (r : Row) → Small r → cut_row r ≡ four_of r
unfolding cut_row four_of
whole_row r small =
    ap₂ (λ (a b : ℕ). letter_of r.kind ∷ r.mark ∷ a ∷ b ∷ []) (mod-eq_of_lt small.parent)
    (mod-eq_of_lt small.packages)

put_behind : (x : ℕ) (l : List ℕ) (p : ℕ) (vs : List ℕ) → put (x ∷ l) (suc p) vs ≡ x ∷ put l p vs
unfolding put
put_behind x l p vs = ap (λ (m : ℕ). x ∷ (take p l ++ vs ++ drop m (x ∷ l))) (suc-add p (length vs))

put_there : (rows : List Row) (rest : List ℕ) (i : ℕ) (r : Row) → i < length rows
    → put (listed rows ++ rest) (i * 4) (four_of r) ≡ listed (set rows i r) ++ rest
unfolding listed four_of put
put_there [] rest i r h = absurd (none i h)
  where
    none : (i : ℕ) → i < 0 → ⊥
    none i h = omega arith
put_there (x ∷ rows) rest zero r h = refl
put_there (x ∷ rows) rest (suc i) r h =
    let e : suc i * 4 ≡ suc (suc (suc (suc (i * 4)))) = omega arith in
    let l : List ℕ = listed rows ++ rest in
    let vs : List ℕ = four_of r in
    ap (λ (m : ℕ). put (listed (x ∷ rows) ++ rest) m vs) e
    ∙ put_behind (letter_of x.kind) (x.mark ∷ x.parent ∷ x.packages ∷ l) (suc (suc (suc (i * 4)))) vs
    ∙ ap (λ (t : List ℕ). letter_of x.kind ∷ t)
    (put_behind x.mark (x.parent ∷ x.packages ∷ l) (suc (suc (i * 4))) vs
    ∙ ap (λ (t : List ℕ). x.mark ∷ t)
    (put_behind x.parent (x.packages ∷ l) (suc (i * 4)) vs
    ∙ ap (λ (t : List ℕ). x.parent ∷ t)
    (put_behind x.packages l (i * 4) vs
    ∙ ap (λ (t : List ℕ). x.packages ∷ t) (put_there rows rest i r (omega arith)))))

-- over one of them
pub put_over : (lent : List ℕ) (rows : List Row) (i : ℕ) (r : Row) → i < length rows → Small r
    → put_row (put lent 0 (listed rows)) i r ≡ put lent 0 (listed (set rows i r))
unfolding put_row put
put_over lent rows i r h small =
    let same : length (listed rows) ≡ length (listed (set rows i r)) =
    length-listed rows ∙ ap (λ (m : ℕ). m * 4) (sym (length-set rows i r))
    ∙ sym (length-listed (set rows i r)) in
    ap (λ (vs : List ℕ). put (put lent 0 (listed rows)) (i * 4) vs) (whole_row r small)
    ∙ put_there rows (drop (0 + length (listed rows)) lent) i r h
    ∙ ap (λ (m : ℕ). listed (set rows i r) ++ drop (0 + m) lent) same

-- behind the last
pub put_next : (lent : List ℕ) (rows : List Row) (r : Row) → length rows * 4 ≤ length lent → Small r
    → put_row (put lent 0 (listed rows)) (length rows) r ≡ put lent 0 (listed (rows ++ (r ∷ [])))
unfolding put_row
put_next lent rows r fit small =
    ap (λ (vs : List ℕ). put (put lent 0 (listed rows)) (length rows * 4) vs) (whole_row r small)
    ∙ put_more lent (listed rows) (four_of r) 0 (length rows * 4) (omega (arith, length-listed rows)) fit
    ∙ ap (λ (vs : List ℕ). put lent 0 vs) (sym (listed_more rows r))

-- as many numbers as before
pub same_size : (lent : List ℕ) (at : ℕ) (r : Row) → at * 4 + 4 ≤ length lent → length (put_row lent at r) ≡ length lent
unfolding put_row cut_row
same_size lent at r h = length-put lent (cut_row r) (at * 4) h

-- ---- the pass over lent numbers

abbrev shown : List ℕ → List Row → List ℕ
shown lent rows = put lent 0 (listed rows)

room_for : (m n : ℕ) → n ≤ m / 4 → n * 4 ≤ m
room_for m n h = omega arith

pub shows_fours : (lent : List ℕ) → Shows fours (room_in lent) (shown lent)
shows_fours lent =
    record {
      reads = λ rows i fit h. row_back lent rows i h (room_for (length lent) (length rows) fit);
      over = λ rows i r h small. put_over lent rows i r h small;
      behind = λ rows r h small. put_next lent rows r (room_for (length lent) (length rows) (omega arith)) small;
    }

none_listed : (lent : List ℕ) → shown lent [] ≡ lent
unfolding listed put
none_listed lent = refl

pub numbers_are : (s lent : List ℕ) → left_by fours s (room_in lent) (verdict (room_in lent) s) lent ≡ numbers_of s lent
unfolding numbers_of numbers_after listed put
numbers_are s lent = whole_is (shows_fours lent) s ∙ by_answer (verdict (room_in lent) s)
  where
    by_answer : (v : Answer)
        → after v (shown lent (rows_of (room_in lent) s)) lent ≡ numbers_after v (rows_of (room_in lent) s) lent
    by_answer (Ok read) = refl
    by_answer (Err refused) = refl

pub read_listed : (s lent : List ℕ) {r : Answer} {out : List ℕ} → Passed fours (room_in lent) s lent r out
    → ReadNumbers s lent r out
read_listed s lent p =
    record {
      says = says_verdict _ s p.says;
      numbers = p.left ∙ ap (λ (v : Answer). left_by fours s (room_in lent) v lent) p.says ∙ numbers_are s lent;
    }
