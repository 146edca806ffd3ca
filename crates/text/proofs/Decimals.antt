-- Laws of decimals: making a number's digits, reading digits one by one, and reading back what was made. Assumes
-- nothing.
use borrow.Author.Tests.{le-leb, le-ltb, leb-true, lt-ltb, ltb-false, ltb-true}
use lib.Dec.{leb, ltb}
use lib.ListN.{drop, drop_of_length-le, get_or, length, length-append, length-drop}
use lib.ListN.{length-set, replicate, set, take, take-append-drop}
use lib.Seq.{drop-append_seam, drop-cons, drop-set-lt, get_or-set_same, take-set-le, take-take}
use mathlib.Core.Bool.{Bool, ◌&&◌, false, true}
use mathlib.Core.List.{List, [], ◌∷◌, ◌++◌, append_assoc, append-nil}
use mathlib.Core.Path.{◌≡◌, ◌∙◌, ap, ap₂, refl, sym}
use native.Mathlib.Decide.{dec_lt}
use native.Mathlib.Nat.{add-zero, div-add-mod', le_of_suc-le-suc, mod-eq_of_lt, mod-lt, pow-suc, zero-add}
use native.Mathlib.Numerals.{add-one}
use native.Mathlib.Omega.{arith}
use Prim.Native.Nat.{ℕ, zero, suc, max, min, ◌+◌, ◌-◌, ◌*◌, ◌/◌, ◌%◌, ◌^◌, ◌≤◌, ◌<◌}
use Rattle.text.proofs.Digits.{grows}
use Rattle.text.specs.Bytes.{digit}
use Rattle.text.specs.Decimal.{decimal, decimal_of, digit_run, digits, digits_in, number, number_at, number_from}
use Rattle.text.specs.declared.Decimal.{Decimal}
use Rattle.text.specs.declared.Number.{Number}

-- ---- a number's digits: one below ten; otherwise those of the tenth, and the last

last_small : (n : ℕ) → n % 10 < 10
last_small n = mod-lt n (omega arith)

parted : (n : ℕ) → n / 10 * 10 + n % 10 ≡ n
parted n = div-add-mod' n 10

tenth_less : (n f : ℕ) → 10 ≤ n → n < suc f → n / 10 < f
tenth_less n f h k = omega (arith, parted n)

-- more digits than are needed are not used
enough : (f g n : ℕ) → n < f → n < g → digits f n ≡ digits g n
unfolding digits
enough zero g n h k = absurd (omega arith)
enough (suc f) zero n h k = absurd (omega arith)
enough (suc f) (suc g) n h k = go (ltb n 10) refl (enough f g (n / 10))
  where
    go : (b : Bool) → ltb n 10 ≡ b → (n / 10 < f → n / 10 < g → digits f (n / 10) ≡ digits g (n / 10))
        → digits (suc f) n ≡ digits (suc g) n
    go true e rec = rw e
    go false e rec = rw (e, rec (tenth_less n f (ltb-false n 10 e) h) (tenth_less n g (ltb-false n 10 e) k))

pub one_digit : (n : ℕ) → n < 10 → decimal n ≡ (48 + n) ∷ []
unfolding decimal digits
one_digit n h = rw (lt-ltb n 10 h)

pub more_digits : (n : ℕ) → 10 ≤ n → decimal n ≡ decimal (n / 10) ++ ((48 + n % 10) ∷ [])
unfolding decimal digits
more_digits n h = rw (le-ltb n 10 h, enough n (suc (n / 10)) (n / 10) (tenth_less n n h (omega arith)) (omega arith))

-- ---- how many digits

below_tenth : (n m : ℕ) → n < m * 10 → n / 10 < m
below_tenth n m h = omega (arith, parted n)

short_digits : (k f n : ℕ) → n < 10 ^ suc k → n < f → length (digits f n) ≤ suc k
unfolding digits
short_digits k zero n h g = absurd (omega arith)
short_digits zero (suc f) n h g = rw (lt-ltb n 10 h) (omega arith)
short_digits (suc k) (suc f) n h g = go (ltb n 10) refl (short_digits k f (n / 10))
  where
    go : (b : Bool) → ltb n 10 ≡ b → (n / 10 < 10 ^ suc k → n / 10 < f → length (digits f (n / 10)) ≤ suc k)
        → length (digits (suc f) n) ≤ suc (suc k)
    go true e rec = rw e (omega arith)
    go false e rec =
        let p = rec (below_tenth n (10 ^ suc k) (rw (pow-suc 10 (suc k)) at h)) (tenth_less n f (ltb-false n 10 e) g) in
        rw (e, length-append (digits f (n / 10)) ((48 + n % 10) ∷ [])) (omega (arith, p))

-- as many as the power of ten above it says
pub at_most : (k n : ℕ) → n < 10 ^ suc k → length (decimal n) ≤ suc k
unfolding decimal
at_most k n h = short_digits k (suc n) n h (omega arith)

pub few_digits : (n : ℕ) → n < 2 ^ 64 → length (decimal n) ≤ 20
few_digits n h = at_most 19 n (omega (arith, h, room))
  where
    room : 2 ^ 64 ≤ 10 ^ 20
    room = omega arith

pub some_digits : (n : ℕ) → 0 < length (decimal n)
some_digits n = go (ltb n 10) refl
  where
    go : (b : Bool) → ltb n 10 ≡ b → 0 < length (decimal n)
    go true q = rw (one_digit n (ltb-true n 10 q)) (omega arith)
    go false q =
        rw (more_digits n (ltb-false n 10 q), length-append (decimal (n / 10)) ((48 + n % 10) ∷ [])) (omega arith)

-- ---- laid from the end

zeros : (m n : ℕ) → m ≤ n → take {A = ℕ} m (replicate n 0) ≡ replicate m 0
zeros zero n h = refl
zeros (suc m) zero h = absurd (omega arith)
zeros (suc m) (suc n) h = ap {B = List ℕ} (λ l. 0 ∷ l) (zeros m n (le_of_suc-le-suc h))

-- behind `from` stand the last digits of n, before it nothing yet; those of `rest` are still to be laid
pub record Laid (bytes : List ℕ) (from rest n : ℕ) : Type 0 where
  pub wide : length bytes ≡ 20
  pub within : from ≤ 20
  pub left : length (decimal rest) ≤ from
  pub clear : take from bytes ≡ replicate from 0
  pub same : decimal rest ++ drop from bytes ≡ decimal n

pub laid_first : (n : ℕ) → n < 2 ^ 64 → Laid (replicate 20 0) 20 n n
laid_first n h =
    record { wide = refl; within = omega arith; left = few_digits n h; clear = refl; same = append-nil (decimal n) }

pub tenth_small : (n : ℕ) → 10 ≤ n → n / 10 < n
tenth_small n h = tenth_less n n h (omega arith)

module _ {bytes : List ℕ} {from rest n : ℕ} (w : Laid bytes from rest n) where
  pub room_for : 1 ≤ from
  room_for = omega (arith, w.left, some_digits rest)

  pub place_in_lem : from - 1 < 20
  place_in_lem = omega (arith, w.within, room_for)

  -- a byte in front of those that are laid
  module _ (v : ℕ) where
    abbrev now : List ℕ
    now = set bytes (from - 1) v

    put_wide : length now ≡ 20
    put_wide = length-set bytes (from - 1) v ∙ w.wide

    put_clear : take (from - 1) now ≡ replicate (from - 1) 0
    put_clear =
        let h : from - 1 ≤ from = omega arith in
        take-set-le (from - 1) bytes (from - 1) v (omega arith) ∙ sym (take-take (from - 1) from bytes h)
        ∙ rw w.clear (zeros (from - 1) from h)

    put_digit : drop (from - 1) now ≡ v ∷ drop from bytes
    put_digit =
        let s : suc (from - 1) ≡ from = omega (arith, room_for) in
        let h : from - 1 < length bytes = omega (arith, w.wide, place_in_lem) in
        drop-cons now (from - 1) 0 (omega (arith, w.wide, put_wide, h))
        ∙ rw (get_or-set_same bytes (from - 1) v 0 h, drop-set-lt (suc (from - 1)) bytes (from - 1) v (omega arith), s)

  pub laid_more : 10 ≤ rest → {v : ℕ} → v ≡ 48 + rest % 10 → Laid (set bytes (from - 1) v) (from - 1) (rest / 10) n
  laid_more q {v} e =
      let k = ap length (more_digits rest q) ∙ length-append (decimal (rest / 10)) ((48 + rest % 10) ∷ []) in
      record {
        wide = put_wide v;
        within = omega (arith, w.within);
        left = omega (arith, w.left, k);
        clear = put_clear v;
        same =
            rw (put_digit v, e)
            (sym (append_assoc (decimal (rest / 10)) ((48 + rest % 10) ∷ []) (drop from bytes))
            ∙ rw (← (more_digits rest q)) w.same);
      }

  -- with the first digit
  module _ (q : rest < 10) {v : ℕ} (e : v ≡ 48 + rest % 10) where
    all : drop (from - 1) (now v) ≡ decimal n
    all = rw (put_digit v, e, mod-eq_of_lt q) (rw (one_digit rest q) at w.same)

    begin : 20 - length (decimal n) ≡ from - 1
    begin = omega (arith, ap length all, length-drop (from - 1) (now v), put_wide v, place_in_lem)

    pub laid_last : ◌≡◌ {A = Decimal} (record { bytes = set bytes (from - 1) v; from = from - 1 }) (decimal_of n)
    unfolding decimal_of
    laid_last =
        rw begin
        (ap {B = Decimal} (λ (l : List ℕ). record { bytes = l; from = from - 1 })
        (sym (take-append-drop (from - 1) (now v)) ∙ ap₂ ◌++◌ (put_clear v) all))

-- ---- and lent

behind : (k : ℕ) (l : List ℕ) → drop k (replicate k 0 ++ l) ≡ l
behind zero l = refl
behind (suc k) l = behind k l

pub digits_are : (n : ℕ) → n < 2 ^ 64 → {d : Decimal} → d ≡ decimal_of n → digits_in d ≡ decimal n
unfolding decimal_of
digits_are n h e = rw e (behind (20 - length (decimal n)) (decimal n))

-- ---- digits in front

pub digit_fits : (c : ℕ) → digit c ≡ true → (48 ≤ c) × (c ≤ 57)
unfolding digit
digit_fits c e = go (leb 48 c) (leb c 57) refl refl e
  where
    go : (a b : Bool) → leb 48 c ≡ a → leb c 57 ≡ b → (a && b) ≡ true → (48 ≤ c) × (c ≤ 57)
    go true true p q r = (leb-true _ _ p, leb-true _ _ q)
    go true false p q r = (let z : ◌≡◌ {A = ℕ} 0 1 = cc in absurd (omega arith))
    go false b p q r = (let z : ◌≡◌ {A = ℕ} 0 1 = cc in absurd (omega arith))

module _ (c : ℕ) (s : List ℕ) where
  pub run_more : digit c ≡ true → digit_run (c ∷ s) ≡ suc (digit_run s)
  unfolding digit
  run_more e = rw e

  pub run_ends : digit c ≡ false → digit_run (c ∷ s) ≡ 0
  unfolding digit
  run_ends e = rw e

  pub from_more : (v : ℕ) → digit c ≡ true → number_from v (c ∷ s) ≡ number_from (v * 10 + (c - 48)) s
  unfolding digit
  from_more v e = rw e

  pub from_ends : (v : ℕ) → digit c ≡ false → number_from v (c ∷ s) ≡ v
  unfolding digit
  from_ends v e = rw e

by_digit : {P : Type 0} (c : ℕ) → (digit c ≡ true → P) → (digit c ≡ false → P) → P
by_digit {P} c f g = go (digit c) f g refl
  where
    go : (b : Bool) → (digit c ≡ true → P) → (digit c ≡ false → P) → digit c ≡ b → P
    go true f g e = f e
    go false f g e = g e

pub run_le : (s : List ℕ) → digit_run s ≤ length s
run_le [] = omega arith
run_le (c ∷ s) =
    by_digit c (λ e. rw (run_more c s e) (omega (arith, run_le s))) (λ e. rw (run_ends c s e) (omega arith))

-- digits never make a number less
grows_on : (v : ℕ) (s : List ℕ) → v ≤ number_from v s
grows_on v [] = omega arith
grows_on v (c ∷ s) =
    by_digit c (λ e. rw (from_more c s v e) (omega (arith, grows_on (v * 10 + (c - 48)) s)))
    (λ e. rw (from_ends c s v e) (omega arith))

below_from : (s : List ℕ) (v i : ℕ) → v < 10 ^ i → number_from v s < 10 ^ (i + digit_run s)
below_from [] v i h = rw (add-zero i) h
below_from (c ∷ s) v i h =
    by_digit c
    (λ e.
    let p : i + suc (digit_run s) ≡ i + 1 + digit_run s = omega arith in
    let d : c - 48 < 10 = omega (arith, digit_fits c e) in
    rw (from_more c s v e, run_more c s e, p)
    (below_from s (v * 10 + (c - 48)) (i + 1) (grows 10 v (c - 48) i h d)))
    (λ e. rw (from_ends c s v e, run_ends c s e, add-zero i) h)

-- k digits make a number below the k-th power of ten
pub number_below : (s : List ℕ) → number s < 10 ^ digit_run s
number_below s = rw (zero-add (digit_run s)) at (below_from s 0 0 (omega arith))

-- ---- reading: a turn of the loop, and its end

-- from the place i on, behind digits that make v
abbrev onward : List ℕ → ℕ → ℕ → Number
onward s v i = record { number = min (number_from v (drop i s)) (2 ^ 64 - 1); next = i + digit_run (drop i s) }

-- what is read from here is what is read from the beginning
pub record Reading (s : List ℕ) (at v i : ℕ) : Type 0 where
  pub fits : v < 2 ^ 64
  pub same : onward s v i ≡ number_at s at

pub begun : (s : List ℕ) (at : ℕ) → Reading s at 0 at
unfolding number_at
begun s at = record { fits = omega arith; same = refl }

-- what is above the largest stays there
capped : (v m : ℕ) (s : List ℕ) → min (number_from (min v m) s) m ≡ min (number_from v s) m
capped v m s = go (dec_lt v m)
  where
    go : Dec (v < m) → min (number_from (min v m) s) m ≡ min (number_from v s) m
    go (yes h) = let e : min v m ≡ v = omega arith in rw e
    go (no h) =
        let e : min v m ≡ m = omega arith in
        rw e (omega (arith, grows_on m s, grows_on v s))

module _ {s : List ℕ} {at v i : ℕ} (r : Reading s at v i) where
  -- no digit stands here
  stopped : digit_run (drop i s) ≡ 0 → number_from v (drop i s) ≡ v
      → ◌≡◌ {A = Number} (record { number = v; next = i }) (number_at s at)
  stopped e f =
      let m : min v (2 ^ 64 - 1) ≡ v = omega (arith, r.fits) in
      let n : i + 0 ≡ i = omega arith in
      rw (e, f, m, n) at r.same

  pub read_end : length s ≤ i → ◌≡◌ {A = Number} (record { number = v; next = i }) (number_at s at)
  read_end h = stopped (rw (drop_of_length-le s h)) (rw (drop_of_length-le s h))

  -- where the loop ends, at the greater of the two
  pub read_all : at ≤ i → length s ≤ i
      → ◌≡◌ {A = Number} (record { number = v; next = max at (length s) }) (number_at s at)
  unfolding number_at
  read_all g h =
      let e : i + digit_run (drop i s) ≡ at + digit_run (drop at s) = ap (λ (n : Number). n.next) r.same in
      let m : max at (length s) ≡ i = omega (arith, e, run_le (drop at s), length-drop at s) in
      rw m (read_end h)

  module _ (more : i < length s) where
    abbrev c : ℕ
    c = get_or s i 0

    pub read_stop : digit c ≡ false → ◌≡◌ {A = Number} (record { number = v; next = i }) (number_at s at)
    read_stop e =
        stopped (rw (drop-cons s i 0 more) (run_ends c (drop (suc i) s) e))
        (rw (drop-cons s i 0 more) (from_ends c (drop (suc i) s) v e))

    pub read_more : digit c ≡ true → {w : ℕ} → w ≡ min (v * 10 + (c - 48)) (2 ^ 64 - 1) → Reading s at w (i + 1)
    read_more e {w} q =
        record {
          fits = omega (arith, q);
          same = rw (q, add-one i) (next (v * 10 + (c - 48)) refl ∙ r.same);
        }
      where
        next : (u : ℕ) → u ≡ v * 10 + (c - 48) → onward s (min u (2 ^ 64 - 1)) (suc i) ≡ onward s v i
        next u f =
            let p : suc i + digit_run (drop (suc i) s) ≡ i + suc (digit_run (drop (suc i) s)) = omega arith in
            rw (
              drop-cons s i 0 more,
              run_more c (drop (suc i) s) e,
              from_more c (drop (suc i) s) v e,
              capped u (2 ^ 64 - 1) (drop (suc i) s),
              f,
              p,
            )

-- what the loop's goals want
pub ruleset reading = (begun, digit_fits, read_more, read_stop, read_all)

-- ---- read back

last_is_digit : (n : ℕ) → n < 10 → digit (48 + n) ≡ true
unfolding digit
last_is_digit n h = rw (le-leb 48 (48 + n) (omega arith), le-leb (48 + n) 57 (omega arith))

one_read : (v n : ℕ) (s : List ℕ) → n < 10 → number_from v ((48 + n) ∷ s) ≡ number_from (v * 10 + n) s
one_read v n s h =
    let e : 48 + n - 48 ≡ n = omega arith in
    from_more (48 + n) s v (last_is_digit n h) ∙ rw e

digits_read : (f n : ℕ) (s : List ℕ) → n < f → number (digits f n ++ s) ≡ number_from n s
unfolding digits
digits_read zero n s h = absurd (omega arith)
digits_read (suc f) n s h = go (ltb n 10) refl (digits_read f (n / 10))
  where
    go : (b : Bool) → ltb n 10 ≡ b
        → ((t : List ℕ) → n / 10 < f → number (digits f (n / 10) ++ t) ≡ number_from (n / 10) t)
        → number (digits (suc f) n ++ s) ≡ number_from n s
    go true e rec =
        rw e (one_read 0 n s (ltb-true n 10 e) ∙ ap (λ (v : ℕ). number_from v s) (zero-add n))
    go false e rec =
        rw (e, append_assoc (digits f (n / 10)) ((48 + n % 10) ∷ []) s)
        (rec ((48 + n % 10) ∷ s) (tenth_less n f (ltb-false n 10 e) h)
        ∙ one_read (n / 10) (n % 10) s (last_small n)
        ∙ ap (λ (v : ℕ). number_from v s) (parted n))

digits_run : (f n : ℕ) (s : List ℕ) → digit_run (digits f n ++ s) ≡ length (digits f n) + digit_run s
unfolding digits
digits_run zero n s = sym (zero-add (digit_run s))
digits_run (suc f) n s = go (ltb n 10) refl (digits_run f (n / 10))
  where
    one : (d : ℕ) → d < 10 → digit_run ((48 + d) ∷ s) ≡ suc (digit_run s)
    one d h = run_more (48 + d) s (last_is_digit d h)

    go : (b : Bool) → ltb n 10 ≡ b
        → ((t : List ℕ) → digit_run (digits f (n / 10) ++ t) ≡ length (digits f (n / 10)) + digit_run t)
        → digit_run (digits (suc f) n ++ s) ≡ length (digits (suc f) n) + digit_run s
    go true e rec = rw e (one n (ltb-true n 10 e) ∙ omega arith)
    go false e rec =
        let d = (48 + n % 10) ∷ [] in
        rw (e, append_assoc (digits f (n / 10)) d s, length-append (digits f (n / 10)) d)
        (rec ((48 + n % 10) ∷ s) ∙ rw (one (n % 10) (last_small n)) (omega arith))

-- the digits of n, and behind them what does not begin with a digit
module _ (n : ℕ) (s : List ℕ) (apart : digit_run s ≡ 0) where
  ends_here : (t : List ℕ) → digit_run t ≡ 0 → number_from n t ≡ n
  ends_here [] e = refl
  ends_here (c ∷ t) e =
      by_digit c (λ d. absurd (omega (arith, sym (run_more c t d) ∙ e))) (λ d. from_ends c t n d)

  pub decimal_back : number (decimal n ++ s) ≡ n
  unfolding decimal
  decimal_back = digits_read (suc n) n s (omega arith) ∙ ends_here s apart

  pub decimal_run : digit_run (decimal n ++ s) ≡ length (decimal n)
  unfolding decimal
  decimal_run = digits_run (suc n) n s ∙ rw apart (omega arith)

  pub decimal_rest : drop (digit_run (decimal n ++ s)) (decimal n ++ s) ≡ s
  decimal_rest = rw decimal_run (drop-append_seam (decimal n) s)

  pub read_back : n < 2 ^ 64 → number_at (decimal n ++ s) 0 ≡ record { number = n; next = length (decimal n) }
  unfolding number_at
  read_back h =
      let m : min n (2 ^ 64 - 1) ≡ n = omega arith in
      rw (decimal_back, decimal_run, m, zero-add (length (decimal n)))

-- and nothing behind them
pub alone_back : (n : ℕ) → number (decimal n) ≡ n
alone_back n = ap number (sym (append-nil (decimal n))) ∙ decimal_back n [] refl

pub alone_rest : (n : ℕ) → drop (digit_run (decimal n)) (decimal n) ≡ []
alone_rest n = ap (λ (l : List ℕ). drop (digit_run l) l) (sym (append-nil (decimal n))) ∙ decimal_rest n [] refl
