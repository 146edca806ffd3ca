-- Rows as numbers of eight bytes: one byte more in front, what a word's bytes make, and that two keys tell two rows
-- apart. Assumes nothing.
use borrow.Author.Tests.{eq-eqb, ne_eqb, eqb-true, eqb-false, leb-true, leb-false}
use lib.Dec.{eqb, leb}
use lib.ListN.{length, take, drop, get_or, replicate, length-append, length-drop, length-replicate, length-take}
use lib.ListN.{drop_of_length-le}
use lib.Seq.{drop-cons, drop-drop, drop-length, take_all, take-take}
use mathlib.Core.Bool.{Bool, true, false, ◌&&◌, and_assoc, and-true}
use mathlib.Core.List.{List, [], ◌∷◌, ◌++◌}
use mathlib.Core.Path.{◌≡◌, refl, sym, subst, ◌∙◌, ap}
use native.Mathlib.Nat.{pow-suc, one-le-pow, mul_assoc, mul_comm, sub_self}
use native.Mathlib.Omega.{arith}
use Prim.Native.Nat.{ℕ, zero, suc, min, ◌+◌, ◌-◌, ◌*◌, ◌%◌, ◌^◌, ◌≤◌, ◌<◌}
use Rattle.text.specs.Bytes.{byte}
use Rattle.word.specs.Code.{Bytes, none, more, low, Eight, filled_from, Pushed, KeyOf, same_key}
use Rattle.word.specs.declared.Key.{Key}
use Rattle.word.specs.Word.{padded, same_bytes}

-- ---- one byte more in front of eight

fewer : (n : ℕ) (s : List ℕ) → Bytes (take (suc n) s) → Bytes (take n s)
fewer zero s b = none
fewer (suc n) [] b = none
fewer (suc n) (c ∷ s) (more h b) = more h (fewer n s b)

low_below : (n : ℕ) (s : List ℕ) → Bytes (take n s) → low (take n s) < 256 ^ n
unfolding low
low_below zero s b = omega arith
low_below (suc n) [] b = one-le-pow (suc n) 256 (omega arith)
low_below (suc n) (c ∷ s) (more h b) =
    let rest : low (take n s) < 256 ^ n = low_below n s b in
    let power : 256 ^ suc n ≡ 256 ^ n * 256 = pow-suc 256 n in
    omega (arith, h, rest, power)

one_less : (n : ℕ) (s : List ℕ) → low (take (suc n) s) ≡ low (take n s) + 256 ^ n * get_or s n 0
unfolding low
one_less zero [] = omega arith
one_less zero (c ∷ s) = omega arith
one_less (suc n) [] = omega arith
one_less (suc n) (c ∷ s) =
    let rest = one_less n s in
    let d : ℕ = get_or s n 0 in
    let power : 256 ^ suc n * d ≡ 256 * (256 ^ n * d) =
    ap (λ (x : ℕ). x * d) (pow-suc 256 n ∙ mul_comm (256 ^ n) 256) ∙ mul_assoc 256 (256 ^ n) d in
    omega (arith, rest, power)

mod_seven : (x d : ℕ) → x < 256 ^ 7 → (x + 256 ^ 7 * d) % 256 ^ 7 ≡ x
mod_seven x d h = omega (arith, h)

pub pushed : {s : List ℕ} {c n r : ℕ} → Eight s n → Pushed c n r → Eight (c ∷ s) r
unfolding low
pushed {s} {c} {n} {r} e p =
    let seven = low_below 7 s (fewer 7 s e.bytes) in
    let kept : n % 256 ^ 7 ≡ low (take 7 s) =
    ap (λ (x : ℕ). x % 256 ^ 7) (e.is ∙ one_less 7 s) ∙ mod_seven _ _ seven in
    record { is = p.is ∙ ap (λ (x : ℕ). c + 256 * x) kept; bytes = more p.byte (fewer 7 s e.bytes) }

pub no_byte : Eight [] 0
unfolding low
no_byte = record { is = refl; bytes = none }

-- ---- the bytes of a row, from the last of eight on

pub record Gathering (row : List ℕ) (at i n : ℕ) : Type 0 where
  pub size : length row ≡ 16
  pub begun : at ≤ i
  pub within : i ≤ at + 8
  pub eight : Eight (take (at + 8 - i) (drop i row)) n

pub none_yet : {row : List ℕ} {at : ℕ} → length row ≡ 16 → Gathering row at (at + 8) 0
none_yet {row} {at} h =
    record {
      size = h;
      begun = omega arith;
      within = omega arith;
      eight = rw (sub_self (at + 8)) no_byte;
    }

pub gathered_one : {row : List ℕ} {at i n r : ℕ} → Gathering row at i n → at ≤ 8 → at < i
    → Pushed (get_or row (i - 1) 0) n r → Gathering row at (i - 1) r
gathered_one {row} {at} {i} {n} {r} g h l p =
    let before : ℕ = i - 1 in
    let next : suc before ≡ i = omega arith in
    let more_bytes : at + 8 - before ≡ suc (at + 8 - i) = omega (arith, g) in
    let one : take (at + 8 - before) (drop before row) ≡ get_or row before 0 ∷ take (at + 8 - i) (drop i row) =
    rw (more_bytes, drop-cons row before 0 (omega (arith, g)), next) refl in
    record {
      size = g.size;
      begun = omega arith;
      within = omega (arith, g);
      eight = rw one (pushed g.eight p);
    }

pub gathered : {row : List ℕ} {at i n : ℕ} → Gathering row at i n → i ≤ at → Eight (drop at row) n
gathered {row} {at} {i} {n} g h =
    let here : i ≡ at = omega (arith, g) in
    let all : at + 8 - at ≡ 8 = omega arith in
    let e : Eight (take 8 (drop at row)) n = rw (here, all) at g.eight in
    let same : take 8 (take 8 (drop at row)) ≡ take 8 (drop at row) = take-take 8 8 (drop at row) (omega arith) in
    record { is = e.is ∙ ap low same; bytes = subst Bytes same e.bytes }

-- ---- the bytes of a word, filled up with spaces

abbrev spaces : ℕ → List ℕ
spaces n = replicate n (byte " ")

space_bytes : (n : ℕ) → Bytes (spaces n)
space_bytes zero = none
space_bytes (suc n) = more {c = 32} (omega arith) (space_bytes n)

-- as many spaces as one likes, if they are enough
enough : (j a b : ℕ) (w : List ℕ) → j ≤ length w + a → j ≤ length w + b
    → take j (w ++ spaces a) ≡ take j (w ++ spaces b)
enough zero a b w h g = refl
enough (suc j) a b (c ∷ w) h g = ap (λ (l : List ℕ). c ∷ l) (enough j a b w (omega arith) (omega arith))
enough (suc j) zero b [] h g = absurd (omega arith)
enough (suc j) (suc a) zero [] h g = absurd (omega arith)
enough (suc j) (suc a) (suc b) [] h g = ap (λ (l : List ℕ). 32 ∷ l) (enough j a b [] (omega arith) (omega arith))

past_spaces : (j i a b : ℕ) → j ≤ a → i + j ≤ b → take j (spaces a) ≡ take j (drop i (spaces b))
past_spaces j zero a b h g = enough j a b [] (omega arith) (omega arith)
past_spaces j (suc i) a zero h g = absurd (omega arith)
past_spaces j (suc i) a (suc b) h g = past_spaces j i a b h (omega arith)

filled : (j i a b : ℕ) (w : List ℕ) → j ≤ a → i + j ≤ length w + b
    → take j (drop i w ++ spaces a) ≡ take j (drop i (w ++ spaces b))
filled j zero a b w h g = enough j a b w (omega arith) (omega arith)
filled j (suc i) a b [] h g = past_spaces j (suc i) a b h (omega arith)
filled j (suc i) a b (c ∷ w) h g = filled j i a b w h (omega arith)

pub eight_padded : (w : List ℕ) (i n : ℕ) → length w ≤ 16 → i ≤ 8 → Eight (filled_from w i) n
    → Eight (drop i (padded w)) n
unfolding padded
eight_padded w i n h g e =
    let same : take 8 (filled_from w i) ≡ take 8 (drop i (take 16 w ++ spaces (16 - length w))) =
    filled 8 i 8 (16 - length w) w (omega arith) (omega arith)
    ∙ ap (λ (l : List ℕ). take 8 (drop i (l ++ spaces (16 - length w)))) (sym (take_all 16 w h)) in
    record { is = e.is ∙ ap low same; bytes = subst Bytes same e.bytes }

pub record Filling (w : List ℕ) (from i n : ℕ) : Type 0 where
  pub within : i ≤ length w
  pub begun : min from (length w) ≤ i
  pub eight : Eight (filled_from w i) n

pub no_more : (w : List ℕ) (from : ℕ) → Filling w from (length w) 2314885530818453536
unfolding low
no_more w from =
    record {
      within = omega arith;
      begun = omega arith;
      eight = rw (drop-length w) (record { is = refl; bytes = space_bytes 8 });
    }

pub filled_one : {w : List ℕ} {from i n r : ℕ} → Filling w from i n → from < i → Pushed (get_or w (i - 1) 0) n r
    → Filling w from (i - 1) r
filled_one {w} {from} {i} {n} {r} f h p =
    let before : ℕ = i - 1 in
    let next : suc before ≡ i = omega arith in
    let one : filled_from w before ≡ get_or w before 0 ∷ filled_from w i =
    ap (λ (l : List ℕ). l ++ spaces 8)
    (drop-cons w before 0 (omega (arith, f)) ∙ ap (λ (k : ℕ). get_or w before 0 ∷ drop k w) next) in
    record {
      within = omega (arith, f);
      begun = omega (arith, f);
      eight = rw one (pushed f.eight p);
    }

pub filled_all : {w : List ℕ} {from i n : ℕ} → Filling w from i n → i ≤ from → Eight (filled_from w from) n
filled_all {w} {from} {i} {n} f h = go (leb from (length w)) refl
  where
    go : (b : Bool) → leb from (length w) ≡ b → Eight (filled_from w from) n
    go true e =
        let here : i ≡ from = omega (arith, f, leb-true from (length w) e) in
        rw here at f.eight
    go false e =
        let past : length w ≤ from = omega (arith, leb-false from (length w) e) in
        let end : length w ≤ i = omega (arith, f, past) in
        rw (drop_of_length-le w past) (rw (drop_of_length-le w end) at f.eight)

-- ---- two keys

-- two bytes in front of two numbers
digit : (c d x y : ℕ) → c < 256 → d < 256 → eqb (c + 256 * x) (d + 256 * y) ≡ (eqb c d && eqb x y)
digit c d x y h g = go (eqb c d) refl (eqb x y) refl
  where
    go : (p : Bool) → eqb c d ≡ p → (q : Bool) → eqb x y ≡ q → eqb (c + 256 * x) (d + 256 * y) ≡ (p && q)
    go true e true f = eq-eqb (c + 256 * x) (d + 256 * y) (omega (arith, eqb-true c d e, eqb-true x y f))
    go true e false f = ne_eqb (c + 256 * x) (d + 256 * y) (λ z. eqb-false x y f (omega (arith, z, h, g)))
    go false e q f = ne_eqb (c + 256 * x) (d + 256 * y) (λ z. eqb-false c d e (omega (arith, z, h, g)))

same_front : (n : ℕ) (a b : List ℕ) → n ≤ length a → n ≤ length b → Bytes (take n a) → Bytes (take n b)
    → same_bytes a b ≡ (eqb (low (take n a)) (low (take n b)) && same_bytes (drop n a) (drop n b))
unfolding low same_bytes
same_front zero a b l m p q = refl
same_front (suc n) [] b l m p q = absurd (omega arith)
same_front (suc n) (c ∷ a) [] l m p q = absurd (omega arith)
same_front (suc n) (c ∷ a) (d ∷ b) l m (more h p) (more g q) =
    ap (λ (t : Bool). eqb c d && t) (same_front n a b (omega arith) (omega arith) p q)
    ∙ sym (and_assoc (eqb c d) _ _)
    ∙ ap (λ (t : Bool). t && same_bytes (drop n a) (drop n b)) (sym (digit c d _ _ h g))

none_left : (a : List ℕ) → length a ≡ 16 → drop 8 (drop 8 a) ≡ []
none_left a h =
    let short : length a ≤ 8 + 8 = omega arith in
    drop-drop 8 8 a ∙ drop_of_length-le a short

pub same_rows : {a b : List ℕ} {k j : Key} → KeyOf a k → KeyOf b j → same_key k j ≡ same_bytes a b
unfolding same_bytes
same_rows {a} {b} {k} {j} p q =
    let front = same_front 8 a b (omega (arith, p)) (omega (arith, q)) p.front.bytes q.front.bytes in
    let back =
    same_front 8 (drop 8 a) (drop 8 b) (omega (arith, p, length-drop 8 a)) (omega (arith, q, length-drop 8 b))
    p.back.bytes q.back.bytes in
    let front-back = front ∙ ap (λ (t : Bool). eqb (low (take 8 a)) (low (take 8 b)) && t) back in
    rw (p.front.is, q.front.is, p.back.is, q.back.is, front-back, none_left a p.size, none_left b q.size)
    (sym (ap (λ (t : Bool). eqb (low (take 8 a)) (low (take 8 b)) && t) (and-true _)))

-- ---- the key of a word

padded_size : (w : List ℕ) → length w ≤ 16 → length (padded w) ≡ 16
unfolding padded
padded_size w h =
    let space : ℕ = byte " " in
    omega (
      arith,
      length-append (take 16 w) (spaces (16 - length w)),
      length-take 16 w,
      length-replicate (16 - length w) space,
    )

pub key_of_word : (w : List ℕ) (k : Key) → length w ≤ 16 → Eight (filled_from w 0) k.low
    → Eight (filled_from w 8) k.high → KeyOf (padded w) k
key_of_word w k h front back =
    record {
      size = padded_size w h;
      front = eight_padded w 0 k.low h (omega arith) front;
      back = eight_padded w 8 k.high h (omega arith) back;
    }
