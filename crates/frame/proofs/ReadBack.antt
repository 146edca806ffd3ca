-- What the writer writes reads back. Assumes nothing.
use Rattle.std.proofs.Common.{Some}
use Rattle.std.proofs.Common.{◌≡◌, ℕ, ◌+◌, ◌-◌, ◌^◌, ◌<◌, ◌≤◌, Bool, true, false, cond, ◌||◌, ltb, List, [], ◌∷◌}
use Rattle.std.proofs.Common.{◌++◌, length, take, drop, sym, refl, ap, ◌∙◌, ap₂, append_assoc, arith, length-append}
use Rattle.std.proofs.Common.{take_at, drop_at, ltb-false, le-ltb, eq-eqb}
use Rattle.crc.proofs.Linear.{crc_from-lt}
use Rattle.crc.specs.Crc.{crc}
use Rattle.frame.proofs.Newline.{in_hex2, in_hex4, neither}
use Rattle.frame.specs.Frame.{accepted, contains, framed, leaves, next, numbered, refused, unfit, write}
use Rattle.frame.specs.Frame.{read, read_content, right_crc, right_number}
use Rattle.text.proofs.Digits.{reads_part, hex2_back, hex4_back}
use Rattle.text.specs.Hex.{hex_from, read_hex, hex2, hex4}
use Rattle.text.specs.Put.{put}

-- a framed line without its newline
sealed : List ℕ → ℕ → List ℕ
sealed content n = (content ++ hex2 n) ++ hex4 (crc (content ++ hex2 n))

sealed-length : (s : List ℕ) (n : ℕ) → length (sealed s n) ≡ length s + 6
unfolding sealed hex2 hex4
sealed-length s n = simp length-append (omega arith)

module _ (s : List ℕ) (n : ℕ) (h : n < 256) (short : length s ≤ 127) (clean : contains 10 s ≡ false) where
  k : ℕ
  k = crc (s ++ hex2 n)

  in_front_lem : length (s ++ hex2 n) ≡ length s + 2
  unfolding hex2
  in_front_lem = length-append s (hex2 n)

  whole_length : length (sealed s n) ≡ length s + 6
  whole_length = sealed-length s n

  apart : sealed s n ≡ s ++ (hex2 n ++ hex4 k)
  unfolding sealed k
  apart = append_assoc s (hex2 n) (hex4 (crc (s ++ hex2 n)))

  its_front : take (length s + 2) (sealed s n) ≡ s ++ hex2 n
  unfolding sealed
  its_front = take_at (s ++ hex2 n) (hex4 (crc (s ++ hex2 n))) (length s + 2) in_front_lem

  its_crc : take 4 (drop (length s + 2) (sealed s n)) ≡ hex4 k
  unfolding sealed k hex4
  its_crc = ap (take 4) (drop_at (s ++ hex2 n) (hex4 (crc (s ++ hex2 n))) (length s + 2) in_front_lem)

  its_number : take 2 (drop (length s) (sealed s n)) ≡ hex2 n
  unfolding hex2
  its_number =
      ap (λ (l : List ℕ). take 2 (drop (length s) l)) apart ∙ ap (take 2) (drop_at s (hex2 n ++ hex4 k) (length s) refl)

  its_content : take (length s) (sealed s n) ≡ s
  its_content = ap (take (length s)) apart ∙ take_at s (hex2 n ++ hex4 k) (length s) refl

  no_newline : contains 10 (sealed s n) ≡ false
  unfolding sealed
  no_newline =
      neither 10 (s ++ hex2 n) (hex4 (crc (s ++ hex2 n))) (neither 10 s (hex2 n) clean (in_hex2 n))
      (in_hex4 (crc (s ++ hex2 n)))

  k_fits : k < 2 ^ 16
  unfolding k crc
  k_fits = crc_from-lt 0xFFFF (s ++ hex2 n) (omega arith)

  crc_read : read_hex 4 (sealed s n) (length s + 2) ≡ Some k
  crc_read =
      reads_part (sealed s n) (length s + 2) 4 (omega arith) (omega (arith, whole_length))
      ∙ ap (hex_from 0) its_crc ∙ hex4_back k k_fits

  number_read : read_hex 2 (sealed s n) (length s) ≡ Some n
  number_read =
      reads_part (sealed s n) (length s) 2 (omega arith) (omega (arith, whole_length))
      ∙ ap (hex_from 0) its_number ∙ hex2_back n h

  crc_right : right_crc (sealed s n) (length s) ≡ true
  unfolding right_crc k
  crc_right = rw (no_newline, crc_read, its_front) (eq-eqb (crc (s ++ hex2 n)) (crc (s ++ hex2 n)) refl)

  number_right : right_number (sealed s n) (length s) n ≡ true
  unfolding right_number
  number_right = rw number_read (eq-eqb n n refl)

  read_sealed : read (sealed s n) n ≡ accepted (length s) (next n)
  unfolding read read_content
  read_sealed =
      let e : length (sealed s n) - 6 ≡ length s = omega (arith, whole_length) in
      let t : ltb (length (sealed s n)) 6 ≡ false = le-ltb (length (sealed s n)) 6 (omega (arith, whole_length)) in
      let u : ltb 127 (length s) ≡ false = le-ltb 127 (length s) short in
      rw (t, e, u, crc_right, number_right)

-- the first bytes of a buffer that a framed line was put into, one less than were put
without : (s : List ℕ) (n : ℕ) (buf : List ℕ) → take (length s + 7 - 1) (put buf 0 (framed s n)) ≡ sealed s n
unfolding sealed framed numbered put
without s n buf =
    let k : length (sealed s n) ≡ length s + 7 - 1 = omega (arith, sealed-length s n) in
    ap (take (length s + 7 - 1)) (append_assoc (sealed s n) (10 ∷ []) (drop (0 + length (sealed s n ++ 10 ∷ [])) buf))
    ∙ take_at (sealed s n) (10 ∷ drop (0 + length (sealed s n ++ 10 ∷ [])) buf) (length s + 7 - 1) k

-- what a writer's acceptance tells: the content is fit, and `whole` is what it left
record Accepted (content : List ℕ) (n : ℕ) (whole : List ℕ) (m j : ℕ) (out : List ℕ) : Type 0 where
  short : length content ≤ 127
  clean : contains 10 content ≡ false
  many : m ≡ length content + 7
  following : j ≡ next n
  left : out ≡ whole

told : (content : List ℕ) (n : ℕ) (whole buf : List ℕ) (t : Bool) (m j : ℕ) (out : List ℕ)
    → cond (unfit content) (leaves (refused 1 0) buf)
    (cond t (leaves (refused 5 0) buf) (leaves (accepted (length content + 7) (next n)) whole))
    ≡ leaves (accepted m j) out
    → Accepted content n whole m j out
unfolding unfit
told content n whole buf t m j out e = go (ltb 127 (length content)) (contains 10 content) t refl refl e
  where
    go : (u v t : Bool) → ltb 127 (length content) ≡ u → contains 10 content ≡ v
        → cond (u || v) (leaves (refused 1 0) buf)
        (cond t (leaves (refused 5 0) buf) (leaves (accepted (length content + 7) (next n)) whole))
        ≡ leaves (accepted m j) out
        → Accepted content n whole m j out
    go true v t p q e = let z : ◌≡◌ {A = ℕ} 0 1 = cc in absurd (omega arith)
    go false true t p q e = let z : ◌≡◌ {A = ℕ} 0 1 = cc in absurd (omega arith)
    go false false true p q e = let z : ◌≡◌ {A = ℕ} 0 1 = cc in absurd (omega arith)
    go false false false p q e =
        record { short = ltb-false 127 (length content) p; clean = q; many = cc; following = cc; left = cc }

-- Whatever content the writer accepts, under any number: what it wrote, less its newline, read with that number
-- expected, gives the length of the content, which is then the line's front, and the same next number.
pub reads_back : (content : List ℕ) (n : ℕ) (buf : List ℕ) (m next-number : ℕ) (out : List ℕ) → n < 256
    → write content n buf ≡ leaves (accepted m next-number) out
    → (read (take (m - 1) out) n ≡ accepted (length content) next-number)
    × (take (length content) (take (m - 1) out) ≡ content)
unfolding write
reads_back content n buf m j out h e =
    let a : Accepted content n (put buf 0 (framed content n)) m j out =
    told content n _ buf (ltb (length buf) (length content + 7)) m j out e in
    let line : take (m - 1) out ≡ sealed content n =
    ap₂ (λ (x : ℕ) (l : List ℕ). take (x - 1) l) a.many a.left ∙ without content n buf in
    let whole : read (sealed content n) n ≡ accepted (length content) (next n) =
    read_sealed content n h a.short a.clean in (
      ap (λ (l : List ℕ). read l n) line ∙ whole ∙ ap (accepted (length content)) (sym a.following),
      ap (take (length content)) line ∙ its_content content n h a.short a.clean,
    )
