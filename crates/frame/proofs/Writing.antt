-- The steps of the writer, one after the other, put a framed line. Assumes nothing.
use Rattle.std.proofs.Common.{◌≡◌, ℕ, ◌+◌, ◌≤◌, List, [], ◌∷◌, ◌++◌, length, take, set, sym, ap, ◌∙◌, arith}
use Rattle.std.proofs.Common.{length-append}
use Rattle.crc.specs.Crc.{crc}
use Rattle.frame.specs.Frame.{framed, numbered}
use Rattle.text.proofs.Put.{fitting, front, length-put, put_more, put_in_more, stores1}
use Rattle.text.specs.Hex.{hex2, hex4}
use Rattle.text.specs.Put.{put, put_in}

-- the buffer after the content, after the number's digits, and after those of k, the CRC of what then stands
pub record Steps (buf content : List ℕ) (n : ℕ) (l₁ l₂ l₃ : List ℕ) (k : ℕ) : Type 0 where
  pub room : length content + 7 ≤ length buf
  pub bytes : l₁ ≡ put_in buf 0 content
  pub number : l₂ ≡ put_in l₁ (length content) (hex2 n)
  pub sum : k ≡ crc (take (length content + 2) l₂)
  pub digits : l₃ ≡ put_in l₂ (length content + 2) (hex4 k)

module _ (content : List ℕ) (n : ℕ) where
  -- the content with its number, and with the CRC k behind it
  abbrev with_number : List ℕ
  with_number = content ++ hex2 n

  abbrev with_crc : ℕ → List ℕ
  with_crc k = content ++ hex2 n ++ hex4 k

  two : length with_number ≡ length content + 2
  unfolding hex2
  two = length-append content (hex2 n)

  six : (k : ℕ) → length (with_crc k) ≡ length content + 6
  unfolding hex2 hex4
  six k = simp length-append (omega arith)

  module _ (buf : List ℕ) (h : length content + 7 ≤ length buf) where
    digits2 : put_in (put buf 0 content) (length content) (hex2 n) ≡ put buf 0 with_number
    unfolding hex2
    digits2 = put_in_more buf content (hex2 n) 0 (length content) (omega arith) (omega arith)

    digits4 : (k : ℕ) → put_in (put buf 0 with_number) (length content + 2) (hex4 k) ≡ put buf 0 (with_crc k)
    unfolding hex4
    digits4 k = put_in_more buf with_number (hex4 k) 0 (length content + 2) (omega (arith, two)) (omega arith)

    newline : (k : ℕ) → set (put buf 0 (with_crc k)) (length content + 6) 10 ≡ put buf 0 (with_crc k ++ 10 ∷ [])
    newline k =
        let e : length (put buf 0 (with_crc k)) ≡ length buf = length-put buf (with_crc k) 0 (omega (arith, six k)) in
        stores1 (put buf 0 (with_crc k)) (length content + 6) 10 (omega arith)
        ∙ put_more buf (with_crc k) (10 ∷ []) 0 (length content + 6) (omega (arith, six k)) (omega arith)

pub whole : {buf content : List ℕ} {n : ℕ} {l₁ l₂ l₃ : List ℕ} {k : ℕ} → Steps buf content n l₁ l₂ l₃ k
    → set l₃ (length content + 6) 10 ≡ put buf 0 (framed content n)
unfolding framed numbered
whole {buf} {content} {n} {l₁} {l₂} {l₃} {k} s =
    let m : ℕ = length content + 2 in
    let sealed : List ℕ = with_number content n in
    let p₁ : l₁ ≡ put buf 0 content = s.bytes ∙ fitting buf content 0 (omega (arith, s.room)) in
    let p₂ : l₂ ≡ put buf 0 sealed =
    s.number ∙ ap (λ (l : List ℕ). put_in l (length content) (hex2 n)) p₁ ∙ digits2 content n buf s.room in
    let t : take m (put buf 0 sealed) ≡ sealed =
    ap (λ (x : ℕ). take x (put buf 0 sealed)) (sym (two content n)) ∙ front buf sealed in
    let c : k ≡ crc sealed = s.sum ∙ ap crc (ap (take m) p₂ ∙ t) in
    let p₃ : l₃ ≡ put buf 0 (with_crc content n k) =
    s.digits ∙ ap (λ (l : List ℕ). put_in l m (hex4 k)) p₂ ∙ digits4 content n buf s.room k in
    ap (λ (l : List ℕ). set l (length content + 6) 10) p₃ ∙ newline content n buf s.room k
    ∙ ap (λ (x : ℕ). put buf 0 (with_crc content n x ++ 10 ∷ [])) c
