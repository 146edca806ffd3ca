-- What a read's answer means, and what it leaves in the buffer and with the reader. Assumes nothing.
use Rattle.std.proofs.Common.{◌≡◌, ℕ, zero, suc, ◌+◌, ◌-◌, ◌<◌, ◌≤◌, List, ◌++◌, length, take}
use Rattle.std.proofs.Common.{drop, Option, Some, None, Result, Ok, Err, sym, refl, ap, ◌∙◌, subst}
use Rattle.std.proofs.Common.{add-zero, arith, le_refl, length-append, length-drop, length-take-le}
use Rattle.std.proofs.Common.{take-add, drop_at}
use lib.Seq.{take-append-le}
use borrow.Rule.Slice.PartMut.{put_mid, post_of}
use Rattle.std.proofs.KnownBytes.{Consumes-trans}
use Rattle.std.proofs.lemmas.Slice.{take-put_mid_below}
use Rattle.std.specs.Io.{ReadsAtMost}
use Rattle.std.specs.Io.KnownBytes.{Consumes, ReadConsumes}
use Rattle.stream.specs.Stream.{Reads, heard}

-- What is heard to have come is what the read answered, and something.
pub goes_on : {E : Type 0} (got : Result ℕ E) (n : ℕ) → Ok (Some n) ≡ heard got → (got ≡ Ok n) × (0 < n)
unfolding heard
goes_on (Err _) _ e = cc
goes_on (Ok zero) _ e = cc
goes_on (Ok (suc k)) n e =
    let same : n ≡ suc k = cc in
    (ap Ok (sym same), omega arith)

-- Where the input is said to be over, none came.
pub ends : {E : Type 0} (got : Result ℕ E) → Ok None ≡ heard got → got ≡ Ok 0
unfolding heard
ends (Err _) e = cc
ends (Ok zero) _ = refl
ends (Ok (suc _)) e = cc

pub within : {E : Type 0} {got : Result ℕ E} {n : ℕ} (new : List ℕ)
    → got ≡ Ok n → ReadsAtMost got new → n ≤ length new
within new e h = (subst (λ r. ReadsAtMost r new) e h).0

-- The bytes that are read behind a place, where the buffer has room for them.
module _ (size room : ℕ) (buf new : List ℕ) (in_buf : size ≤ length buf) (all : room ≡ length buf - size)
    (full : length new ≡ room) where
  pub as_long : length (put_mid size room buf new) ≡ length buf
  as_long =
      omega (
        arith,
        all,
        full,
        length-append (take size buf) (new ++ post_of size room buf),
        length-take-le size buf in_buf,
        length-append new (post_of size room buf),
        length-drop room (drop size buf),
        length-drop size buf,
      )

  behind : drop size (put_mid size room buf new) ≡ new ++ post_of size room buf
  behind = drop_at (take size buf) (new ++ post_of size room buf) size (length-take-le size buf in_buf)

  front : take size (put_mid size room buf new) ≡ take size buf
  front = take-put_mid_below _ _ _ _ _ (le_refl _) in_buf

  joined : (n : ℕ) → n ≤ length new → take (size + n) (put_mid size room buf new) ≡ take size buf ++ take n new
  joined n fits =
      take-add size n (put_mid size room buf new) ∙ ap (λ l. l ++ take n (drop size (put_mid size room buf new))) front
      ∙ ap (λ (l : List ℕ). take size buf ++ take n l) behind
      ∙ ap (λ (l : List ℕ). take size buf ++ l) (take-append-le n new (post_of size room buf) fits)

  module _ {E : Type 0} (got : Result ℕ E) (a b c : Option (List ℕ)) (before : Consumes a b (take size buf))
      (taken : ReadConsumes b c got new) where
    pub onward : (n : ℕ) → got ≡ Ok n → n ≤ length new → Consumes a c (take (size + n) (put_mid size room buf new))
    onward n e fits =
        let said = subst (λ r. ReadConsumes b c r new) e taken in
        subst (Consumes a c) (sym (joined n fits)) (Consumes-trans a b c _ _ before said.0)

    -- Where none came, what had come stands, and none is left.
    pub over : size < length buf → got ≡ Ok 0
        → Reads {E = E} a c (Ok size) (put_mid size room buf new)
    over more none =
        let now = put_mid size room buf new in
        let stands : size ≤ length now = omega (arith, as_long, in_buf) in
        let taken_all : Consumes a c (take size now) =
        subst (λ n. Consumes a c (take n now)) (add-zero size) (onward 0 none (omega arith)) in
        let nothing = (subst (λ r. ReadConsumes b c r new) none taken).1 refl (omega (arith, all, full, more)) in
        record { within = (stands, sym (length-take-le size now stands)); taken = (taken_all, λ _. nothing) }
