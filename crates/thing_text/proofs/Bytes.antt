-- Bytes behind bytes.
use borrow.Author.Tests.{lt-ltb, le-ltb}
use lib.ListN.{length}
use mathlib.Core.List.{List, [], ◌∷◌, ◌++◌, append_assoc}
use mathlib.Core.Path.{◌≡◌, refl}
use native.Mathlib.Omega.{arith}
use Prim.Native.Nat.{ℕ, ◌/◌, ◌%◌, ◌≤◌, ◌<◌}
use Rattle.text.proofs.Put.{fitting}
use Rattle.text.specs.Hex.{hex4}
use Rattle.text.specs.Put.{put_in, put, room}
use Rattle.thing_text.specs.Thing.{hex16, refused, accepted, leaves, write}

pub four_put : (v : ℕ) → put_in (0 ∷ 0 ∷ 0 ∷ 0 ∷ []) 0 (hex4 v) ≡ hex4 v
unfolding hex4 put_in put room
four_put v = refl

pub sixteen : (s t u v w : List ℕ) {a b c d : ℕ} (n : ℕ)
    → a ≡ n / 65536 / 65536 / 65536 % 65536
    → b ≡ n / 65536 / 65536 % 65536
    → c ≡ n / 65536 % 65536
    → d ≡ n % 65536
    → t ≡ s ++ hex4 a → u ≡ t ++ hex4 b → v ≡ u ++ hex4 c → w ≡ v ++ hex4 d
    → w ≡ s ++ hex16 n
unfolding hex16
sixteen s t u v w n e f g h p q r z = rw (z, r, q, p, e, f, g, h) (simp append_assoc)

-- ---- into the lent buffer

pub too_short : (text buf bytes : List ℕ) → bytes ≡ text → length buf < length bytes
    → leaves (refused 5 0) buf ≡ write text buf
unfolding write
too_short text buf bytes e h = rw (← e, lt-ltb (length buf) (length bytes) h)

pub all_written : (text buf after bytes : List ℕ) → bytes ≡ text → length bytes ≤ length buf
    → after ≡ put_in buf 0 bytes
    → leaves (accepted (length bytes)) after ≡ write text buf
unfolding write
all_written text buf after bytes e h k =
    rw (← e, le-ltb (length buf) (length bytes) h, k, fitting buf bytes 0 (omega arith))
