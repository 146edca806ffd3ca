-- Laws of the letters: a byte that is none of them. Assumes nothing.
use Rattle.std.proofs.Common.{Option, Some, None}
use Rattle.prefix.specs.declared.Scale.{Scale}
use borrow.Author.Tests.{ne_eqb}
use lib.Dec.{eqb}
use lib.IntN.{ℤ, pos, ◌+ℤ◌}
use mathlib.Core.Bool.{cond}
use mathlib.Core.List.{List}
use mathlib.Core.Path.{◌≡◌, refl, ◌∙◌}
use Prim.Native.Nat.{ℕ}
use Rattle.prefix.specs.Prefix.{in_steps, prefix_of}
use Rattle.text.proofs.Keys.{Apart, also, back, front, none}
use Rattle.text.specs.Bytes.{ascii, byte}

none_of_row : {c : ℕ} {ls : List ℕ} (e : ℤ) (otherwise : Option Scale) → Apart c ls
    → in_steps c e ls otherwise ≡ otherwise
unfolding in_steps
none_of_row e otherwise none = refl
none_of_row {c} e otherwise (also {k} n a) = rw (ne_eqb c k n) (none_of_row (e +ℤ pos 3) otherwise a)

pub no_letter : {c : ℕ} → Apart c (ascii "afpnumkMGTPEi") → prefix_of c ≡ None
unfolding prefix_of
no_letter {c} a =
    none_of_row _ _ (front (ascii "afpnum") (ascii "kMGTPEi") a) ∙ upper (back (ascii "afpnum") (ascii "kMGTPEi") a)
  where
    last : {c : ℕ} → Apart c (ascii "i") → cond (eqb c (byte "i")) (Some Scale.Integer) None ≡ None
    last {c} (also n none) = rw (ne_eqb c (byte "i") n) refl

    upper : Apart c (ascii "kMGTPEi")
        → in_steps c (pos 3) (ascii "kMGTPE") (cond (eqb c (byte "i")) (Some Scale.Integer) None) ≡ None
    upper b =
        none_of_row _ _ (front (ascii "kMGTPE") (ascii "i") b) ∙ last (back (ascii "kMGTPE") (ascii "i") b)
